use Rattle.std.proofs.Common.{◌≡◌, ◌↔◌, arith}
use Rattle.layout.specs.Ranges.{Bytes, Zeros}
use Rattle.layout.specs.Fields.{part}
use Rattle.sound.proofs.Bytes.{one_more}
use Rattle.sound.proofs.Stray.and.Goals as goal

pub returns : goal.returns
unfolding Bytes
returns c =
    let a = c.args in
    let bytes : Bytes a.e.now = λ i. omega (arith, c.type_inv.e i) in
    let value : (c.from.result ≡ 0) ↔ Zeros (part a.e.now 0 4) = rw c.from.ensures c.read_quad-value.ensures in
    let tag : (c.from-2.result ≡ 0) ↔ Zeros (part a.e.now 4 2) = rw c.from-2.ensures c.read_pair-tag.ensures in
    one_more a.e.now c.requires.0 bytes c.requires.1 a.self value tag c.read_word-left.ensures c.read_word-right.ensures
    c.either.ensures c.either-2.ensures c.either-3.ensures
