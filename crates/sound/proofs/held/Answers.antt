use Rattle.std.proofs.Common.{◌≡◌, ◌≢◌, ◌&&◌, ◌-◌, ◌+◌, suc, refl, sym, ◌∙◌, add-one, nat_lt, eq-eqb}
use borrow.Author.Tests.{ne_eqb}
use Rattle.layout.specs.State.{fields}
use Rattle.layout.specs.Fields.{part}
use Rattle.layout.specs.Records.{fields_at}
use Rattle.layout.proofs.Places.{clock_read, tag_read}
use Rattle.sound.specs.Checks.{held_in}
use Rattle.sound.proofs.Bytes.{update_there}
use Rattle.sound.proofs.held.Goals as goal

pub returns-then-from-c : goal.returns-then-from-c
returns-then-from-c c =
    let a = c.args in
    let at = c.record_place-at.result in
    let u = part a.t.now at (at + fields.width - at) in
    let clock : (fields_at u).1.1.1.0 ≡ suc a.c = sym (c.from.ensures ∙ c.read_clock.ensures ∙ clock_read u) ∙ c.if-from-c.true ∙ add-one a.c in
    (λ i. sym (eq-eqb _ _ clock) i && nat_lt ((c.from-then-from-c.ensures ∙ tag_read u) i) a.k) ∙ (λ i. held_in a.k (suc a.c) (update_there a.t.now a.o a.c c.requires.0 c.record_place-at.ensures i))

pub returns-else-from-c : goal.returns-else-from-c
returns-else-from-c c =
    let a = c.args in
    let at = c.record_place-at.result in
    let u = part a.t.now at (at + fields.width - at) in
    let clock : c.from.result ≡ (fields_at u).1.1.1.0 = c.from.ensures ∙ c.read_clock.ensures ∙ clock_read u in
    let other : c.from.result ≢ suc a.c = λ e. c.if-from-c.false (e ∙ sym (add-one a.c)) in
    (rw (add-one, ← clock, ne_eqb _ _ other) refl) ∙ (λ i. held_in a.k (suc a.c) (update_there a.t.now a.o a.c c.requires.0 c.record_place-at.ensures i))
