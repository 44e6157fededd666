use Rattle.std.proofs.Common.{◌≡◌, ◌∙◌, sym, ap, ℕ, ◌*◌, ◌+◌, ◌-◌, ◌++◌, length, take, drop, get_or, arith}
use lib.ListN.{length-append, length-take, length-drop}
use Rattle.clock.proofs.Cells.{cells_zeros}
use Rattle.layout.specs.State.{square, table}
use Rattle.layout.specs.Ranges.{Zeros}
use Rattle.layout.specs.Records.{block}
use Rattle.layout.proofs.Splice.{length_part, splice_zeros}
use Rattle.layout.proofs.Zeros.{zeros_long, all_zero_read}
use Rattle.layout.proofs.clear.Goals as goal

pub loop-i-preserved : goal.loop-i-preserved
loop-i-preserved c =
    let l = c.loop-i in
    let b = c.fill in
    let at : ℕ = l.i * square.width in
    let long : length b.new.self ≡ at + block - at = b.ensures.len ∙ length_part l.t at (at + block - at) (omega arith) in
    let zeros : Zeros b.new.self = rw (b.ensures.after (λ y e. e)) (λ i. ap (λ (f : ℕ → ℕ). f i) (cells_zeros _)) in (
      simp (length-append, length-take, length-drop) (omega (arith, long, l.invariant.0)),
      λ j k h.
          ap (λ (w : ℕ). get_or (take at l.t ++ (b.new.self ++ drop w (drop at l.t))) j 0) (sym long)
          ∙ splice_zeros l.t b.new.self at (omega arith) (λ j k. l.invariant.1 j (omega arith) (omega arith)) zeros j (omega arith),
    )

pub returns : goal.returns
returns c =
    all_zero_read c.loop-i.t (zeros_long c.loop-i.t table.width (omega arith) (λ j h. c.loop-i.invariant.1 j (omega arith) (omega arith)))
