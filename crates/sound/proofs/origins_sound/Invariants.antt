use Rattle.std.proofs.Common.{◌≡◌, true, ◌≤◌, nat_le}
use Rattle.clock.specs.Map.{all}
use Rattle.layout.specs.State.{state_of}
use Rattle.sound.specs.Checks.{lowest_in, origin_in}
use Rattle.sound.proofs.origins_sound.Given as goal

abbrev pub invariant-loop-s : goal.invariant-loop-s
invariant-loop-s l =
    let a = (state_of l.t).applied in
    (l.low ≡ lowest_in (state_of l.t) l.s l.o) × (l.low ≤ l.top) × (all l.s (λ s. nat_le (a s l.o) (a l.o l.o)) ≡ true)

abbrev pub invariant-loop-o : goal.invariant-loop-o
invariant-loop-o l = all l.o (origin_in (state_of l.t) l.counts.sites l.counts.keys) ≡ true
