use Rattle.std.proofs.Common.{◌≡◌, true}
use Rattle.clock.specs.Map.{all}
use Rattle.layout.specs.State.{state_of}
use Rattle.sound.specs.Checks.{none_in, written_in}
use Rattle.sound.proofs.entries_sound.Given as goal

abbrev pub invariant-loop-x : goal.invariant-loop-x
invariant-loop-x l = all l.x (λ x. written_in l.counts.sites ((state_of l.t).applied l.s) ((state_of l.t).store l.s x)) ≡ none_in l.stray

abbrev pub invariant-loop-s : goal.invariant-loop-s
invariant-loop-s l = all l.s (λ s. all l.counts.keys (λ x. written_in l.counts.sites ((state_of l.t).applied s) ((state_of l.t).store s x))) ≡ true
