-- A drain changes its own site's counts of others, and no other count. Assumes nothing.
use mathlib.Core.Path.{◌≡◌, refl, sym, ◌∙◌}
use mathlib.Core.Bool.{false}
use mathlib.Core.List.{[]}
use mathlib.Core.Logic.{⊎_elim}
use Prim.Native.Nat.{ℕ}
use Rattle.clock.proofs.Maps.{at_is₂}
use Rattle.layout.specs.State.{State}
use Rattle.rules.specs.Engine.{Engine}
use Rattle.rules.specs.Steps.{next, deliver}
use Rattle.rules.specs.Drain.{turn, drained, drain}
use Rattle.rules.specs.Calls.{Drain, step, run}
use Rattle.laws.proofs.Draining.{by_deliveries}
use Rattle.laws.proofs.After.{after_run}

-- counts of other sites, and of the site's own puts
abbrev Elsewhere : (s : ℕ) → State → State → Type 0
Elsewhere s S T = (s' o : ℕ) → (s' ≡ s → o ≡ s) → T.applied s' o ≡ S.applied s' o

drained_elsewhere : (E : Engine) (S : State) (s b : ℕ) → Elsewhere s S (drained E S s b).after
unfolding drained deliver
drained_elsewhere E S s b =
    by_deliveries E s (λ b S T ds t r. Elsewhere s S r.after)
    (λ b S ds t s' o k. refl)
    (λ S o d ds t s' o' k. refl)
    (λ b S o d ds t r R f s' o' k. f s' o' k ∙ ⊎_elim (λ p. absurd (R.others (sym (p.1 ∙ k (sym p.0))))) (λ p. p.1) (at_is₂ S.applied s o (next S s o) s' o'))
    (λ b S o d ds t r z f. f)
    b S (turn S.n s 0 false) [] 0

pub drain_elsewhere : (E : Engine) (S : State) (s b : ℕ) → Elsewhere s S (run E S (Drain s b)).after
unfolding step drain
drain_elsewhere E S s b = after_run E S (Drain s b) (Elsewhere s S) (λ z. drained_elsewhere E S s b) (λ s' o k. refl)
