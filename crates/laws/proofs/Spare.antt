-- The zero byte of every entry stays zero, whatever calls come. Assumes nothing.
use mathlib.Core.Path.{◌≡◌, refl, ap, ◌∙◌}
use mathlib.Core.Bool.{false}
use mathlib.Core.List.{[]}
use mathlib.Core.Logic.{⊎_elim}
use Prim.Native.Nat.{ℕ}
use Rattle.clock.specs.Map.{◌⟨◌⟩⟨◌≔◌⟩}
use Rattle.clock.proofs.Maps.{choice, at_is₂}
use Rattle.layout.specs.State.{State, Entry}
use Rattle.rules.specs.Engine.{Engine}
use Rattle.rules.specs.Steps.{opened, put, learn, get, look, waiting, deliver, touch, cold, retire}
use Rattle.rules.specs.Drain.{turn, drained, drain}
use Rattle.rules.specs.Calls.{Call, Open, Put, Get, Deliver, Drain, Cold, Touch, Look, Adopt, Retire, step, run}
use Rattle.laws.proofs.Touching.{learn_apart}
use Rattle.laws.proofs.Draining.{by_deliveries}
use Rattle.laws.proofs.After.{after_run}

abbrev pub Spare : State → Type 0
Spare S = (s x : ℕ) → (S.store s x).zero ≡ 0

set_spare : (m : ℕ → ℕ → Entry) (s x : ℕ) (e : Entry) → e.zero ≡ 0 → ((s x : ℕ) → (m s x).zero ≡ 0) → (s' x' : ℕ) → ((m ⟨ s ⟩⟨ x ≔ e ⟩) s' x').zero ≡ 0
set_spare m s x e z Z s' x' = ⊎_elim (λ p. ap (λ (e : Entry). e.zero) p.2 ∙ z) (λ p. ap (λ (e : Entry). e.zero) p.1 ∙ Z s' x') (at_is₂ m s x e s' x')

module _ (E : Engine) (S : State) (Z : Spare S) where
  put_spare : (s x v : ℕ) → Spare (put E S s x v).after
  unfolding put
  put_spare s x v = set_spare S.store s x _ refl Z

  learn_spare : (s x : ℕ) → Spare (learn E S s x)
  learn_spare s x s' x' = ap (λ (R : State). (R.store s' x').zero) (learn_apart E S s x).1 ∙ Z s' x'

  deliver_spare : (s o : ℕ) → Spare (deliver E S s o).after
  unfolding deliver
  deliver_spare s o =
      choice (E.replaces (waiting S s o) o (S.store s (waiting S s o).key)) (λ (m : ℕ → ℕ → Entry). (s x : ℕ) → (m s x).zero ≡ 0)
      (λ e. set_spare S.store s _ _ refl Z) (λ e. Z)

drained_spare : (E : Engine) (S : State) (s b : ℕ) → Spare S → Spare (drained E S s b).after
unfolding drained
drained_spare E S s b =
    by_deliveries E s (λ b S T ds t r. Spare S → Spare r.after)
    (λ b S ds t Z. Z)
    (λ S o d ds t Z. Z)
    (λ b S o d ds t r R f Z. f (deliver_spare E S Z s o))
    (λ b S o d ds t r z f Z. f Z)
    b S (turn S.n s 0 false) [] 0

pub open_spare : (n k : ℕ) → Spare (opened n k)
unfolding opened
open_spare n k s x = refl

step_spare : (E : Engine) (S : State) (c : Call) → Spare S → Spare (step E S c).after
unfolding step get look drain touch cold retire
step_spare E S (Open n k) Z = open_spare n k
step_spare E S (Put s x v) Z = put_spare E S Z s x v
step_spare E S (Get s x) Z = learn_spare E S Z s x
step_spare E S (Deliver s o) Z = deliver_spare E S Z s o
step_spare E S (Drain s b) Z = drained_spare E S s b Z
step_spare E S (Cold s now T m) Z = Z
step_spare E S (Touch s x now u r) Z = put_spare E _ (learn_spare E S Z s x) s x _
step_spare E S (Look s x) Z = Z
step_spare E S (Adopt s x o c) Z = learn_spare E S Z s x
step_spare E S (Retire s) Z = Z

pub run_spare : (E : Engine) (S : State) (c : Call) → Spare S → Spare (run E S c).after
run_spare E S c Z = after_run E S c Spare (λ z. step_spare E S c Z) Z
