-- Every call leaves a sound table sound, and an accepted one leaves no other. Assumes nothing.
use mathlib.Core.Path.{◌≡◌, refl, sym, ap, subst}
use mathlib.Core.Bool.{false}
use mathlib.Core.List.{[]}
use mathlib.Core.Logic.{⊎_elim, ◌≢◌}
use Prim.Native.Nat.{ℕ}
use Rattle.layout.specs.State.{State}
use Rattle.rules.specs.Sound.{Sound}
use Rattle.rules.specs.Engine.{Engine}
use Rattle.rules.specs.Steps.{Outcome, put, learn, get, look, deliver, touch, cold, retire}
use Rattle.rules.specs.Refusals.{first}
use Rattle.rules.specs.Drain.{turn, drained, drain}
use Rattle.rules.specs.Calls.{Call, Open, Put, Get, Deliver, Drain, Cold, Touch, Look, Adopt, Retire, refusals, step, run}
use Rattle.laws.specs.Theorems.{AcceptedSound, KeepsSound}
use Rattle.laws.specs.Retirement.{RetiredKept}
use Rattle.laws.proofs.Ready.{open_ready, put_ready, get_ready, adopt_ready, deliver_ready, drain_ready, cold_ready, touch_ready, retire_ready}
use Rattle.laws.proofs.Given.{run_cases, run_accepted}
use Rattle.laws.proofs.Keeps.{open_sound, put_sound, get_sound, deliver_sound, retire_sound}
use Rattle.laws.proofs.Touching.{Apart, learn_apart, touch_sound}
use Rattle.laws.proofs.Draining.{by_deliveries}

-- what holds of the table and of the one after a step
pub after_run : (E : Engine) (S : State) (c : Call) (P : State → Type 0) → (first (refusals S c) ≡ 0 → P (step E S c).after) → P S → P (run E S c).after
after_run E S c P f p =
    ⊎_elim
    (λ q. subst (λ (r : Outcome). P r.after) (sym q.1) (f q.0))
    (λ q. subst (λ (r : Outcome). P r.after) (sym q.1) p)
    (run_cases E S c)

-- ## Soundness

pub drained_sound : (E : Engine) (S : State) (s b : ℕ) → Sound S → Sound (drained E S s b).after
unfolding drained
drained_sound E S s b =
    by_deliveries E s (λ b S T ds t r. Sound S → Sound r.after)
    (λ b S ds t D. D)
    (λ S o d ds t D. D)
    (λ b S o d ds t r R f D. f (deliver_sound E S s o R))
    (λ b S o d ds t r z f D. f D)
    b S (turn S.n s 0 false) [] 0

pub step_sound : (E : Engine) (S : State) (c : Call) → first (refusals S c) ≡ 0 → Sound (step E S c).after
unfolding step look cold drain refusals
step_sound E S (Open n k) z = open_sound n k ((open_ready n k).0 z)
step_sound E S (Put s x v) z = put_sound E S s x v ((put_ready S s x).0 z)
step_sound E S (Get s x) z = get_sound E S s x ((get_ready S s x).0 z).sound
step_sound E S (Deliver s o) z = deliver_sound E S s o ((deliver_ready S s o).0 z)
step_sound E S (Drain s b) z = drained_sound E S s b ((drain_ready S s).0 z).sound
step_sound E S (Cold s now T m) z = (cold_ready S s now T m z).sound
step_sound E S (Touch s x now u r) z = touch_sound E S s x now u r (touch_ready S s x now u r z).put
step_sound E S (Look s x) z = ((get_ready S s x).0 z).sound
step_sound E S (Retire s) z = retire_sound S s ((retire_ready S s).0 z)
step_sound E S (Adopt s x o c) z = get_sound E S s x ((adopt_ready S s x o c).0 z).get.sound

pub accepted_sound : AcceptedSound
accepted_sound E S c z =
    let r = run_accepted E S c z in subst (λ (x : Outcome). Sound x.after) (sym r.1) (step_sound E S c r.0)

pub keeps_sound : KeepsSound
keeps_sound E S c = after_run E S c Sound (step_sound E S c)

-- ## The counts of sites and keys

abbrev pub SameCounts : State → State → Type 0
SameCounts S T = (T.n ≡ S.n) × (T.k ≡ S.k)

drained_counts : (E : Engine) (S : State) (s b : ℕ) → SameCounts S (drained E S s b).after
unfolding drained deliver
drained_counts E S₀ s b =
    by_deliveries E s (λ b S T ds t r. SameCounts S₀ S → SameCounts S₀ r.after)
    (λ b S ds t D. D)
    (λ S o d ds t D. D)
    (λ b S o d ds t r R f D. f D)
    (λ b S o d ds t r z f D. f D)
    b S₀ (turn S₀.n s 0 false) [] 0 (refl, refl)

apart_counts : (S T : State) → Apart S T → SameCounts S T
apart_counts S T p = (ap (λ (R : State). R.n) p.1, ap (λ (R : State). R.k) p.1)

step_counts : (E : Engine) (S : State) (c : Call) → ((n k : ℕ) → c ≢ Open n k) → SameCounts S (step E S c).after
unfolding step put get look deliver drain touch cold retire
step_counts E S (Open n k) h = absurd (h n k refl)
step_counts E S (Put s x v) h = (refl, refl)
step_counts E S (Get s x) h = apart_counts S _ (learn_apart E S s x)
step_counts E S (Deliver s o) h = (refl, refl)
step_counts E S (Drain s b) h = drained_counts E S s b
step_counts E S (Cold s now T m) h = (refl, refl)
step_counts E S (Touch s x now u r) h = apart_counts S _ (learn_apart E S s x)
step_counts E S (Look s x) h = (refl, refl)
step_counts E S (Adopt s x o c) h = apart_counts S _ (learn_apart E S s x)
step_counts E S (Retire s) h = (refl, refl)

-- only open changes them
pub counts_kept : (E : Engine) (S : State) (c : Call) → ((n k : ℕ) → c ≢ Open n k) → SameCounts S (run E S c).after
counts_kept E S c h = after_run E S c (SameCounts S) (λ z. step_counts E S c h) (refl, refl)

-- ## Who is retired

drained_retired : (E : Engine) (S : State) (s b : ℕ) → (drained E S s b).after.retired ≡ S.retired
unfolding drained deliver
drained_retired E S₀ s b =
    by_deliveries E s (λ b S T ds t r. S.retired ≡ S₀.retired → r.after.retired ≡ S₀.retired)
    (λ b S ds t e. e)
    (λ S o d ds t e. e)
    (λ b S o d ds t r R f e. f e)
    (λ b S o d ds t r z f e. f e)
    b S₀ (turn S₀.n s 0 false) [] 0 refl

-- only open and retire change that
pub retired_kept : RetiredKept
unfolding step put get look deliver drain touch cold
retired_kept E S c h k = after_run E S c (λ R. R.retired ≡ S.retired) (λ z. go c h k) refl
  where
    learns : (s x : ℕ) → (learn E S s x).retired ≡ S.retired
    learns s x = ap (λ (R : State). R.retired) (learn_apart E S s x).1

    go : (c : Call) → ((n k : ℕ) → c ≢ Open n k) → ((s : ℕ) → c ≢ Retire s) → (step E S c).after.retired ≡ S.retired
    go (Open n k) h g = absurd (h n k refl)
    go (Put s x v) h g = refl
    go (Get s x) h g = learns s x
    go (Deliver s o) h g = refl
    go (Drain s b) h g = drained_retired E S s b
    go (Cold s now T m) h g = refl
    go (Touch s x now u r) h g = learns s x
    go (Look s x) h g = refl
    go (Adopt s x o c) h g = learns s x
    go (Retire s) h g = absurd (g s refl)
