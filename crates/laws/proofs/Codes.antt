-- Each code is answered exactly when document 01 gives it, and with the numbers it says. Assumes nothing.
use mathlib.Core.Path.{◌≡◌, refl, sym, ap, subst, ◌∙◌}
use mathlib.Core.Logic.Iff
use mathlib.Core.Logic.{◌⊎◌, inl, inr, ⊎_elim, ◌≢◌, ◌↔◌}
use Prim.Native.Nat.{ℕ, ◌≤◌, ◌<◌}
use native.Mathlib.Omega.{arith}
use borrow.Author.Tests.{ne_eqb}
use Rattle.clock.proofs.Maps.{le?}
use Rattle.clock.proofs.Below.{least_is}
use Rattle.clock.proofs.Bits.{mask_below, bit_mask}
use Rattle.layout.specs.State.{State}
use Rattle.rules.specs.Engine.{Engine}
use Rattle.rules.specs.Steps.{Outcome, refused, put, get, look, deliver, touch, cold, retire}
use Rattle.rules.specs.Refusals.{first, missing}
use Rattle.rules.specs.Drain.{Drained, drained, drain}
use Rattle.rules.specs.Calls.{Call, Open, Put, Get, Deliver, Drain, Cold, Touch, Look, Adopt, Retire, refusals, beside, step, run}
use Rattle.laws.specs.Theorems.{Clear, needed, Enough, Spent, GivenExactly, AcceptedExactly, SpentExactly, RefusedKeeps, RefusedZeros, LowestMissing, MissingNamed}
use Rattle.laws.proofs.Ready.{OpenReady, DrainReady, open_ready, deliver_ten, drain_ready}
use Rattle.laws.proofs.Given.{first_given, refusals_clear, no_eleven, run_cases, run_refused, run_accepted}
use Rattle.laws.proofs.Draining.{drained_code, tries_within, drained_same, drained_later}
use Rattle.laws.proofs.Tries.{budget_enough}

-- a step answers 0, or a drain's step 11
pub step_code : (E : Engine) (S : State) (c : Call) → ((step E S c).answer.code ≡ 0) ⊎ ((step E S c).answer.code ≡ 11)
unfolding step put get look deliver drain touch cold retire
step_code E S (Open n k) = inl refl
step_code E S (Put s x v) = inl refl
step_code E S (Get s x) = inl refl
step_code E S (Deliver s o) = inl refl
step_code E S (Drain s b) = ⊎_elim inl (λ q. inr q.0) (drained_code E S s b)
step_code E S (Cold s now T m) = inl refl
step_code E S (Touch s x now u r) = inl refl
step_code E S (Look s x) = inl refl
step_code E S (Adopt s x o c) = inl refl
step_code E S (Retire s) = inl refl

-- a refusal other than 11 is the first condition that holds
pub turned_down : (E : Engine) (S : State) (c : Call) (e : ℕ) → e ≢ 0 → e ≢ 11 → (run E S c).answer.code ≡ e
    → (first (refusals S c) ≡ e) × (run E S c ≡ record { answer = beside S c e; after = S })
turned_down E S c e z y q =
    ⊎_elim
    (λ p. ⊎_elim
    (λ r. absurd (z (sym q ∙ ap (λ (x : Outcome). x.answer.code) p.1 ∙ r)))
    (λ r. absurd (y (sym q ∙ ap (λ (x : Outcome). x.answer.code) p.1 ∙ r)))
    (step_code E S c))
    (λ p.
    let f : first (refusals S c) ≡ e = sym (run_refused E S c p.0) ∙ q in
    (f, subst (λ (i : ℕ). run E S c ≡ record { answer = beside S c i; after = S }) f p.1))
    (run_cases E S c)

pub code_first : (E : Engine) (S : State) (c : Call) (e : ℕ) → e ≢ 0 → e ≢ 11 → ((run E S c).answer.code ≡ e) ↔ (first (refusals S c) ≡ e)
code_first E S c e z y = ((λ q. (turned_down E S c e z y q).0), λ (q : first (refusals S c) ≡ e). run_refused E S c (λ f. z (sym q ∙ f)) ∙ q)

pub given_exactly : GivenExactly
given_exactly E S c e z y = Iff.trans (code_first E S c e z y) (first_given (refusals S c) e z)

pub refused_keeps : RefusedKeeps
refused_keeps E S c z y = ap (λ (r : Outcome). r.after) (turned_down E S c _ z y refl).1

-- ## Numbers beside a code

pub beside_zeros : (S : State) (c : Call) (e : ℕ) → e ≢ 10 → beside S c e ≡ refused e
unfolding beside
beside_zeros S (Open n k) e h = refl
beside_zeros S (Put s x v) e h = refl
beside_zeros S (Get s x) e h = refl
beside_zeros S (Deliver s o) e h = rw (ne_eqb e 10 h)
beside_zeros S (Drain s b) e h = refl
beside_zeros S (Cold s now T m) e h = refl
beside_zeros S (Touch s x now u r) e h = refl
beside_zeros S (Look s x) e h = refl
beside_zeros S (Adopt s x o c) e h = refl
beside_zeros S (Retire s) e h = refl

pub refused_zeros : RefusedZeros
refused_zeros E S c e z y x q = ap (λ (r : Outcome). r.answer) (turned_down E S c e z x q).1 ∙ beside_zeros S c e y

pub missing_named : MissingNamed
unfolding refusals beside
missing_named E S s o q =
    let t = turned_down E S (Deliver s o) 10 (omega arith) (omega arith) q in
    let l = least_is (missing S s o) 8 ((deliver_ten S s o).0 t.0).1.1.1.1.1 in
    subst (λ (r : Outcome). LowestMissing S s o r.answer) (sym t.1)
    (record {
      column = l.0;
      fails = l.1;
      lowest = l.2;
      clock = refl;
      bits = bit_mask (missing S s o) 8;
      below = mask_below (missing S s o) 8;
      others = refl;
    })

-- ## The budget

module _ (E : Engine) (S : State) (s b : ℕ) (R : DrainReady S s) where
  budget_spent : (drained E S s b).code ≡ 11 → b < needed E S s
  unfolding drain
  budget_spent z =
      ⊎_elim
      (λ (h : 903 ≤ b). absurd (omega (arith, budget_enough E S R.sound s b (R.site, R.live) h)))
      (λ h. drained_later E S s b 903 h z)
      (le? 903 b)

  budget_served : (drained E S s b).code ≡ 0 → needed E S s ≤ b
  unfolding drain
  budget_served z =
      ⊎_elim
      (λ (h : 903 ≤ b). omega (arith, (tries_within E S s 903).0))
      (λ h. omega (arith, ap (λ (r : Drained). r.tries) (drained_same E S s b 903 (omega arith) z), (tries_within E S s b).0))
      (le? 903 b)

  pub budget_enough_exactly : ((drained E S s b).code ≡ 0) ↔ (needed E S s ≤ b)
  budget_enough_exactly = (budget_served, λ h. ⊎_elim (λ z. z) (λ z. absurd (omega (arith, budget_spent z.0))) (drained_code E S s b))

  pub budget_spent_exactly : ((drained E S s b).code ≡ 11) ↔ (b < needed E S s)
  budget_spent_exactly = (budget_spent, λ h. ⊎_elim (λ z. absurd (omega (arith, budget_served z))) (λ z. z.0) (drained_code E S s b))

-- ## The codes of a step

pub step_enough : (E : Engine) (S : State) (c : Call) → first (refusals S c) ≡ 0 → ((step E S c).answer.code ≡ 0) ↔ Enough E S c
unfolding step put get look deliver drain touch cold retire refusals
step_enough E S (Open n k) z = ((λ q. tt), λ q. refl)
step_enough E S (Put s x v) z = ((λ q. tt), λ q. refl)
step_enough E S (Get s x) z = ((λ q. tt), λ q. refl)
step_enough E S (Deliver s o) z = ((λ q. tt), λ q. refl)
step_enough E S (Drain s b) z = budget_enough_exactly E S s b ((drain_ready S s).0 z)
step_enough E S (Cold s now T m) z = ((λ q. tt), λ q. refl)
step_enough E S (Touch s x now u r) z = ((λ q. tt), λ q. refl)
step_enough E S (Look s x) z = ((λ q. tt), λ q. refl)
step_enough E S (Adopt s x o c) z = ((λ q. tt), λ q. refl)
step_enough E S (Retire s) z = ((λ q. tt), λ q. refl)

pub step_spent : (E : Engine) (S : State) (c : Call) → first (refusals S c) ≡ 0 → ((step E S c).answer.code ≡ 11) ↔ Spent E S c
unfolding step put get look deliver drain touch cold retire refusals
step_spent E S (Open n k) z = ((λ q. omega arith), absurd)
step_spent E S (Put s x v) z = ((λ q. omega arith), absurd)
step_spent E S (Get s x) z = ((λ q. omega arith), absurd)
step_spent E S (Deliver s o) z = ((λ q. omega arith), absurd)
step_spent E S (Drain s b) z = budget_spent_exactly E S s b ((drain_ready S s).0 z)
step_spent E S (Cold s now T m) z = ((λ q. omega arith), absurd)
step_spent E S (Touch s x now u r) z = ((λ q. omega arith), absurd)
step_spent E S (Look s x) z = ((λ q. omega arith), absurd)
step_spent E S (Adopt s x o c) z = ((λ q. omega arith), absurd)
step_spent E S (Retire s) z = ((λ q. omega arith), absurd)

-- a code that no refusal has
steps_exactly : (E : Engine) (S : State) (c : Call) (e : ℕ) (Q : Type 0) → (first (refusals S c) ≢ 0 → first (refusals S c) ≢ e)
    → (first (refusals S c) ≡ 0 → ((step E S c).answer.code ≡ e) ↔ Q) → ((run E S c).answer.code ≡ e) ↔ (Clear (refusals S c) × Q)
steps_exactly E S c e Q h f = (
  (λ q.
      ⊎_elim
      (λ p. ((refusals_clear S c).0 p.0, (f p.0).0 (sym (ap code p.1) ∙ q)))
      (λ p. absurd (h p.0 (sym (run_refused E S c p.0) ∙ q)))
      (run_cases E S c)),
  λ r. let z = (refusals_clear S c).1 r.0 in ⊎_elim (λ p. ap code p.1 ∙ (f z).1 r.1) (λ p. absurd (p.0 z)) (run_cases E S c),
)
  where
    code : Outcome → ℕ
    code r = r.answer.code

pub accepted_exactly : AcceptedExactly
accepted_exactly E S c = steps_exactly E S c 0 (Enough E S c) (λ z. z) (step_enough E S c)

pub spent_exactly : SpentExactly
spent_exactly E S c = steps_exactly E S c 11 (Spent E S c) (λ z. no_eleven S c) (step_spent E S c)

-- ## What an accepted call may rely on

pub accepted_first : (E : Engine) (S : State) (c : Call) → (step E S c).answer.code ≡ 0 → ((run E S c).answer.code ≡ 0) ↔ (first (refusals S c) ≡ 0)
accepted_first E S c h = (
  (λ z. (run_accepted E S c z).0),
  λ z. ⊎_elim (λ p. ap (λ (r : Outcome). r.answer.code) p.1 ∙ h) (λ p. absurd (p.0 z)) (run_cases E S c),
)

pub open_accepted : (E : Engine) (S : State) (n k : ℕ) → ((run E S (Open n k)).answer.code ≡ 0) ↔ OpenReady n k
unfolding step refusals
open_accepted E S n k = Iff.trans (accepted_first E S (Open n k) refl) (open_ready n k)
