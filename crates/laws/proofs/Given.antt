-- A code is answered exactly when its condition holds and none listed before it does. Assumes nothing.
use mathlib.Core.Path.{◌≡◌, refl, sym, ap, ◌∙◌}
use mathlib.Core.Bool.{Bool, true, false}
use mathlib.Core.List.{List, [], ◌∷◌, ◌++◌}
use mathlib.Core.Logic.{◌⊎◌, inl, inr, ⊎_elim, ◌≢◌, ◌↔◌}
use Prim.Native.Nat.{ℕ}
use native.Mathlib.Omega.{arith}
use lib.Dec.{eqb}
use borrow.Author.Tests.{eqb-true, eq-eqb, ne_eqb}
use Rattle.clock.proofs.Maps.{both, choice, eq?}
use Rattle.clock.proofs.Says.{Says, Denies}
use Rattle.layout.specs.State.{State, state_of}
use Rattle.rules.specs.Engine.{Engine}
use Rattle.rules.specs.Steps.{Numbers, Outcome}
use Rattle.rules.specs.Refusals.{Refusals, first, open_refusals, put_refusals, get_refusals, adopt_refusals, deliver_refusals, site_refusals, touch_refusals, retire_refusals, unless}
use Rattle.rules.specs.Calls.{Call, Open, Put, Get, Deliver, Drain, Cold, Touch, Look, Adopt, Retire, words, inside, refusals, beside, step, run, asks}
use Rattle.laws.specs.Theorems.{Given, Clear, CodesListed, FollowsOrder}

-- ## The first condition that holds

-- the first code whose condition holds is e exactly when P; none is 0
pub record Gives (ps : Refusals) (e : ℕ) (P : Type 0) : Type 0 where
  pub exactly : (first ps ≡ e) ↔ P

pub end : Gives [] 0 (Unit {0})
end = record { exactly = ((λ z. tt), λ z. refl) }

pub here : (e : ℕ) {t : Bool} {P : Type 0} (ps : Refusals) → first ps ≢ e → Says t P → Gives ((e, t) ∷ ps) e P
here e {t = true} ps h p = record { exactly = ((λ z. p.0 refl), λ r. refl) }
here e {t = false} ps h p = record { exactly = ((λ z. absurd (h z)), λ r. both (p.1 r) refl) }

pub past : (c : ℕ) {t : Bool} {P Q : Type 0} {ps : Refusals} {e : ℕ} → c ≢ e → Denies t P → Gives ps e Q → Gives ((c, t) ∷ ps) e (P × Q)
past c {t = true} h p q = record { exactly = ((λ z. absurd (h z)), λ r. both refl (p.1 r.0)) }
past c {t = false} h p q = record { exactly = ((λ z. (p.0 refl, q.exactly.0 z)), λ r. q.exactly.1 r.1) }

module _ (ps : Refusals) (numbers : ℕ → Numbers) (S : State) (step : Outcome) where
  pub unless_none : first ps ≡ 0 → unless ps numbers S step ≡ step
  unless_none h = rw (eq-eqb (first ps) 0 h)

  pub unless_first : (e : ℕ) → first ps ≡ e → e ≢ 0 → unless ps numbers S step ≡ record { answer = numbers e; after = S }
  unless_first e h z = rw (h, ne_eqb e 0 z)

-- ## What is given

pub first_given : (ps : Refusals) (e : ℕ) → e ≢ 0 → (first ps ≡ e) ↔ Given ps e
first_given [] e h = ((λ q. absurd (h (sym q))), absurd)
first_given ((c, true) ∷ ps) e h = ((λ q. inl (q, refl)), ⊎_elim (λ g. g.0) (λ g. both refl g.0))
first_given ((c, false) ∷ ps) e h =
    ((λ q. inr (refl, (first_given ps e h).0 q)), ⊎_elim (λ g. both g.1 refl) (λ g. (first_given ps e h).1 g.1))

-- the code is not listed
abbrev pub Avoids : (code : ℕ) → Refusals → Type 0
Avoids e [] = Unit {0}
Avoids e (p ∷ ps) = (p.0 ≢ e) × Avoids e ps

pub first_avoids : (e : ℕ) (ps : Refusals) → e ≢ 0 → Avoids e ps → first ps ≢ e
first_avoids e [] z a q = z (sym q)
first_avoids e ((c, true) ∷ ps) z a q = a.0 q
first_avoids e ((c, false) ∷ ps) z a q = first_avoids e ps z a.1 q

pub first_clear : (ps : Refusals) → Avoids 0 ps → (first ps ≡ 0) ↔ Clear ps
first_clear [] a = ((λ q. tt), λ g. refl)
first_clear ((c, true) ∷ ps) a = ((λ q. absurd (a.0 q)), λ g. both refl g.0)
first_clear ((c, false) ∷ ps) a = ((λ q. (refl, (first_clear ps a.1).0 q)), λ g. (first_clear ps a.1).1 g.1)

-- ## The lists of the calls

-- none has 0 or 11
abbrev pub Proper : Refusals → Type 0
Proper ps = Avoids 0 ps × Avoids 11 ps

append_proper : (ps qs : Refusals) → Proper ps → Proper qs → Proper (ps ++ qs)
append_proper [] qs p q = q
append_proper (c ∷ ps) qs p q = let r = append_proper ps qs (p.0.1, p.1.1) q in ((p.0.0, r.0), (p.1.0, r.1))

pub words_proper : (c : Call) → Proper (words c)
words_proper (Open n k) = (tt, tt)
words_proper (Put s x v) = (tt, tt)
words_proper (Get s x) = (tt, tt)
words_proper (Deliver s o) = (tt, tt)
words_proper (Drain s b) = (tt, tt)
words_proper (Cold s now T m) = omega arith
words_proper (Touch s x now u r) = omega arith
words_proper (Look s x) = (tt, tt)
words_proper (Adopt s x o c) = (tt, tt)
words_proper (Retire s) = (tt, tt)

inside_proper : (S : State) (c : Call) → Proper (inside S c)
unfolding open_refusals put_refusals get_refusals adopt_refusals deliver_refusals site_refusals touch_refusals retire_refusals
inside_proper S (Open n k) = omega arith
inside_proper S (Put s x v) = omega arith
inside_proper S (Get s x) = omega arith
inside_proper S (Deliver s o) = omega arith
inside_proper S (Drain s b) = omega arith
inside_proper S (Cold s now T m) = omega arith
inside_proper S (Touch s x now u r) = omega arith
inside_proper S (Look s x) = omega arith
inside_proper S (Adopt s x o c) = omega arith
inside_proper S (Retire s) = omega arith

pub refusals_proper : (S : State) (c : Call) → Proper (refusals S c)
unfolding refusals
refusals_proper S c = append_proper (words c) (inside S c) (words_proper c) (inside_proper S c)

-- 1 is asked of the buffer alone
pub no_one : (S : State) (c : Call) → first (refusals S c) ≢ 1
unfolding refusals open_refusals put_refusals get_refusals adopt_refusals deliver_refusals site_refusals touch_refusals retire_refusals
no_one S c = first_avoids 1 (refusals S c) (omega arith) (avoids S c)
  where
    avoids : (S : State) (c : Call) → Avoids 1 (refusals S c)
    avoids S (Open n k) = omega arith
    avoids S (Put s x v) = omega arith
    avoids S (Get s x) = omega arith
    avoids S (Deliver s o) = omega arith
    avoids S (Drain s b) = omega arith
    avoids S (Cold s now T m) = omega arith
    avoids S (Touch s x now u r) = omega arith
    avoids S (Look s x) = omega arith
    avoids S (Adopt s x o c) = omega arith
    avoids S (Retire s) = omega arith

pub asks_proper : (t : List ℕ) (c : Call) → Proper (asks t c)
unfolding asks
asks_proper t c =
    let p = inside_proper (state_of t) c in
    append_proper (words c) _ (words_proper c) ((omega arith, p.0), (omega arith, p.1))

pub refusals_clear : (S : State) (c : Call) → (first (refusals S c) ≡ 0) ↔ Clear (refusals S c)
refusals_clear S c = first_clear (refusals S c) (refusals_proper S c).0

pub no_eleven : (S : State) (c : Call) → first (refusals S c) ≢ 11
no_eleven S c = first_avoids 11 (refusals S c) (omega arith) (refusals_proper S c).1

pub codes_listed : CodesListed
unfolding refusals open_refusals put_refusals get_refusals adopt_refusals deliver_refusals site_refusals touch_refusals retire_refusals
codes_listed S (Open n k) = refl
codes_listed S (Put s x v) = refl
codes_listed S (Get s x) = refl
codes_listed S (Deliver s o) = refl
codes_listed S (Drain s b) = refl
codes_listed S (Cold s now T m) = refl
codes_listed S (Touch s x now u r) = refl
codes_listed S (Look s x) = refl
codes_listed S (Adopt s x o c) = refl
codes_listed S (Retire s) = refl

pub follows_order : FollowsOrder
unfolding asks refusals open_refusals put_refusals get_refusals adopt_refusals deliver_refusals site_refusals touch_refusals retire_refusals
follows_order t (Open n k) = refl
follows_order t (Put s x v) = refl
follows_order t (Get s x) = refl
follows_order t (Deliver s o) = refl
follows_order t (Drain s b) = refl
follows_order t (Cold s now T m) = refl
follows_order t (Touch s x now u r) = refl
follows_order t (Look s x) = refl
follows_order t (Adopt s x o c) = refl
follows_order t (Retire s) = refl

-- ## What a call does

pub beside_code : (S : State) (c : Call) (e : ℕ) → (beside S c e).code ≡ e
unfolding beside
beside_code S (Open n k) e = refl
beside_code S (Put s x v) e = refl
beside_code S (Get s x) e = refl
beside_code S (Deliver s o) e = choice (eqb e 10) (λ (a : Numbers). a.code ≡ e) (λ q. sym (eqb-true e 10 q)) (λ q. refl)
beside_code S (Drain s b) e = refl
beside_code S (Cold s now T m) e = refl
beside_code S (Touch s x now u r) e = refl
beside_code S (Look s x) e = refl
beside_code S (Adopt s x o c) e = refl
beside_code S (Retire s) e = refl

-- the step where no condition holds; else a refusal
pub run_cases : (E : Engine) (S : State) (c : Call)
    → ((first (refusals S c) ≡ 0) × (run E S c ≡ step E S c))
    ⊎ ((first (refusals S c) ≢ 0) × (run E S c ≡ record { answer = beside S c (first (refusals S c)); after = S }))
unfolding run
run_cases E S c =
    ⊎_elim
    (λ e. inl (e, unless_none (refusals S c) (beside S c) S (step E S c) e))
    (λ e. inr (e, unless_first (refusals S c) (beside S c) S (step E S c) _ refl e))
    (eq? (first (refusals S c)) 0)

pub run_refused : (E : Engine) (S : State) (c : Call) → first (refusals S c) ≢ 0 → (run E S c).answer.code ≡ first (refusals S c)
run_refused E S c h =
    ⊎_elim (λ p. absurd (h p.0)) (λ p. ap (λ (r : Outcome). r.answer.code) p.1 ∙ beside_code S c (first (refusals S c))) (run_cases E S c)

pub run_accepted : (E : Engine) (S : State) (c : Call) → (run E S c).answer.code ≡ 0 → (first (refusals S c) ≡ 0) × (run E S c ≡ step E S c)
run_accepted E S c z = ⊎_elim (λ p. p) (λ p. absurd (p.0 (sym (run_refused E S c p.0) ∙ z))) (run_cases E S c)
