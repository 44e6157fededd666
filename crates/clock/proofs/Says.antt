-- What a test says, put together from what its parts say. Assumes nothing.
use mathlib.Core.Path.{◌≡◌, refl, sym, subst}
use mathlib.Core.Bool.{Bool, true, false, not, ◌&&◌, ◌||◌}
use mathlib.Core.Logic.Iff
use mathlib.Core.Logic.{◌⊎◌, inl, inr, ⊎_elim, ◌≢◌, ◌↔◌}
use Prim.Native.Nat.{ℕ, zero, suc, ◌≤◌, ◌<◌}
use native.Mathlib.Omega.{arith}
use lib.Dec.{eqb, ltb, leb}
use borrow.Author.Tests.{eqb-true, eqb-false, eq-eqb, ne_eqb, ltb-true, ltb-false, lt-ltb, le-ltb, leb-true, leb-false, le-leb, lt-leb, not-false}
use Rattle.clock.specs.Map.{all, any}
use Rattle.clock.proofs.Maps.{both, eq?}

-- the test passes exactly when P
abbrev pub Says : Bool → Type 0 → Type 0
Says t P = (t ≡ true) ↔ P

-- the test fails exactly when P
abbrev pub Denies : Bool → Type 0 → Type 0
Denies t P = (t ≡ false) ↔ P

-- nothing said of it but itself
pub says_itself : (t : Bool) → Says t (t ≡ true)
says_itself t = Iff.rfl

pub denies_itself : (t : Bool) → Denies t (t ≡ false)
denies_itself t = Iff.rfl

-- tests that say the same are the same
pub says_same : {s t : Bool} {P Q : Type 0} → Says s P → Says t Q → P ↔ Q → s ≡ t
says_same {s = true} {t = true} p q r = refl
says_same {s = true} {t = false} p q r = sym (q.1 (r.0 (p.0 refl)))
says_same {s = false} {t = true} p q r = p.1 (r.1 (q.0 refl))
says_same {s = false} {t = false} p q r = refl

-- ## Two numbers

pub says_eq : (a b : ℕ) → Says (eqb a b) (a ≡ b)
says_eq a b = (eqb-true a b, eq-eqb a b)

pub says_le : (a b : ℕ) → Says (leb a b) (a ≤ b)
says_le a b = (leb-true a b, le-leb a b)

pub says_lt : (a b : ℕ) → Says (ltb a b) (a < b)
says_lt a b = (ltb-true a b, lt-ltb a b)

pub denies_eq : (a b : ℕ) → Denies (eqb a b) (a ≢ b)
denies_eq a b = (eqb-false a b, ne_eqb a b)

pub denies_le : (a b : ℕ) → Denies (leb a b) (b < a)
denies_le a b = (leb-false a b, lt-leb a b)

pub denies_lt : (a b : ℕ) → Denies (ltb a b) (b ≤ a)
denies_lt a b = (ltb-false a b, le-ltb a b)

-- ## Two tests

pub says_and : {a b : Bool} {P Q : Type 0} → Says a P → Says b Q → Says (a && b) (P × Q)
says_and {a = true} p q = ((λ e. (p.0 refl, q.0 e)), λ r. q.1 r.1)
says_and {a = false} p q = ((λ e. both e refl), λ r. p.1 r.0)

pub says_or : {a b : Bool} {P Q : Type 0} → Says a P → Says b Q → Says (a || b) (P ⊎ Q)
says_or {a = true} p q = ((λ e. inl (p.0 refl)), λ r. refl)
says_or {a = false} p q = ((λ e. inr (q.0 e)), ⊎_elim (λ r. both (p.1 r) refl) q.1)

pub denies_or : {a b : Bool} {P Q : Type 0} → Denies a P → Denies b Q → Denies (a || b) (P × Q)
denies_or {a = true} p q = ((λ e. both refl e), λ r. p.1 r.0)
denies_or {a = false} p q = ((λ e. (p.0 refl, q.0 e)), λ r. q.1 r.1)

pub denies_not : {t : Bool} {P : Type 0} → Says t P → Denies (not t) P
denies_not {t} p = ((λ e. p.0 (not-false t e)), λ r. rw (p.1 r))

pub says_not : {t : Bool} {P : Type 0} → Denies t P → Says (not t) P
says_not {t = true} p = ((λ e. both e refl), λ r. sym (p.1 r))
says_not {t = false} p = ((λ e. p.0 refl), λ r. refl)

-- the second is asked where the first fails
pub says_unless : {a b : Bool} {P Q : Type 0} → Denies a P → Says b Q → Says (a || b) (P → Q)
says_unless {a = true} p q = ((λ e r. both refl (p.1 r)), λ f. refl)
says_unless {a = false} p q = ((λ e r. q.0 e), λ f. q.1 (f (p.0 refl)))

pub denies_unless : {a b : Bool} {P Q : Type 0} → Denies a P → Denies b Q → Denies (not a && b) (P → Q)
denies_unless {a = true} p q = ((λ e r. both refl (p.1 r)), λ f. refl)
denies_unless {a = false} p q = ((λ e r. q.0 e), λ f. q.1 (f (p.0 refl)))

-- ## A test of each number below a bound

-- what holds below m and at m is what holds below suc m
pub below_suc : (P : ℕ → Type 0) (m : ℕ) → (((i : ℕ) → i < m → P i) × P m) ↔ ((i : ℕ) → i < suc m → P i)
below_suc P m = (
  (λ r i h. ⊎_elim (λ (e : i ≡ m). subst (λ (z : ℕ). P z) (sym e) r.1) (λ (e : i ≢ m). r.0 i (omega arith)) (eq? i m)),
  λ f. ((λ i h. f i (omega arith)), f m (omega arith)),
)

pub says_all : (p : ℕ → Bool) (P : ℕ → Type 0) (m : ℕ) → ((i : ℕ) → Says (p i) (P i)) → Says (all m p) ((i : ℕ) → i < m → P i)
unfolding all
says_all p P zero f = ((λ e i h. absurd (omega arith)), λ g. refl)
says_all p P (suc m) f = Iff.trans (says_and (says_all p P m f) (f m)) (below_suc P m)

pub denies_any : (p : ℕ → Bool) (P : ℕ → Type 0) (m : ℕ) → ((i : ℕ) → Denies (p i) (P i)) → Denies (any m p) ((i : ℕ) → i < m → P i)
unfolding any
denies_any p P zero f = ((λ e i h. absurd (omega arith)), λ g. refl)
denies_any p P (suc m) f = Iff.trans (denies_or (denies_any p P m f) (f m)) (below_suc P m)

pub says_any : (p : ℕ → Bool) (P : ℕ → Type 0) (m : ℕ) → ((i : ℕ) → Says (p i) (P i)) → Says (any m p) ((i : ℕ) × (i < m) × P i)
unfolding any
says_any p P zero f = ((λ e. both e refl), λ r. absurd (omega (arith, r.1)))
says_any p P (suc m) f =
    Iff.trans (says_or (says_any p P m f) (f m)) (
      ⊎_elim (λ r. (r.0, omega (arith, r.1), r.2)) (λ r. (m, omega arith, r)),
      λ r. ⊎_elim (λ (e : r.0 ≡ m). inr (subst (λ (z : ℕ). P z) e r.2)) (λ (e : r.0 ≢ m). inl (r.0, omega (arith, r.1), r.2)) (eq? r.0 m),
    )
