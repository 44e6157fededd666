-- Laws of choosing by a test and of maps with one place changed. Assumes nothing.
use mathlib.Core.Path.{◌≡◌, refl, sym, ap, subst, fun_ext}
use mathlib.Core.Bool.{Bool, true, false}
use mathlib.Core.Logic.{◌⊎◌, inl, inr, ⊎_elim, ◌≢◌}
use Prim.Native.Nat.{ℕ, ◌≤◌, ◌<◌}
use native.Mathlib.Omega.{arith}
use lib.Dec.{eqb, leb}
use borrow.Author.Tests.{eqb-true, eqb-false, eq-eqb, ne_eqb, leb-true, leb-false}
use Rattle.clock.specs.Map.{when◌then◌else◌, ◌⟨◌≔◌⟩, ◌⟨◌⟩⟨◌≔◌⟩}

-- a test never comes out both ways
pub both : {A : Type 0} {t : Bool} → t ≡ true → t ≡ false → A
both p q = let z : ◌≡◌ {A = ℕ} 0 1 = cc in absurd (omega arith)

pub true_or_false : (t : Bool) → (t ≡ true) ⊎ (t ≡ false)
true_or_false true = inl refl
true_or_false false = inr refl

-- what holds on both ways of a test holds of the choice
pub choice {ℓ κ} : {A : Type ℓ} (t : Bool) (P : A → Type κ) {a b : A} → (t ≡ true → P a) → (t ≡ false → P b) → P (when t then a else b)
choice true P f g = f refl
choice false P f g = g refl

pub eq? : (a b : ℕ) → (a ≡ b) ⊎ (a ≢ b)
eq? a b = ⊎_elim (λ e. inl (eqb-true a b e)) (λ e. inr (eqb-false a b e)) (true_or_false (eqb a b))

pub le? : (a b : ℕ) → (a ≤ b) ⊎ (b < a)
le? a b = ⊎_elim (λ e. inl (leb-true a b e)) (λ e. inr (leb-false a b e)) (true_or_false (leb a b))

module _ {ℓ} {A : Type ℓ} (f : ℕ → A) (i : ℕ) (a : A) where
  pub at_same : (f ⟨ i ≔ a ⟩) i ≡ a
  at_same = rw (eq-eqb i i refl)

  pub at_other : (j : ℕ) → i ≢ j → (f ⟨ i ≔ a ⟩) j ≡ f j
  at_other j h = rw (ne_eqb i j h)

  -- one value over another
  pub at_twice : (b : A) → f ⟨ i ≔ a ⟩ ⟨ i ≔ b ⟩ ≡ f ⟨ i ≔ b ⟩
  at_twice b = fun_ext λ j. go j (eqb i j)
    where
      go : (j : ℕ) (t : Bool) → (when t then b else when t then a else f j) ≡ (when t then b else f j)
      go j true = refl
      go j false = refl

  pub at_is : (j : ℕ) → ((i ≡ j) × ((f ⟨ i ≔ a ⟩) j ≡ a)) ⊎ ((i ≢ j) × ((f ⟨ i ≔ a ⟩) j ≡ f j))
  at_is j =
      ⊎_elim
      (λ (e : i ≡ j). inl (e, rw (eq-eqb i j e)))
      (λ (e : i ≢ j). inr (e, at_other j e))
      (eq? i j)

-- what stands there already
pub at_itself {ℓ} : {A : Type ℓ} (f : ℕ → A) (i : ℕ) → f ⟨ i ≔ f i ⟩ ≡ f
at_itself f i = fun_ext λ j. choice (eqb i j) (λ a. a ≡ f j) (λ e. ap f (eqb-true i j e)) (λ e. refl)

pub at_is₂ {ℓ} : {A : Type ℓ} (f : ℕ → ℕ → A) (i j : ℕ) (a : A) (i' j' : ℕ)
    → ((i ≡ i') × (j ≡ j') × ((f ⟨ i ⟩⟨ j ≔ a ⟩) i' j' ≡ a)) ⊎ ((i ≡ i' → j ≡ j' → ⊥) × ((f ⟨ i ⟩⟨ j ≔ a ⟩) i' j' ≡ f i' j'))
at_is₂ f i j a i' j' =
    ⊎_elim
    (λ (e : i ≡ i').
    ⊎_elim
    (λ (d : j ≡ j'). inl (e, d, rw (eq-eqb i i' e, eq-eqb j j' d)))
    (λ (d : j ≢ j'). inr ((λ x y. d y), rw (eq-eqb i i' e, ne_eqb j j' d) (ap (λ (z : ℕ). f z j') e)))
    (eq? j j'))
    (λ (e : i ≢ i'). inr ((λ x y. e x), rw (ne_eqb i i' e)))
    (eq? i i')

-- two maps that are related place by place, with related values at one place
pub related {ℓ} : {A : Type 0} {B : Type ℓ} (R : A → B → Type 0) (f : ℕ → A) (g : ℕ → B) (i : ℕ) (a : A) (b : B) (j : ℕ) → R a b → R (f j) (g j)
    → R ((f ⟨ i ≔ a ⟩) j) ((g ⟨ i ≔ b ⟩) j)
related R f g i a b j p q = go (eqb i j)
  where
    go : (t : Bool) → R (when t then a else f j) (when t then b else g j)
    go true = p
    go false = q

pub related₂ {ℓ} : {A : Type 0} {B : Type ℓ} (R : A → B → Type 0) (f : ℕ → ℕ → A) (g : ℕ → ℕ → B) (i j : ℕ) (a : A) (b : B) (i' j' : ℕ)
    → R a b → R (f i' j') (g i' j') → R ((f ⟨ i ⟩⟨ j ≔ a ⟩) i' j') ((g ⟨ i ⟩⟨ j ≔ b ⟩) i' j')
related₂ R f g i j a b i' j' p q = go (eqb i i') refl
  where
    go : (t : Bool) → eqb i i' ≡ t → R ((when t then f i ⟨ j ≔ a ⟩ else f i') j') ((when t then g i ⟨ j ≔ b ⟩ else g i') j')
    go true e = related R (f i) (g i) j a b j' p (subst (λ (z : ℕ). R (f z j') (g z j')) (sym (eqb-true i i' e)) q)
    go false e = q
