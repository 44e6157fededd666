-- Every put of a key gives way to the one that is looked up, so orders with the same puts have the same one. Assumes nothing.
use mathlib.Core.Path.{◌≡◌, refl, sym, ap, ◌∙◌}
use mathlib.Core.Bool.{Bool, true, false}
use mathlib.Core.List.{List, [], ◌∷◌}
use mathlib.Core.Logic.{inl, inr, ⊎_elim, ◌≢◌}
use Prim.Native.Nat.{ℕ, ◌≤◌, ◌<◌}
use native.Mathlib.Omega.{arith}
use lib.Dec.{eqb}
use borrow.Author.Tests.{eqb-false}
use Rattle.clock.specs.Map.{when◌then◌else◌}
use Rattle.clock.specs.Lists.{◌∈◌}
use Rattle.clock.proofs.Maps.{eq?, le?, both}
use Rattle.laws.proofs.Ranks.{Under}
use Rattle.causal.specs.World.{Answer, never, wrote}
use Rattle.causal.specs.History.{Names, Op, Write, Read, Ranks, higher, lookup}
use Rattle.causal.proofs.Updates.{clash}
use Rattle.causal.proofs.Sites.{lookup_in}
use Rattle.causal.proofs.Higher.{over, over_says}

-- ## Which gives way

under_same : (a o : ℕ) → Under a o a o
under_same a o = inr (refl, omega arith)

under_trans : {a o b p c q : ℕ} → Under a o b p → Under b p c q → Under a o c q
under_trans {a} {o} {b} {p} {c} {q} (inl h) (inl k) = inl (omega arith)
under_trans {a} {o} {b} {p} {c} {q} (inl h) (inr k) = inl (omega (arith, k.0))
under_trans {a} {o} {b} {p} {c} {q} (inr h) (inl k) = inl (omega (arith, h.0))
under_trans {a} {o} {b} {p} {c} {q} (inr h) (inr k) = inr (omega (arith, h.0, k.0), omega (arith, h.1, k.1))

under_both : {a o b p : ℕ} → Under a o b p → Under b p a o → (a ≡ b) × (o ≡ p)
under_both {a} {o} {b} {p} (inl h) (inl k) = absurd (omega arith)
under_both {a} {o} {b} {p} (inl h) (inr k) = absurd (omega (arith, k.0))
under_both {a} {o} {b} {p} (inr h) (inl k) = absurd (omega (arith, h.0))
under_both {a} {o} {b} {p} (inr h) (inr k) = (h.0, omega (arith, h.1, k.1))

under_else : (a o b p : ℕ) → (Under a o b p → ⊥) → Under b p a o
under_else a o b p h =
    ⊎_elim
    (λ (e : a ≡ b). ⊎_elim (λ (l : o ≤ p). absurd (h (inr (e, l)))) (λ (l : p < o). inr (sym e, omega arith)) (le? o p))
    (λ (e : a ≢ b). ⊎_elim (λ (l : a ≤ b). absurd (h (inl (omega arith)))) (λ (l : b < a). inl l) (le? a b))
    (eq? a b)

-- ## Which is looked up

-- of an answer and a put, the put and all that the answer names give way to the higher
record Top (r : Ranks) (w : Answer) (o c : ℕ) (a : Answer) : Type 0 where
  pub value : ℕ
  pub origin : ℕ
  pub clock : ℕ
  pub is : a ≡ wrote value origin clock
  pub new : Under (r o c) o (r origin clock) origin
  pub old : (o' c' : ℕ) → Names w o' c' → Under (r o' c') o' (r origin clock) origin

top : (r : Ranks) (w : Answer) (v o c : ℕ) → Top r w o c (higher r w v o c)
top r never v o c = record { value = v; origin = o; clock = c; is = refl; new = under_same _ _; old = λ o' c' k. absurd k }
top r (wrote v' o' c') v o c = go (over r o' c' o c) refl
  where
    go : (t : Bool) → over r o' c' o c ≡ t → Top r (wrote v' o' c') o c (when t then wrote v o c else wrote v' o' c')
    go true e =
        record { value = v; origin = o; clock = c; is = refl; new = under_same _ _; old = λ o'' c'' k. rw (k.0, k.1) ((over_says r o' c' o c).0 e) }
    go false e =
        record {
          value = v';
          origin = o';
          clock = c';
          is = refl;
          new = under_else (r o' c') o' (r o c) o (λ k. both ((over_says r o' c' o c).1 k) e);
          old = λ o'' c'' k. rw (k.0, k.1) (under_same (r o' c') o');
        }

-- a write of x gives way to the answer
abbrev pub Least : Ranks → (o c : ℕ) → Answer → Type 0
Least r o c a = (v' : ℕ) × (o' : ℕ) × (c' : ℕ) × (a ≡ wrote v' o' c') × Under (r o c) o (r o' c') o'

least_more : (r : Ranks) (o c : ℕ) (w : Answer) (v₁ o₁ c₁ : ℕ) → Least r o c w → Least r o c (higher r w v₁ o₁ c₁)
least_more r o c w v₁ o₁ c₁ (v', o', c', e, u) =
    let t = top r w v₁ o₁ c₁ in (t.value, t.origin, t.clock, t.is, under_trans u (t.old o' c' (rw e (refl, refl))))

pub lookup_most : (r : Ranks) (x : ℕ) (l : List Op) (o c v : ℕ) → Write o c x v ∈ l → Least r o c (lookup r x l)
lookup_most r x [] o c v q = absurd q
lookup_most r x (Read y w ∷ l) o c v (inl q) = clash (cc)
lookup_most r x (Read y w ∷ l) o c v (inr q) = lookup_most r x l o c v q
lookup_most r x (Write o₁ c₁ y v₁ ∷ l) o c v (inl q) = go (eqb y x) refl
  where
    go : (b : Bool) → eqb y x ≡ b → Least r o c (when b then higher r (lookup r x l) v₁ o₁ c₁ else lookup r x l)
    go true e =
        let t = top r (lookup r x l) v₁ o₁ c₁ in
        let p : o ≡ o₁ = cc in
        let p' : c ≡ c₁ = cc in
        (t.value, t.origin, t.clock, t.is, rw (p, p') t.new)
    go false e = absurd (eqb-false y x e (cc))
lookup_most r x (Write o₁ c₁ y v₁ ∷ l) o c v (inr q) = go (eqb y x) (lookup_most r x l o c v q)
  where
    go : (b : Bool) → Least r o c (lookup r x l) → Least r o c (when b then higher r (lookup r x l) v₁ o₁ c₁ else lookup r x l)
    go true k = least_more r o c (lookup r x l) v₁ o₁ c₁ k
    go false k = k

-- where puts of one origin and rank are one
pub same_highest : (r : Ranks) (x : ℕ) (l m : List Op) → ((o c v : ℕ) → Write o c x v ∈ l → Write o c x v ∈ m) → ((o c v : ℕ) → Write o c x v ∈ m → Write o c x v ∈ l)
    → ((o c v c' v' : ℕ) → Write o c x v ∈ l → Write o c' x v' ∈ l → r o c ≡ r o c' → (c ≡ c') × (v ≡ v')) → lookup r x l ≡ lookup r x m
same_highest r x l m f g one = go (lookup r x l) (lookup r x m) refl refl
  where
    absent : (k : List Op) (o c v : ℕ) → lookup r x k ≡ never → Write o c x v ∈ k → ⊥
    absent k o c v e q = let z = (lookup_most r x k o c v q).3 in clash (cc)

    go : (a b : Answer) → lookup r x l ≡ a → lookup r x m ≡ b → a ≡ b
    go never never p q = refl
    go never (wrote v o c) p q = absurd (absent l o c v p (g o c v (lookup_in r x m v o c q)))
    go (wrote v o c) never p q = absurd (absent m o c v q (f o c v (lookup_in r x l v o c p)))
    go (wrote v o c) (wrote v' o' c') p q =
        let i = lookup_in r x l v o c p in
        let j = g o' c' v' (lookup_in r x m v' o' c' q) in
        let (v₁, o₁, c₁, e₁, u₁) = lookup_most r x l o' c' v' j in
        let (v₂, o₂, c₂, e₂, u₂) = lookup_most r x m o c v (f o c v i) in
        let k₁ : wrote v o c ≡ wrote v₁ o₁ c₁ = sym p ∙ e₁ in
        let k₂ : wrote v' o' c' ≡ wrote v₂ o₂ c₂ = sym q ∙ e₂ in
        let a₁ : o₁ ≡ o = cc in
        let b₁ : c₁ ≡ c = cc in
        let a₂ : o₂ ≡ o' = cc in
        let b₂ : c₂ ≡ c' = cc in
        let w : (r o c ≡ r o' c') × (o ≡ o') = under_both (rw (a₂, b₂) at u₂) (rw (a₁, b₁) at u₁) in
        let z : o ≡ o' = w.1 in
        let y = one o c v c' v' i (rw (← z) at j) (w.0 ∙ ap (λ (n : ℕ). r n c') (sym z)) in
        let y₀ : c ≡ c' = y.0 in
        let y₁ : v ≡ v' = y.1 in
        cc
