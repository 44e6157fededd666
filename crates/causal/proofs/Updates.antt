-- The updates of all sites: which are issued, sets that hold with each put its causes, and one more update. Assumes nothing.
use mathlib.Core.Path.{◌≡◌, refl, sym, ap, subst, ◌∙◌}
use mathlib.Core.List.{List, [], ◌∷◌, ◌++◌}
use mathlib.Core.Logic.{◌⊎◌, inl, inr, ⊎_elim, ◌≢◌}
use Prim.Native.Nat.{ℕ, zero, suc, ◌-◌, ◌≤◌}
use native.Mathlib.Omega.{arith}
use lib.Dec.{eqb}
use lib.ListN.{length, length-append, get_or-append}
use lib.Seq.{get_or-append_seam}
use borrow.Author.Tests.{eqb-true}
use Rattle.clock.specs.Map.{◌⟨◌≔◌⟩}
use Rattle.clock.specs.Lists.{◌∈◌, Before}
use Rattle.clock.proofs.Maps.{choice, eq?, at_same}
use Rattle.causal.specs.World.{Set, Update, Answer, never, wrote, nth, learned, ∅, World}
use Rattle.causal.specs.History.{Names}

-- where two constructors would be equal
pub clash : {A : Type 0} → ◌≡◌ {A = ℕ} 0 1 → A
clash e = absurd (omega arith)

-- what came later than something stands in the list, and what came earlier
pub later_in : {A : Type 0} (l : List A) (a b : A) → Before l a b → b ∈ l
later_in [] a b h = absurd h
later_in (x ∷ l) a b (inl p) = inl p.0
later_in (x ∷ l) a b (inr h) = inr (later_in l a b h)

pub earlier_in : {A : Type 0} (l : List A) (a b : A) → Before l a b → a ∈ l
earlier_in [] a b p = absurd p
earlier_in (x ∷ l) a b (inl p) = inr p.1
earlier_in (x ∷ l) a b (inr p) = inr (earlier_in l a b p)

-- ## Updates and closed sets

-- what a list reads as past its end
abbrev pub blank : Update
blank = record { key = 0; value = 0; depends = ∅ }

-- the clock of the next put at s
abbrev pub next : World → (s : ℕ) → ℕ
next W s = suc (length (W.updates s))

abbrev pub Updates : Type 1
Updates = ℕ → List Update

abbrev pub Issued : Updates → ℕ → ℕ → Type 0
Issued u o c = (1 ≤ c) × (c ≤ length (u o))

-- a set with each of its puts has the set of that put
abbrev pub Closed : Updates → Set → Type 0
Closed u d = (o c : ℕ) → d o c → Issued u o c × ((o' c' : ℕ) → (nth (u o) c).depends o' c' → d o' c')

-- what is learned of an answer with the set e: the put that it names, and e
pub learned_is : (w : Answer) (e : Set) (o c : ℕ) → learned w e o c → Names w o c ⊎ ((o₁ : ℕ) × (c₁ : ℕ) × Names w o₁ c₁ × e o c)
learned_is never e o c h = absurd h
learned_is (wrote v o₁ c₁) e o c (inl h) = inl h
learned_is (wrote v o₁ c₁) e o c (inr h) = inr (o₁, c₁, (refl, refl), h)

pub learned_put : (w : Answer) (e : Set) (o c : ℕ) → Names w o c → learned w e o c
learned_put never e o c h = absurd h
learned_put (wrote v o₁ c₁) e o c h = inl h

pub learned_set : (w : Answer) (e : Set) (o₁ c₁ o c : ℕ) → Names w o₁ c₁ → e o c → learned w e o c
learned_set never e o₁ c₁ o c h k = absurd h
learned_set (wrote v o₂ c₂) e o₁ c₁ o c h k = inr k

-- `v` has the updates of `u`, and perhaps more
abbrev pub Extends : Updates → Updates → Type 1
Extends u v = (o c : ℕ) → Issued u o c → Issued v o c × (nth (v o) c ≡ nth (u o) c)

pub closed_more : (u v : Updates) (d : Set) → Extends u v → Closed u d → Closed v d
closed_more u v d x k o c h =
    ((x o c (k o c h).0).0, λ o' c' m. (k o c h).1 o' c' (subst (λ (z : Update). z.depends o' c') (x o c (k o c h).0).1 m))

pub le_suc_cases : (c n : ℕ) → c ≤ suc n → (c ≤ n) ⊎ (c ≡ suc n)
le_suc_cases c n h = ⊎_elim (λ (e : c ≡ suc n). inr e) (λ (e : c ≢ suc n). inl (omega arith)) (eq? c (suc n))

pub nth_at : (u : Updates) (o o' c c' : ℕ) (up : Update) → o ≡ o' → c ≡ c' → nth (u o') c' ≡ up → nth (u o) c ≡ up
nth_at u o o' c c' up p q e = cc

-- ## More updates

pub more_most : (u v : Updates) → Extends u v → (o c : ℕ) → c ≤ length (u o) → c ≤ length (v o)
more_most u v x o zero h = omega arith
more_most u v x o (suc c) h = (x o (suc c) (omega arith, h)).0.1

pub extends : (u : Updates) (t : ℕ) (up : Update) → Extends u (u ⟨ t ≔ u t ++ (up ∷ []) ⟩)
extends u t up o c h =
    choice (eqb t o) (λ (l : List Update). ((1 ≤ c) × (c ≤ length l)) × (nth l c ≡ nth (u o) c))
    (λ e.
    let f : u t ≡ u o = ap u (eqb-true t o e) in
    let n : length (u t) ≡ length (u o) = ap length f in (
      (h.0, omega (arith, length-append (u t) (up ∷ []))),
      get_or-append (u t) (up ∷ []) blank (c - 1) (omega arith) ∙ ap (λ (z : List Update). nth z c) f,
    ))
    (λ e. (h, refl))

pub newest : (l : List Update) (up : Update) → nth (l ++ (up ∷ [])) (suc (length l)) ≡ up
newest l up = let e : suc (length l) - 1 ≡ length l = omega arith in rw e (get_or-append_seam l up [] blank)

pub newest_issued : (u : Updates) (t : ℕ) (up : Update) → Issued (u ⟨ t ≔ u t ++ (up ∷ []) ⟩) t (suc (length (u t)))
newest_issued u t up = (omega arith, rw (at_same u t (u t ++ (up ∷ []))) (omega (arith, length-append (u t) (up ∷ []))))

-- an update of the longer list is an old one or the new one, so what holds of those holds of all
pub each_update : (u : Updates) (t : ℕ) (up : Update) (P : ℕ → ℕ → Update → Type 0) → ((o c : ℕ) → Issued u o c → P o c (nth (u o) c)) → P t (suc (length (u t))) up
    → let v = u ⟨ t ≔ u t ++ (up ∷ []) ⟩ in (o c : ℕ) → Issued v o c → P o c (nth (v o) c)
each_update u t up P f g o c =
    choice (eqb t o) (λ (l : List Update). (1 ≤ c) × (c ≤ length l) → P o c (nth l c))
    (λ e k.
    subst (λ (z : ℕ). P z c (nth (u t ++ (up ∷ [])) c)) (eqb-true t o e)
    (⊎_elim
    (λ (p : c ≤ length (u t)). subst (λ (z : Update). P t c z) (sym (get_or-append (u t) (up ∷ []) blank (c - 1) (omega (arith, k.0)))) (f t c (k.0, p)))
    (λ (p : c ≡ suc (length (u t))). subst (λ (z : ℕ). P t z (nth (u t ++ (up ∷ [])) z)) (sym p) (subst (λ (z : Update). P t (suc (length (u t))) z) (sym (newest (u t) up)) g))
    (le_suc_cases c (length (u t)) (omega (arith, k.1, length-append (u t) (up ∷ []))))))
    (λ e k. f o c k)
