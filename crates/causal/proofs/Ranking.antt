-- Ranks of sets: one for each set, no lower for a set that holds another, and higher where it holds a later put. Assumes nothing.
use mathlib.Core.Path.{◌≡◌, refl}
use mathlib.Core.Logic.{inl, ⊎_elim}
use Prim.Native.Nat.{ℕ, ◌≤◌, ◌<◌}
use native.Mathlib.Omega.{arith}
use Rattle.clock.specs.Map.{sum}
use Rattle.clock.specs.Vector.{Vector, zeros}
use Rattle.laws.proofs.Ranks.{sum_le, sum_lt}
use Rattle.causal.specs.World.{Set, Tops, Rank}

infix 30 ◌⊆◌
abbrev pub ◌⊆◌ : Set → Set → Type 0
◌⊆◌ d e = (o c : ℕ) → d o c → e o c

-- a set within another has greatest clocks that are no higher
pub tops_le : (v w : Vector) (d e : Set) → Tops v d → Tops w e → d ⊆ e → (j : ℕ) → j < 8 → v j ≤ w j
tops_le v w d e k l f j h = ⊎_elim (λ (q : v j ≡ 0). omega arith) (λ q. l.above j (v j) (f j (v j) q)) (k.met j h)

pub rank_le : (d e : Set) (a b : ℕ) → Rank d a → Rank e b → d ⊆ e → a ≤ b
rank_le d e a b (v, k, p) (w, l, q) f = omega (arith, sum_le 8 v w (tops_le v w d e k l f))

pub rank_same : (d e : Set) (a b : ℕ) → Rank d a → Rank e b → d ⊆ e → e ⊆ d → a ≡ b
rank_same d e a b p q f g = omega (arith, rank_le d e a b p q f, rank_le e d b a q p g)

pub rank_one : (d : Set) (a b : ℕ) → Rank d a → Rank d b → a ≡ b
rank_one d a b p q = rank_same d d a b p q (λ o c h. h) (λ o c h. h)

-- a higher rank, where the larger set has a put above those of its origin in the smaller
pub rank_lt : (d e : Set) (a b : ℕ) → Rank d a → Rank e b → d ⊆ e → (o c : ℕ) → e o c → 1 ≤ c → ((c' : ℕ) → d o c' → c' < c) → a < b
rank_lt d e a b (v, k, p) (w, l, q) f o c m i g =
    let t = l.above o c m in
    let h = l.eight o c m in
    let s : v o < w o = ⊎_elim (λ (z : v o ≡ 0). omega arith) (λ z. omega (arith, g (v o) z)) (k.met o h) in
    omega (arith, sum_lt 8 v w (tops_le v w d e k l f) o h s)

-- a set with no member has rank 0
pub rank_none : (d : Set) → ((o c : ℕ) → d o c → ⊥) → Rank d 0
unfolding sum
rank_none d f = (zeros, record { eight = λ o c h. absurd (f o c h); above = λ o c h. absurd (f o c h); met = λ o h. inl refl }, refl)
