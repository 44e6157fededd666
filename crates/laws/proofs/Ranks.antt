-- Ranks of vectors, which of two puts is the higher, and what the test of a delivery says. Assumes nothing.
use mathlib.Core.Path.{◌≡◌, subst}
use mathlib.Core.Logic.{◌⊎◌, inl, inr, ◌≢◌}
use Prim.Native.Nat.{ℕ, zero, suc, ◌+◌, ◌≤◌, ◌<◌}
use native.Mathlib.Omega.{arith}
use Rattle.clock.specs.Map.{sum}
use Rattle.clock.specs.Vector.{Vector, rank}
use Rattle.clock.proofs.Maps.{eq?}
use Rattle.clock.proofs.Says.{Says, says_eq, says_lt, says_le, says_and, says_or}
use Rattle.layout.specs.State.{Entry, Update}
use Rattle.rules.specs.Engine.{outranks}

-- ## Sums

pub sum_le : (m : ℕ) (v w : Vector) → ((j : ℕ) → j < m → v j ≤ w j) → sum m v ≤ sum m w
unfolding sum
sum_le zero v w f = omega arith
sum_le (suc m) v w f = omega (arith, sum_le m v w (λ j h. f j (omega arith)), f m (omega arith))

pub sum_lt : (m : ℕ) (v w : Vector) → ((j : ℕ) → j < m → v j ≤ w j) → (i : ℕ) → i < m → v i < w i → sum m v < sum m w
unfolding sum
sum_lt zero v w f i h l = absurd (omega arith)
sum_lt (suc m) v w f i h l = go (eq? i m) (λ (k : i < m). sum_lt m v w (λ j h. f j (omega arith)) i k l)
  where
    go : (i ≡ m) ⊎ (i ≢ m) → (i < m → sum m v < sum m w) → sum m v + v m < sum m w + w m
    go (inl e) g = omega (arith, sum_le m v w (λ j h. f j (omega arith)), subst (λ (z : ℕ). v z < w z) e l)
    go (inr e) g = omega (arith, g (omega arith), f m (omega arith))

-- ## Which is the higher

-- a put of rank a and origin o gives way to one of rank b and origin p
abbrev pub Under : (a o b p : ℕ) → Type 0
Under a o b p = (a < b) ⊎ ((a ≡ b) × (o ≤ p))

-- the test of a delivery says so
pub outranks_says : (u : Update) (o : ℕ) (e : Entry)
    → Says (outranks u o e) (((e.clock ≡ 0) ⊎ (rank e.depends < rank u.depends)) ⊎ ((rank e.depends ≡ rank u.depends) × (e.origin ≤ o)))
unfolding outranks
outranks_says u o e = says_or (says_or (says_eq _ _) (says_lt _ _)) (says_and (says_eq _ _) (says_le _ _))
