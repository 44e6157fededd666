-- Sums of a map at the numbers below a bound. Assumes nothing.
use mathlib.Core.Path.{◌≡◌, refl, sym, subst}
use mathlib.Core.Logic.{◌⊎◌, inl, inr, ◌≢◌}
use Prim.Native.Nat.{ℕ, zero, suc, ◌+◌, ◌*◌, ◌≤◌, ◌<◌}
use native.Mathlib.Omega.{arith}
use Rattle.clock.proofs.Maps.{eq?}
use Rattle.clock.specs.Map.{sum}

pub sum_same : (f g : ℕ → ℕ) (m : ℕ) → ((i : ℕ) → i < m → f i ≡ g i) → sum m f ≡ sum m g
unfolding sum
sum_same f g zero h = refl
sum_same f g (suc m) h = omega (arith, sum_same f g m (λ i p. h i (omega arith)), h m (omega arith))

-- one higher at one number
pub sum_more : (f g : ℕ → ℕ) (m o : ℕ) → o < m → g o ≡ suc (f o) → ((i : ℕ) → i ≢ o → g i ≡ f i) → sum m g ≡ suc (sum m f)
unfolding sum
sum_more f g zero o h e k = absurd (omega arith)
sum_more f g (suc m) o h e k = go (eq? m o) (λ (l : o < m). sum_more f g m o l e k)
  where
    go : (m ≡ o) ⊎ (m ≢ o) → (o < m → sum m g ≡ suc (sum m f)) → sum m g + g m ≡ suc (sum m f + f m)
    go (inl q) r = omega (arith, sum_same g f m (λ i p. k i (λ z. omega arith)), subst (λ (z : ℕ). g z ≡ suc (f z)) (sym q) e)
    go (inr q) r = omega (arith, r (omega arith), k m q)

-- at most 16 at each number; and 0 at one of them
sum_most : (f : ℕ → ℕ) (m : ℕ) → ((i : ℕ) → i < m → f i ≤ 16) → sum m f ≤ 16 * m
unfolding sum
sum_most f zero h = omega arith
sum_most f (suc m) h = omega (arith, sum_most f m (λ i p. h i (omega arith)), h m (omega arith))

pub sum_most_but : (f : ℕ → ℕ) (m s : ℕ) → s < m → f s ≡ 0 → ((i : ℕ) → i < m → f i ≤ 16) → sum m f + 16 ≤ 16 * m
unfolding sum
sum_most_but f zero s h e k = absurd (omega arith)
sum_most_but f (suc m) s h e k = go (eq? m s) (λ (l : s < m). sum_most_but f m s l e (λ i p. k i (omega arith)))
  where
    go : (m ≡ s) ⊎ (m ≢ s) → (s < m → sum m f + 16 ≤ 16 * m) → sum m f + f m + 16 ≤ 16 * suc m
    go (inl q) r = omega (arith, sum_most f m (λ i p. k i (omega arith)), subst (λ (z : ℕ). f z ≡ 0) (sym q) e)
    go (inr q) r = omega (arith, r (omega arith), k m (omega arith))
