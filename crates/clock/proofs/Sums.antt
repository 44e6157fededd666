-- The sum of the columns is the sum of the array. Assumes nothing.
use mathlib.Core.Path.{◌≡◌, refl}
use mathlib.Core.List.{List, ◌∷◌}
use Prim.Native.Nat.{ℕ, zero, suc, ◌+◌}
use native.Mathlib.Omega.{arith}
use lib.ListN.{length}
use Rattle.std.specs.List as std
use Rattle.std.proofs.lemmas.List.Recursion.{is_sum_by}
use Rattle.clock.specs.Map.{sum}
use Rattle.clock.specs.Clock.{cells}

sum_first : (m : ℕ) (f : ℕ → ℕ) → sum (suc m) f ≡ f 0 + sum m (λ j. f (suc j))
unfolding sum
sum_first zero f = omega arith
sum_first (suc m) f = omega (arith, sum_first m f)

pub sum_cells : (l : List ℕ) → sum (length l) (cells l) ≡ std.sum l
unfolding sum
sum_cells = is_sum_by (λ l. sum (length l) (cells l)) (λ x. x) refl (λ x l. sum_first (length l) (cells (x ∷ l)))
