-- Clock vectors: a number for each column, of which the first eight count. Assumes nothing.
use Rattle.std.specs.Prelude.{Bool, ℕ, max, ltb}
use Rattle.clock.specs.Map.{◌⟨◌≔◌⟩, sum}

abbrev pub Vector : Type 0
Vector = ℕ → ℕ

abbrev pub zeros : Vector
zeros j = 0

-- joining two clock vectors keeps the greater number in each column
abbrev pub join : Vector → Vector → Vector
join v w j = max (v j) (w j)

-- the vector v joined with the pair (o, c)
abbrev pub note : Vector → ℕ → ℕ → Vector
note v o c = v ⟨ o ≔ max (v o) c ⟩

-- column j of v is greater than the same column of w
abbrev pub beyond : Vector → Vector → ℕ → Bool
beyond v w j = ltb (w j) (v j)

-- "A put's rank is the sum of the columns of that vector"
abbrev pub rank : Vector → ℕ
rank = sum 8
