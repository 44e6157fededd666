-- What a schedule prints, as bytes of text. Assumes nothing.
use Rattle.std.specs.Prelude.{true, false, List, [], ◌∷◌, ◌++◌, ℕ, zero, suc, ◌+◌, ◌/◌, ◌%◌, ltb, codes}
use Rattle.rules.specs.Steps.{Numbers}

-- the decimal digits of n, the last `most` of them
unfoldable pub digits : (most n : ℕ) → List ℕ
digits zero n = []
digits (suc m) n =
    elim (ltb n 10) [
      | true ↦ (48 + n) ∷ []
      | false ↦ digits m (n / 10) ++ ((48 + n % 10) ∷ [])
    ]

-- all of them: no number has more digits than its successor says
unfoldable pub decimal : ℕ → List ℕ
decimal n = digits (suc n) n

abbrev pub space : ℕ
space = 32

abbrev pub newline : ℕ
newline = 10

-- a number in decimal and the byte behind it
abbrev pub word : (n behind : ℕ) → List ℕ
word n b = decimal n ++ (b ∷ [])

-- "step number, code, key, site, clock, value, in decimal with single spaces"
unfoldable pub line : (step : ℕ) → Numbers → List ℕ
line i a =
    word i space
    ++ (word a.code space ++ (word a.key space ++ (word a.site space ++ (word a.clock space ++ word a.value newline))))

-- "`end` and the number of steps", "`cut` and the count of left bytes"
unfoldable pub end_line : (steps : ℕ) → List ℕ
end_line n = codes "end " ++ word n newline

unfoldable pub cut_line : (left : ℕ) → List ℕ
cut_line b = codes "cut " ++ word b newline
