-- Decimal digits are those of the library: the last digit and those before it, and how many there are. Assumes nothing.
use mathlib.Core.Path.{◌≡◌, sym, ap, ◌∙◌}
use mathlib.Core.List.{List, [], ◌∷◌, ◌++◌, append_assoc}
use mathlib.Core.Logic.{⊎_elim}
use Prim.Native.Nat.{ℕ, zero, suc, ◌+◌, ◌/◌, ◌%◌, ◌^◌, ◌≤◌, ◌<◌}
use native.Mathlib.Omega.{arith}
use lib.ListN.{length, length-append}
use borrow.Author.Tests.{lt-ltb, le-ltb}
use Rattle.std.specs.Fmt as std
use Rattle.std.proofs.lemmas.Fmt.{decimal_digit, decimal_step, length-decimal-le}
use Rattle.clock.proofs.Maps.{le?}
use Rattle.schedule.specs.Text.{digits, decimal}

digits_same : (m n : ℕ) → n < m → n < 2 ^ 64 → digits m n ≡ std.decimal n
unfolding digits
digits_same zero n h k = absurd (omega arith)
digits_same (suc m) n h k =
    ⊎_elim
    (λ (l : 10 ≤ n).
    rw (digits, le-ltb n 10 l) (ap (λ (d : List ℕ). d ++ ((48 + n % 10) ∷ [])) (digits_same m (n / 10) (omega arith) (omega arith)) ∙ sym (decimal_step n l k)))
    (λ (l : n < 10). rw (digits, lt-ltb n 10 l) (sym (decimal_digit n l)))
    (le? 10 n)

-- below 2 to the power 64 a number's digits are those that the library writes
pub decimal_same : (n : ℕ) → n < 2 ^ 64 → decimal n ≡ std.decimal n
unfolding decimal
decimal_same n h = digits_same (suc n) n (omega arith) h

pub decimal_one : (n : ℕ) → n < 10 → decimal n ≡ (48 + n) ∷ []
decimal_one n h = decimal_same n (omega arith) ∙ decimal_digit n h

pub decimal_more : (n : ℕ) → 10 ≤ n → n < 2 ^ 64 → decimal n ≡ decimal (n / 10) ++ ((48 + n % 10) ∷ [])
decimal_more n h k = decimal_same n k ∙ decimal_step n h k ∙ ap (λ (d : List ℕ). d ++ ((48 + n % 10) ∷ [])) (sym (decimal_same (n / 10) (omega arith)))

pub decimal_two : (n : ℕ) → 10 ≤ n → n / 10 < 10 → decimal n ≡ (48 + n / 10) ∷ (48 + n % 10) ∷ []
decimal_two n h l = decimal_more n h (omega arith) ∙ ap (λ (d : List ℕ). d ++ ((48 + n % 10) ∷ [])) (decimal_one (n / 10) l)

pub decimal_pair : (n : ℕ) → 10 ≤ n / 10 → n < 2 ^ 64 → decimal n ≡ decimal (n / 10 / 10) ++ ((48 + n / 10 % 10) ∷ (48 + n % 10) ∷ [])
decimal_pair n h k =
    decimal_more n (omega arith) k
    ∙ ap (λ (d : List ℕ). d ++ ((48 + n % 10) ∷ [])) (decimal_more (n / 10) h (omega arith))
    ∙ append_assoc (decimal (n / 10 / 10)) ((48 + n / 10 % 10) ∷ []) ((48 + n % 10) ∷ [])

pub decimal_longer : (n : ℕ) → 10 ≤ n → n < 2 ^ 64 → length (decimal n) ≡ length (decimal (n / 10)) + 1
decimal_longer n h k = ap length (decimal_more n h k) ∙ length-append (decimal (n / 10)) ((48 + n % 10) ∷ [])

-- a number of a word takes at most ten digits
pub decimal_short : (n : ℕ) → n < 2 ^ 32 → length (decimal n) ≤ 10
decimal_short n h = rw (decimal_same n (omega (arith, h))) (length-decimal-le 10 n (omega arith) (omega (arith, h)) (omega (arith, h)))
