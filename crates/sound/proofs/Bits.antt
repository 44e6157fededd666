-- The bits of a number, as code reads them. Assumes nothing.
use mathlib.Core.Path.{◌≡◌, sym, ap, ◌∙◌}
use Prim.Native.Nat.{ℕ, zero, suc, ◌+◌, ◌/◌, ◌%◌, ◌^◌}
use native.Mathlib.Omega.{arith}
use native.Mathlib.Nat.{pow-succ', one-le-pow, div-div-eq-div-mul, div-one, div-lt_iff_lt-mul}
use lib.Dec.{eqb, ltb}
use Rattle.clock.specs.Map.{bit}
use Rattle.clock.proofs.Says.{says_eq, says_lt, says_same}

pub bit_shifted : (b s : ℕ) → eqb (b / 2 ^ s % 2) 1 ≡ bit b s
unfolding bit
bit_shifted b zero = ap (λ (z : ℕ). eqb (z % 2) 1) (div-one b)
bit_shifted b (suc s) = ap (λ (z : ℕ). eqb (z % 2) 1) (ap (λ (m : ℕ). b / m) (pow-succ' 2 s) ∙ sym (div-div-eq-div-mul b 2 (2 ^ s))) ∙ bit_shifted (b / 2) s

-- nothing is left of a number exactly when it is below the power
pub below_shifted : (b n : ℕ) → eqb ((b + 1) / 2 ^ n) 0 ≡ ltb (suc b) (2 ^ n)
below_shifted b n =
    let e = div-lt_iff_lt-mul {x = b + 1} {y = 1} (one-le-pow n 2 (omega arith)) in
    says_same (says_eq ((b + 1) / 2 ^ n) 0) (says_lt (suc b) (2 ^ n)) ((λ z. omega (arith, e.0 (omega arith))), λ z. omega (arith, e.1 (omega arith)))
