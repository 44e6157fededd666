-- The bits of a number that gets one more. Assumes nothing.
use mathlib.Core.Path.{◌≡◌, refl, ap, ◌∙◌}
use mathlib.Core.Bool.{true, false}
use mathlib.Core.Logic.{⊎_elim, ◌≢◌}
use Prim.Native.Nat.{ℕ, zero, suc, ◌+◌, ◌/◌, ◌%◌, ◌^◌, ◌≤◌, ◌<◌}
use native.Mathlib.Omega.{arith}
use native.Mathlib.Nat.{pow-suc}
use lib.Dec.{eqb}
use borrow.Author.Tests.{eqb-false, eq-eqb, ne_eqb}
use Rattle.clock.specs.Map.{bit}
use Rattle.clock.proofs.Maps.{eq?}

pub bit_own : (b s : ℕ) → bit b s ≡ false → bit (b + 2 ^ s) s ≡ true
unfolding bit
bit_own b zero h = eq-eqb ((b + 2 ^ 0) % 2) 1 (omega (arith, eqb-false (b % 2) 1 h))
bit_own b (suc s) h = let e : (b + 2 ^ suc s) / 2 ≡ b / 2 + 2 ^ s = omega (arith, pow-suc 2 s) in ap (λ (z : ℕ). bit z s) e ∙ bit_own (b / 2) s h

pub bit_other : (b s t : ℕ) → bit b s ≡ false → s ≢ t → bit (b + 2 ^ s) t ≡ bit b t
unfolding bit
bit_other b zero zero h k = absurd (k refl)
bit_other b zero (suc t) h k = let e : (b + 2 ^ 0) / 2 ≡ b / 2 = omega (arith, eqb-false (b % 2) 1 h) in ap (λ (z : ℕ). bit z t) e
bit_other b (suc s) zero h k = let e : (b + 2 ^ suc s) % 2 ≡ b % 2 = omega (arith, pow-suc 2 s) in ap (λ (z : ℕ). eqb z 1) e
bit_other b (suc s) (suc t) h k =
    let e : (b + 2 ^ suc s) / 2 ≡ b / 2 + 2 ^ s = omega (arith, pow-suc 2 s) in ap (λ (z : ℕ). bit z t) e ∙ bit_other (b / 2) s t h (λ q. k (ap suc q))

-- a number below 2 to the power n stays so with a bit below n
pub bit_below : (n s b : ℕ) → b < 2 ^ n → s < n → bit b s ≡ false → b + 2 ^ s < 2 ^ n
unfolding bit
bit_below zero s b l h k = absurd (omega arith)
bit_below (suc n) zero b l h k = omega (arith, pow-suc 2 n, eqb-false (b % 2) 1 k)
bit_below (suc n) (suc s) b l h k = omega (arith, pow-suc 2 n, pow-suc 2 s, bit_below n s (b / 2) (omega (arith, pow-suc 2 n)) (omega arith) k)

-- no number has a bit past its power
pub bit_none : (m : ℕ) → bit 0 m ≡ false
unfolding bit
bit_none zero = refl
bit_none (suc m) = bit_none m

pub two_most : (n m : ℕ) → n ≤ m → 2 ^ n ≤ 2 ^ m
two_most zero zero h = omega arith
two_most zero (suc m) h = omega (arith, pow-suc 2 m, two_most zero m (omega arith))
two_most (suc n) zero h = absurd (omega arith)
two_most (suc n) (suc m) h = omega (arith, pow-suc 2 n, pow-suc 2 m, two_most n m (omega arith))

-- not all of the first n bits are set: so for a number with one that is clear, and so is found one
pub clear_below : (n s b : ℕ) → b < 2 ^ n → s < n → bit b s ≡ false → suc b < 2 ^ n
unfolding bit
clear_below zero s b l h k = absurd (omega arith)
clear_below (suc n) zero b l h k = omega (arith, pow-suc 2 n, eqb-false (b % 2) 1 k)
clear_below (suc n) (suc s) b l h k = omega (arith, pow-suc 2 n, clear_below n s (b / 2) (omega (arith, pow-suc 2 n)) (omega arith) k)

pub clear_found : (n b : ℕ) → suc b < 2 ^ n → (s : ℕ) × (s < n) × (bit b s ≡ false)
unfolding bit
clear_found zero b l = absurd (omega arith)
clear_found (suc n) b l =
    ⊎_elim
    (λ (e : b % 2 ≡ 1). let (s, h, k) = clear_found n (b / 2) (omega (arith, pow-suc 2 n)) in (suc s, omega arith, k))
    (λ (e : b % 2 ≢ 1). (0, omega arith, ne_eqb (b % 2) 1 e))
    (eq? (b % 2) 1)
