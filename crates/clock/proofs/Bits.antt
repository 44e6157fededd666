-- Laws of masks: bit by bit they are the test, and how a loop that counts down meets them. Assumes nothing.
use mathlib.Core.Path.{◌≡◌, refl, sym, ap, ◌∙◌}
use mathlib.Core.Bool.{Bool, true, false}
use Prim.Native.Nat.{ℕ, zero, suc, ◌+◌, ◌*◌, ◌/◌, ◌%◌, ◌^◌, ◌≤◌, ◌<◌}
use native.Mathlib.Numerals.{add-one}
use native.Mathlib.Nat.{add-mul, mul-add, mul-one, one-mul, mul-le-mul_right}
use native.Mathlib.Omega.{arith}
use lib.Dec.{eqb}
use borrow.Author.Tests.{eq-eqb, ne_eqb}
use Rattle.clock.specs.Map.{when◌then◌else◌, mask, bit}

-- what a test that passes at m adds
abbrev worth : ℕ → Bool → ℕ
worth m t = when t then 2 ^ m else 0

worth_double : (m : ℕ) (t : Bool) → worth (suc m) t ≡ 2 * worth m t
worth_double m true = let e : 2 ^ suc m ≡ 2 * 2 ^ m = omega arith in e
worth_double m false = refl

worth_most : (m : ℕ) (t : Bool) → worth m t ≤ 2 ^ m
worth_most m true = omega arith
worth_most m false = omega arith

-- a mask from its lowest number up: without it and halved it is a mask again
mask_low : (p : ℕ → Bool) (m : ℕ) → mask (suc m) p ≡ worth 0 (p 0) + 2 * mask m (λ j. p (suc j))
unfolding mask
mask_low p zero = omega arith
mask_low p (suc m) = omega (arith, mask_low p m, worth_double m (p (suc m)))

pub mask_below : (p : ℕ → Bool) (m : ℕ) → mask m p < 2 ^ m
unfolding mask
mask_below p zero = omega arith
mask_below p (suc m) = omega (arith, mask_below p m, worth_most m (p m))

pub part_most : (k m : ℕ) → m ≤ 2 ^ k * m
part_most k m = omega (arith, mul-le-mul_right {m = 1} {n = 2 ^ k} m (omega (arith, mask_below (λ j. false) k)), one-mul m)

-- a loop that counts down: m is the mask of the numbers from k on, without their 2 to the power k
module _ (p : ℕ → Bool) (k m i all : ℕ) (next : k ≡ i + 1) (e : mask k p + 2 ^ k * m ≡ all) where
  mask_step : all ≡ mask i p + worth i (p i) + 2 ^ i * (m + m)
  unfolding mask
  mask_step =
      let d : 2 ^ k ≡ 2 ^ i + 2 ^ i = rw (next, add-one) (omega arith) in
      let h : mask k p ≡ mask i p + worth i (p i) = rw (next, add-one) refl in
      sym e ∙ rw (h, d) (omega (arith, add-mul (2 ^ i) (2 ^ i) m, mul-add (2 ^ i) m m))

  pub mask_takes : p i ≡ true → mask i p + 2 ^ i * (m + m + 1) ≡ all
  mask_takes q = omega (arith, mask_step, ap (worth i) q, mul-add (2 ^ i) (m + m) 1, mul-one (2 ^ i))

  pub mask_leaves : p i ≡ false → mask i p + 2 ^ i * (m + m) ≡ all
  mask_leaves q = omega (arith, mask_step, ap (worth i) q)

-- the lowest bit, and half of the rest
lowest_bit : (t : Bool) (a b : ℕ) → b ≡ worth 0 t + 2 * a → (eqb (b % 2) 1 ≡ t) × (b / 2 ≡ a)
lowest_bit true a b e = (eq-eqb (b % 2) 1 (omega arith), omega arith)
lowest_bit false a b e = (ne_eqb (b % 2) 1 (omega arith), omega arith)

-- bit j of a mask is the test at j
pub bit_mask : (p : ℕ → Bool) (m j : ℕ) → j < m → bit (mask m p) j ≡ p j
unfolding bit
bit_mask p zero j h = absurd (omega arith)
bit_mask p (suc m) zero h = (lowest_bit (p 0) _ _ (mask_low p m)).0
bit_mask p (suc m) (suc j) h = ap (λ b. bit b j) (lowest_bit (p 0) _ _ (mask_low p m)).1 ∙ bit_mask (λ j. p (suc j)) m j (omega arith)

-- a number below 2 to the power m has no bit from m on
pub bit_above : (m b j : ℕ) → b < 2 ^ m → m ≤ j → bit b j ≡ false
unfolding bit
bit_above zero b zero h k = ne_eqb (b % 2) 1 (omega arith)
bit_above (suc m) b zero h k = absurd (omega arith)
bit_above zero b (suc j) h k = bit_above zero (b / 2) j (omega arith) (omega arith)
bit_above (suc m) b (suc j) h k = bit_above m (b / 2) j (omega arith) (omega arith)

pub mask_none : (p : ℕ → Bool) (m j : ℕ) → mask m p ≡ 0 → j < m → p j ≡ false
mask_none p m j e h = sym (bit_mask p m j h) ∙ ap (λ b. bit b j) e ∙ bit_above 0 0 j (omega arith) (omega arith)
