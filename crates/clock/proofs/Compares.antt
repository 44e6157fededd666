-- What a comparison that goes down the columns finds. Assumes nothing.
use mathlib.Core.Path.{◌≡◌, refl, sym, subst, ◌∙◌}
use mathlib.Core.Bool.{Bool, true, false}
use mathlib.Core.Logic.{⊎_elim, ◌≢◌}
use Prim.Native.Nat.{ℕ, ◌+◌, ◌-◌, ◌*◌, ◌^◌, ◌≤◌, ◌<◌}
use native.Mathlib.Numerals.{add-one}
use native.Mathlib.Nat.{add-mul}
use native.Mathlib.Omega.{arith}
use borrow.Author.Tests.{lt-ltb, le-ltb}
use Rattle.std.specs.Prelude.{Result, Ok, Err}
use Rattle.clock.specs.declared.Beyond.{Beyond}
use Rattle.clock.specs.Map.{when◌then◌else◌, any, mask}
use Rattle.clock.specs.Vector.{Vector, beyond}
use Rattle.clock.specs.Clock.{lowest_beyond, compare}
use Rattle.clock.proofs.Maps.{eq?}
use Rattle.clock.proofs.Below.{any_denies, any_found, least_at}
use Rattle.clock.proofs.Bits.{mask_below, mask_none, mask_takes, mask_leaves, part_most}

module _ (v w : Vector) where
  -- of the columns from i on, the lowest that is beyond, with its number
  pub record Lowest (i column number : ℕ) : Type 0 where
    pub below : column < 8
    pub found : beyond v w column ≡ true
    pub others : (j : ℕ) → i ≤ j → j < column → beyond v w j ≡ false
    pub named : number ≡ v column

  lowest_here : (i : ℕ) → i < 8 → beyond v w i ≡ true → Lowest i i (v i)
  lowest_here i h q = record { below = h; found = q; others = λ j k l. absurd (omega arith); named = refl }

  lowest_past : (i k column number : ℕ) → k ≡ i + 1 → beyond v w i ≡ false → Lowest k column number → Lowest i column number
  lowest_past i k column number e q l =
      record {
        below = l.below;
        found = l.found;
        others = λ j h r. ⊎_elim (λ (z : j ≡ i). rw z q) (λ (z : j ≢ i). l.others j (omega arith) r) (eq? j i);
        named = l.named;
      }

  -- the columns from i on are compared: their bits, the lowest of them worth 1, and the lowest that is beyond
  pub record Down (i found column number : ℕ) : Type 0 where
    pub most : i ≤ 8
    pub bits : mask i (beyond v w) + 2 ^ i * found ≡ mask 8 (beyond v w)
    pub lowest : found ≢ 0 → Lowest i column number

  pub down_start : {column number : ℕ} → Down 8 0 column number
  down_start = record { most = omega arith; bits = omega arith; lowest = λ h. absurd (h refl) }

  -- they are fewer than eight before the last, so that the mask can double
  pub down_doubles : (k found column number : ℕ) → 0 < k → Down k found column number → found < 128
  down_doubles k found column number h d = go (k - 1) (omega arith) (mask_below (beyond v w) 8)
    where
      go : (i : ℕ) → k ≡ i + 1 → mask 8 (beyond v w) < 256 → found < 128
      go i next all =
          let two : 2 ^ k ≡ 2 ^ i + 2 ^ i = rw (next, add-one) (omega arith) in
          let twice : 2 ^ k * found ≡ 2 ^ i * found + 2 ^ i * found = rw two (add-mul (2 ^ i) (2 ^ i) found) in
          omega (arith, d.bits, twice, part_most i found)

  module _ (i k found column number : ℕ) (e : k ≡ i + 1) (d : Down k found column number) where
    pub down_takes : w i < v i → Down i (found + found + 1) i (v i)
    down_takes l =
        let q = lt-ltb (w i) (v i) l in
        record { most = omega (arith, d.most); bits = mask_takes (beyond v w) k found i _ e d.bits q; lowest = λ h. lowest_here i (omega (arith, d.most)) q }

    pub down_leaves : v i ≤ w i → Down i (found + found) column number
    down_leaves l =
        let q = le-ltb (w i) (v i) l in
        record {
          most = omega (arith, d.most);
          bits = mask_leaves (beyond v w) k found i _ e d.bits q;
          lowest = λ h. lowest_past i k column number e q (d.lowest (λ z. h (omega arith)));
        }

  -- all of them are
  module _ (i found column number : ℕ) (end : i ≡ 0) (d : Down i found column number) where
    down_all : found ≡ mask 8 (beyond v w)
    unfolding mask
    down_all = omega (arith, subst (λ (z : ℕ). mask z (beyond v w) + 2 ^ z * found ≡ mask 8 (beyond v w)) end d.bits)

    pub is_within : found ≡ 0 → Ok tt ≡ compare v w
    unfolding compare
    is_within z = rw ((any_denies (beyond v w) 8).1 (λ j. mask_none (beyond v w) 8 j (sym down_all ∙ z)))

    pub is_beyond : found ≢ 0 → Err (record { column = column; number = number; mask = found }) ≡ compare v w
    unfolding compare
    is_beyond z =
        let l = d.lowest z in
        rw (down_all, l.named, any_found (beyond v w) 8 column l.below l.found, least_at (beyond v w) 8 column l.below l.found (λ j. l.others j (omega arith)))

  -- what is known of the columns once a comparison has answered
  pub found_within : {u : Unit} → compare v w ≡ Ok u → any 8 (beyond v w) ≡ false
  unfolding compare
  found_within {u} = go (any 8 (beyond v w))
    where
      go : (t : Bool) → ◌≡◌ {A = Result Unit Beyond} (when t then Err (lowest_beyond v w) else Ok tt) (Ok u) → t ≡ false
      go true e = let z : ◌≡◌ {A = ℕ} 0 1 = cc in absurd (omega arith)
      go false e = refl

  pub found_beyond : (b : Beyond) → compare v w ≡ Err b → (any 8 (beyond v w) ≡ true) × (b ≡ lowest_beyond v w)
  unfolding compare
  found_beyond b = go (any 8 (beyond v w))
    where
      go : (t : Bool) → ◌≡◌ {A = Result Unit Beyond} (when t then Err (lowest_beyond v w) else Ok tt) (Err b) → (t ≡ true) × (b ≡ lowest_beyond v w)
      go true e = (refl, cc)
      go false e = let z : ◌≡◌ {A = ℕ} 0 1 = cc in absurd (omega arith)
