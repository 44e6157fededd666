-- A blank entry is 24 zero bytes, and a retained update stands where code reads it. Assumes nothing.
use mathlib.Core.Path.{◌≡◌, refl, sym, ap, ◌∙◌}
use mathlib.Core.Bool.{Bool, true, false, ◌&&◌, and-false, and-true, or-false}
use mathlib.Core.List.{List}
use mathlib.Core.Logic.{⊎_elim, ◌≢◌, ◌↔◌}
use Prim.Native.Nat.{ℕ, suc, ◌+◌, ◌*◌, ◌-◌, ◌%◌, ◌^◌, ◌≤◌, ◌<◌}
use native.Mathlib.Numerals.{add-one}
use native.Mathlib.Omega.{arith}
use lib.ListN.{length}
use lib.Dec.{ltb}
use borrow.Author.Tests.{le-leb, lt-leb}
use Rattle.clock.specs.Map.{all}
use Rattle.clock.specs.Vector.{Vector}
use Rattle.clock.proofs.Maps.{true_or_false}
use Rattle.clock.proofs.Says.{says_itself, says_same, says_eq, says_lt, says_and}
use Rattle.layout.specs.State.{State, Fields, Entry, fields, to_entry, to_update, state_of, store_at, updates_at}
use Rattle.layout.specs.Ranges.{Bytes, Zeros}
use Rattle.layout.specs.Parts.{entries, updates}
use Rattle.layout.specs.Records.{fields_at}
use Rattle.layout.proofs.Zeros.{zeros_are, zeros_part, zeros_long, zeros_below, zero_fields, fields_zero}
use Rattle.layout.specs.Fields.{part}
use Rattle.layout.proofs.Splice.{length_part}
use Rattle.layout.proofs.Fields.{at_place, read_part}
use Rattle.layout.proofs.Places.{clock_read, record_stands}
use Rattle.rules.specs.Sound.{Blank, blank, place, sound, header, counted, written, lowest, holds, retains}
use Rattle.laws.proofs.Tested.{range_says, header_says, blank_says}
use Rattle.laws.proofs.Bits.{clear_below, clear_found}
use Rattle.sound.specs.Checks.{header_in, written_in, applied_in, none_in, entries_in, body_in}
use Rattle.sound.specs.declared.Stray.{Stray}
use Rattle.std.proofs.Math.Bool.{and_assoc}
use Rattle.sound.proofs.Origins.{counts_in, updates_in, by_origin}

-- the bits of both numbers
abbrev Both : (a b r : ℕ) → Type 0
Both a b r = (a ≤ r) × (b ≤ r) × (r ≤ a + b)

module _ (l : List ℕ) where
  blank_of : Zeros l → Blank (to_entry (fields_at l))
  blank_of h = rw (zero_fields l h) (record { value = refl; origin = refl; zero = refl; clock = refl; depends = λ j k. refl })

  zero_bytes : length l ≡ fields.width → Bytes l → (blank (to_entry (fields_at l)) ≡ true) ↔ Zeros l
  zero_bytes hl hb = (
    (λ e.
        let b = (blank_says (to_entry (fields_at l))).0 e in
        fields_zero l hl hb (fields_at l).1.1.1.1 (λ i. (b.value i, (b.origin i, (b.zero i, (b.clock i, (fields_at l).1.1.1.1))))) b.depends),
    (λ h. (blank_says (to_entry (fields_at l))).1 (blank_of h)),
  )

  -- an entry of clock 0, by the parts that code reads: what is stray with it
  module _ (hl : length l ≡ fields.width) (hb : Bytes l) (none : (to_entry (fields_at l)).clock ≡ 0) (z : Stray) where
    parts_zero : Zeros (part l 0 4) → Zeros (part l 4 2) → Zeros (part l 8 8) → Zeros (part l 16 8) → blank (to_entry (fields_at l)) ≡ true
    parts_zero value tag left right =
        (zero_bytes hl hb).1 (zeros_long l 24 (omega arith)
        (zeros_below l 16 8 (zeros_below l 8 8 (zeros_below l 6 2 (zeros_below l 4 2 (zeros_below l 0 4 (λ j h. absurd (omega arith)) value) tag)
        ((zeros_are 2 (part l 6 2) (omega (arith, length_part l 6 2 (omega arith)))).0 (clock_read l ∙ none))) left) right))

    pub one_more : {v p a b head left right : ℕ} → (v ≡ 0) ↔ Zeros (part l 0 4) → (p ≡ 0) ↔ Zeros (part l 4 2) → (a ≡ 0) ↔ Zeros (part l 8 8) → (b ≡ 0) ↔ Zeros (part l 16 8)
        → Both z.head (v + p) head → Both z.left a left → Both z.right b right
        → none_in (record { head = head; left = left; right = right }) ≡ (none_in z && blank (to_entry (fields_at l)))
    one_more {head = head} {left = left} {right = right} v p a b h₁ h₂ h₃ =
        says_same (says_and (says_and (says_eq head 0) (says_eq left 0)) (says_eq right 0))
        (says_and (says_and (says_and (says_eq z.head 0) (says_eq z.left 0)) (says_eq z.right 0)) (says_itself (blank (to_entry (fields_at l))))) (
          (λ r. (
            ((omega (arith, r.0.0, h₁), omega (arith, r.0.1, h₂)), omega (arith, r.1, h₃)),
            parts_zero (v.0 (omega (arith, r.0.0, h₁))) (p.0 (omega (arith, r.0.0, h₁))) (a.0 (omega (arith, r.0.1, h₂))) (b.0 (omega (arith, r.1, h₃))),
          )),
          λ r.
              let zeros = (zero_bytes hl hb).0 r.1 in (
                (omega (arith, r.0.0.0, h₁, v.1 (zeros_part l 0 4 zeros), p.1 (zeros_part l 4 2 zeros)), omega (arith, r.0.0.1, h₂, a.1 (zeros_part l 8 8 zeros))),
                omega (arith, r.0.1, h₃, b.1 (zeros_part l 16 8 zeros)),
              ),
        )

-- the clock tells a written entry from a blank one, where code reads it
module _ (t : List ℕ) (s x : ℕ) {at : ℕ} (hs : s < 8) (hx : x < 64) (place : at ≡ store_at + (s * 64 + x) * fields.width) (n : ℕ) (row : Vector) where
  abbrev entry : Entry
  entry = to_entry (fields_at (part t at (at + fields.width - at)))

  there : written_in n row ((state_of t).store s x) ≡ written_in n row entry
  unfolding fields_at state_of
  there = ap (λ (p : Fields). written_in n row (to_entry p)) (sym (read_part (at_place (sym place) (record_stands entries s x hs hx)) t))

  pub blank_here : entry.clock ≡ 0 → written_in n row ((state_of t).store s x) ≡ blank entry
  blank_here h = there ∙ rw (lt-leb 1 entry.clock (omega (arith, h)), and-false (ltb entry.origin n)) (or-false (blank entry))

  pub put_here : {o c : ℕ} → o ≡ entry.origin → c ≡ entry.clock → c ≢ 0 → written_in n row ((state_of t).store s x) ≡ applied_in n row o c
  put_here origin clock h =
      let full : blank entry ≡ false = ⊎_elim (λ b. absurd (h (clock ∙ ((blank_says entry).0 b).clock))) (λ b. b) (true_or_false (blank entry)) in
      there ∙ rw (full, le-leb 1 entry.clock (omega (arith, h, clock)), and-true (ltb entry.origin n)) (λ i. applied_in n row (sym origin i) (sym clock i))

-- one entry more
pub all_next : (p : ℕ → Bool) (x : ℕ) → all (x + 1) p ≡ (all x p && p x)
unfolding all
all_next p x = rw add-one

-- the update with clock c + 1, where code reads it
pub update_there : (t : List ℕ) (o c : ℕ) {at : ℕ} → o < 8 → at ≡ updates_at + (o * 16 + c % 16) * fields.width
    → to_update (fields_at (part t at (at + fields.width - at))) ≡ (state_of t).updates o (place (suc c))
unfolding fields_at state_of
update_there t o c ho e =
    let p : c ≡ suc c - 1 = omega arith in
    (λ j. to_update (read_part (at_place (sym e) (record_stands updates o (c % 16) ho (omega arith))) t j)) ∙ λ j. (state_of t).updates o (p j % 16)

-- the whole test, from the header that code has read
module _ (S : State) (n k y z : ℕ) (en : n ≡ S.n) (ek : k ≡ S.k) (ey : y ≡ S.retired) (ez : z ≡ S.byte3) where
  -- one number tells that some bit below n is clear and none above is set
  header_is : header_in n k y z ≡ header S
  header_is =
      (λ i. header_in (en i) (ek i) (ey i) (ez i))
      ∙ says_same (says_and (says_and (range_says S.n S.k) (says_lt (suc S.retired) (2 ^ S.n))) (says_eq S.byte3 0)) (header_says S) (
        (λ ((r, b), e). let (s, h, c) = clear_found S.n S.retired b in (((r, omega arith), (s, (h, c))), e)),
        λ (((r, b), (s, (h, c))), e). ((r, clear_below S.n s S.retired b h c), e),
      )

  pub sound_is : (header_in n k y z && body_in S S.n S.k) ≡ sound S
  unfolding sound counted written lowest holds retains
  sound_is =
      (λ i. header_is i && by_origin S S.n S.k i)
      ∙ sym (and_assoc (header S) (counts_in S S.n && entries_in S S.n S.k) (updates_in S S.n S.k))
      ∙ λ i. sym (and_assoc (header S) (counts_in S S.n) (entries_in S S.n S.k)) i && updates_in S S.n S.k
