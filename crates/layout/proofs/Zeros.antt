-- Bytes that are all zero read as the state that is all zero. Assumes nothing.
use mathlib.Core.Path.{◌≡◌, refl, sym, ap, ◌∙◌, fun_ext}
use mathlib.Core.List.{List, [], ◌∷◌, ◌++◌}
use mathlib.Core.Bool.{true, false}
use mathlib.Core.Logic.{⊎_elim, ◌↔◌}
use Prim.Native.Nat.{ℕ, zero, suc, ◌+◌, ◌*◌, ◌-◌, ◌^◌, ◌≤◌, ◌<◌}
use native.Mathlib.Nat.{zero-mul, one-le-pow, eq_of_mul-eq-mul_right}
use native.Mathlib.Omega.{arith}
use lib.Dec.{ltb}
use lib.ListN.{length, get_or, take, drop, replicate, get_or-eq_default}
use borrow.Author.Tests.{ltb-true, ltb-false}
use Rattle.clock.proofs.Maps.{true_or_false}
use Rattle.clock.proofs.Says.{below_suc}
use lib.Seq.{get_or-drop}
use Rattle.std.specs.Int.{sum_through, byte_worth}
use Rattle.clock.specs.Vector.{Vector, zeros}
use Rattle.clock.proofs.Cells.{cells_zeros}
use Rattle.layout.specs.Codec.{Codec, digits, in_row, number, ◌then◌, row, via}
use Rattle.layout.specs.State.{value, clock, fields, vector, to_entry, of_entry, to_update, of_update, to_state, of_state, table, all_zero, state_of}
use Rattle.layout.specs.Ranges.{Bytes, Zeros}
use Rattle.layout.specs.Records.{fields_at}
use Rattle.layout.specs.Fields.{part}
use Rattle.layout.proofs.Splice.{get_d_part}
use Rattle.layout.proofs.TableTrips.{fields_lawful}

-- a list that is zero up to its end
pub zeros_long : (l : List ℕ) (m : ℕ) → length l ≤ m → ((j : ℕ) → j < m → get_or l j 0 ≡ 0) → Zeros l
zeros_long l m h f j =
    ⊎_elim (λ (e : ltb j m ≡ true). f j (ltb-true j m e)) (λ (e : ltb j m ≡ false). get_or-eq_default l 0 (omega (arith, ltb-false j m e))) (true_or_false (ltb j m))

zeros_take : (n : ℕ) (l : List ℕ) → Zeros l → Zeros (take n l)
zeros_take zero l h i = refl
zeros_take (suc n) [] h i = refl
zeros_take (suc n) (x ∷ l) h zero = h 0
zeros_take (suc n) (x ∷ l) h (suc i) = zeros_take n l (λ j. h (suc j)) i

pub zeros_part : (l : List ℕ) (o w : ℕ) → Zeros l → Zeros (part l o w)
zeros_part l o w h = zeros_take w (drop o l) (λ i. get_or-drop o l i 0 ∙ h (o + i))

-- bytes that are zero up to m, and w more
pub zeros_below : (l : List ℕ) (m w : ℕ) → ((j : ℕ) → j < m → get_or l j 0 ≡ 0) → Zeros (part l m w) → (j : ℕ) → j < m + w → get_or l j 0 ≡ 0
zeros_below l m w f z j h =
    ⊎_elim (λ (e : ltb j m ≡ true). f j (ltb-true j m e))
    (λ (e : ltb j m ≡ false).
    let b = ltb-false j m e in
    let i : m + (j - m) ≡ j = omega (arith, b) in
    ap (λ (i : ℕ). get_or l i 0) (sym i) ∙ sym (get_d_part l m w (j - m) (omega (arith, b))) ∙ z (j - m))
    (true_or_false (ltb j m))

-- bytes that are all zero read as z
record Blank {A : Type 0} (c : Codec A) (z : A) : Type 0 where
  reads : (l : List ℕ) → Zeros l → c.dec l ≡ z

pub zero_number : (w : ℕ) (l : List ℕ) → Zeros l → (number w).dec l ≡ 0
zero_number zero l h = refl
zero_number (suc w) l h = omega (arith, zero_number w l h, h w)

-- and a number of 0 is of zero bytes
pub number_zero : (w : ℕ) (l : List ℕ) → (number w).dec l ≡ 0 → (j : ℕ) → j < w → get_or l j 0 ≡ 0
number_zero zero l e j h = absurd (omega arith)
number_zero (suc w) l e j h = (below_suc (λ j. get_or l j 0 ≡ 0) w).0 (number_zero w l (omega arith), omega arith) j h

-- so a number says whether its bytes are zero
pub zeros_are : (w : ℕ) (l : List ℕ) → length l ≤ w → ((number w).dec l ≡ 0) ↔ Zeros l
zeros_are w l h = ((λ e. zeros_long l w h (number_zero w l e)), zero_number w l)

-- the same of a number whose first byte counts least
low_zeros : (k : ℕ) (l : List ℕ) → sum_through (λ i. byte_worth i (get_or l i 0)) k ≡ 0 → (j : ℕ) → j < suc k → get_or l j 0 ≡ 0
low_zeros zero l e zero h = e
low_zeros zero l e (suc j) h = absurd (omega arith)
low_zeros (suc k) l e j h =
    let b : ℕ = get_or l (suc k) 0 in
    let worth : b * 256 ^ suc k ≡ 0 = omega arith in
    (below_suc (λ j. get_or l j 0 ≡ 0) (suc k)).0
    (low_zeros k l (omega arith), eq_of_mul-eq-mul_right (256 ^ suc k) (one-le-pow (suc k) 256 (omega arith)) b 0 (worth ∙ sym (zero-mul (256 ^ suc k)))) j h

zero_low : (k : ℕ) (l : List ℕ) → Zeros l → sum_through (λ i. byte_worth i (get_or l i 0)) k ≡ 0
zero_low zero l h = h 0
zero_low (suc k) l h = omega (arith, zero_low k l h, ap (λ (b : ℕ). b * 256 ^ suc k) (h (suc k)) ∙ zero-mul (256 ^ suc k))

pub low_zeros_are : (k : ℕ) (l : List ℕ) → length l ≤ suc k → (sum_through (λ i. byte_worth i (get_or l i 0)) k ≡ 0) ↔ Zeros l
low_zeros_are k l h = ((λ e. zeros_long l (suc k) h (low_zeros k l e)), zero_low k l)

blank_number : (w : ℕ) → Blank (number w) 0
blank_number w = record { reads = zero_number w }

blank_then : {A B : Type 0} {c : Codec A} {d : Codec B} {y : A} {z : B} → Blank c y → Blank d z → Blank (c then d) (y, z)
blank_then {c = c} {d = d} f g =
    record {
      reads = λ l h i. (
        f.reads (take c.width l) (zeros_take c.width l h) i,
        g.reads (part l c.width d.width) (zeros_part l c.width d.width h) i,
      );
    }

blank_row : {A : Type 0} {c : Codec A} {z : A} (m : ℕ) → Blank c z → Blank (row m c) (λ j. z)
blank_row {c = c} m f = record { reads = λ l h. fun_ext λ j. f.reads (part l (j * c.width) c.width) (zeros_part l (j * c.width) c.width h) }

blank_via : {A B : Type 0} {c : Codec A} {z : A} (f : A → B) (g : B → A) → Blank c z → Blank (via f g c) (f z)
blank_via f g r = record { reads = λ l h. ap f (r.reads l h) }

blank_vector : Blank vector zeros
blank_vector = blank_row 8 (blank_number clock.width)

same_row : (m : ℕ) (f g : ℕ → List ℕ) → ((j : ℕ) → j < m → f j ≡ g j) → in_row m f ≡ in_row m g
same_row zero f g h = refl
same_row (suc m) f g h = λ i. h 0 (omega arith) i ++ same_row m (λ j. f (suc j)) (λ j. g (suc j)) (λ j k. h (suc j) (omega arith)) i

blank_fields : Blank fields (0, (0, (0, (0, zeros))))
blank_fields = blank_then (blank_number value.width) (blank_then (blank_number 1) (blank_then (blank_number 1) (blank_then (blank_number clock.width) blank_vector)))

pub zero_fields : (l : List ℕ) → Zeros l → fields_at l ≡ (0, (0, (0, (0, zeros))))
unfolding fields_at
zero_fields = blank_fields.reads

-- and nothing else reads so
pub fields_zero : (l : List ℕ) → length l ≡ fields.width → Bytes l → (v : Vector) → fields_at l ≡ (0, (0, (0, (0, v)))) → ((j : ℕ) → j < 8 → v j ≡ 0) → Zeros l
unfolding fields_at
fields_zero l hl hb v e f i =
    let none : fields.enc (fields.dec l) ≡ replicate fields.width 0 =
    ap fields.enc e ∙ ap (λ (r : List ℕ). replicate 8 0 ++ r) (same_row 8 (λ j. digits clock.width (v j)) (λ j. 0 ∷ 0 ∷ []) (λ j h. ap (digits clock.width) (f j h))) in
    ap (λ (r : List ℕ). get_or r i 0) (sym (fields_lawful.forth l hl hb) ∙ none) ∙ ap (λ (g : ℕ → ℕ). g i) (cells_zeros fields.width)

blank_table : Blank table all_zero
blank_table =
    let byte = blank_number 1 in
    let square = blank_row 8 blank_vector in
    blank_via to_state of_state
    (blank_then byte (blank_then byte (blank_then byte (blank_then byte (blank_then square (blank_then square
    (blank_then (blank_row 8 (blank_row 64 (blank_via to_entry of_entry blank_fields))) (blank_row 8 (blank_row 16 (blank_via to_update of_update blank_fields))))))))))

pub all_zero_read : (l : List ℕ) → Zeros l → state_of l ≡ all_zero
unfolding state_of
all_zero_read = blank_table.reads
