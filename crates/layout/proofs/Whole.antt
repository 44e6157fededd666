-- Every state is laid out as 15,620 bytes. Assumes nothing.
use mathlib.Core.Path.{◌≡◌, refl, sym, ◌∙◌}
use mathlib.Core.List.{List, [], ◌∷◌, ◌++◌}
use Prim.Native.Nat.{ℕ, zero, suc, ◌+◌, ◌*◌, ◌/◌, ◌%◌, ◌<◌}
use native.Mathlib.Nat.{suc-mul, zero-mul}
use native.Mathlib.Omega.{arith}
use lib.ListN.{length, get_or, length-append}
use Rattle.layout.specs.Codec.{Codec, digits, number, ◌then◌, in_row, row, via}
use Rattle.layout.specs.State.{State, value, clock, vector, fields, to_entry, of_entry, to_update, of_update, to_state, of_state, table, bytes_of}
use Rattle.layout.specs.Ranges.{Bytes}

-- n bytes
record Long (n : ℕ) (l : List ℕ) : Type 0 where
  size : length l ≡ n
  small : Bytes l

long_none : Long 0 []
unfolding Bytes
long_none = record { size = refl; small = λ i. omega arith }

long_one : (b : ℕ) → b < 256 → Long 1 (b ∷ [])
unfolding Bytes
long_one b h = record { size = refl; small = each }
  where
    each : (i : ℕ) → get_or (b ∷ []) i 0 < 256
    each zero = h
    each (suc i) = omega arith

bytes_append : (l r : List ℕ) → Bytes l → Bytes r → Bytes (l ++ r)
unfolding Bytes
bytes_append [] r f g i = g i
bytes_append (x ∷ l) r f g zero = f 0
bytes_append (x ∷ l) r f g (suc i) = bytes_append l r (λ j. f (suc j)) g i

long_append : {m n : ℕ} {l r : List ℕ} → Long m l → Long n r → Long (m + n) (l ++ r)
long_append {l = l} {r = r} f g =
    record { size = length-append l r ∙ omega (arith, f.size, g.size); small = bytes_append l r f.small g.small }

-- each value of a layout is laid out in its width
record Whole {A : Type 0} (c : Codec A) : Type 0 where
  all : (a : A) → Long c.width (c.enc a)

digits_long : (w n : ℕ) → Long w (digits w n)
digits_long zero n = long_none
digits_long (suc w) n =
    let k = long_append (digits_long w (n / 256)) (long_one (n % 256) (omega arith)) in
    record { size = k.size ∙ omega arith; small = k.small }

whole_number : (w : ℕ) → Whole (number w)
whole_number w = record { all = digits_long w }

whole_then : {A B : Type 0} {c : Codec A} {d : Codec B} → Whole c → Whole d → Whole (c then d)
whole_then f g = record { all = λ p. long_append (f.all p.0) (g.all p.1) }

row_long : {A : Type 0} {c : Codec A} → Whole c → (m : ℕ) (f : ℕ → A) → Long (m * c.width) (in_row m (λ j. c.enc (f j)))
row_long {c = c} w zero f = record { size = sym (zero-mul c.width); small = long_none.small }
row_long {c = c} w (suc m) f =
    let k = long_append (w.all (f 0)) (row_long w m (λ j. f (suc j))) in
    record { size = k.size ∙ omega (arith, suc-mul m c.width); small = k.small }

whole_row : {A : Type 0} {c : Codec A} (m : ℕ) → Whole c → Whole (row m c)
whole_row m w = record { all = row_long w m }

whole_via : {A B : Type 0} {c : Codec A} (f : A → B) (g : B → A) → Whole c → Whole (via f g c)
whole_via f g w = record { all = λ b. w.all (g b) }

whole_vector : Whole vector
whole_vector = whole_row 8 (whole_number clock.width)

whole_fields : Whole fields
whole_fields = whole_then (whole_number value.width) (whole_then (whole_number 1) (whole_then (whole_number 1) (whole_then (whole_number clock.width) whole_vector)))

whole_table : Whole table
whole_table =
    let byte = whole_number 1 in
    let square = whole_row 8 whole_vector in
    whole_via to_state of_state
    (whole_then byte (whole_then byte (whole_then byte (whole_then byte (whole_then square (whole_then square
    (whole_then (whole_row 8 (whole_row 64 (whole_via to_entry of_entry whole_fields))) (whole_row 8 (whole_row 16 (whole_via to_update of_update whole_fields))))))))))

pub state_bytes : (S : State) → (length (bytes_of S) ≡ table.width) × Bytes (bytes_of S)
unfolding bytes_of
state_bytes S = let k = whole_table.all S in (k.size, k.small)
