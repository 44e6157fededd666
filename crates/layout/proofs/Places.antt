-- The places of the table as fields of the state. Assumes nothing.
use mathlib.Core.Path.{◌≡◌, refl, ap, ◌∙◌, fun_ext}
use mathlib.Core.List.{List, ◌++◌}
use lib.ListN.{length, get_or, set, take, drop, replicate}
use Prim.Native.Nat.{ℕ, zero, suc, ◌+◌, ◌*◌, ◌≤◌, ◌<◌}
use native.Mathlib.Omega.{arith}
use Rattle.clock.specs.Map.{◌⟨◌≔◌⟩, ◌⟨◌⟩⟨◌≔◌⟩, up_to}
use Rattle.clock.proofs.Cells.{cells_zeros, up_to_below, up_to_from}
use Rattle.clock.specs.Vector.{Vector, zeros}
use Rattle.layout.specs.Codec.{Codec, ◌then◌, row}
use Rattle.layout.specs.State.{Fields, Entry, Update, Parts, byte, value, clock, vector, fields, square, entry, update, to_state, of_state, table, applied_at, store_at, updates_at, with_store, with_updates, of_entry, of_update}
use Rattle.layout.specs.Records.{fields_at, cells2, rows}
use Rattle.layout.specs.Parts.{Square, applied, depends, square_at, square_of, with_square, Shelves, entries, updates, shelves_at, places, shelves_of, with_record}
use Rattle.layout.specs.Fields.{part}
use Rattle.layout.specs.Fields.{Field}
use Rattle.layout.proofs.Fields.{at_place, inner, first, second, element, clothed, read_part, write_part, write_at, read_byte}

abbrev updates_codec : Codec (ℕ → ℕ → Update)
updates_codec = row 8 (row 16 update)

abbrev entries_codec : Codec (ℕ → ℕ → Entry)
entries_codec = row 8 (row 64 entry)

abbrev from_store : Codec ((ℕ → ℕ → Entry) × (ℕ → ℕ → Update))
from_store = entries_codec then updates_codec

abbrev from_depends : Codec ((ℕ → Vector) × ((ℕ → ℕ → Entry) × (ℕ → ℕ → Update)))
from_depends = square then from_store

abbrev from_applied : Codec ((ℕ → Vector) × ((ℕ → Vector) × ((ℕ → ℕ → Entry) × (ℕ → ℕ → Update))))
from_applied = square then from_depends

-- behind the four bytes of the header
behind : Field (byte then byte then byte then byte then from_applied) from_applied applied_at (λ p. p.1.1.1.1) (λ p v. (p.0, (p.1.0, (p.1.1.0, (p.1.1.1.0, v)))))
behind =
    inner (second byte (byte then byte then byte then from_applied))
    (inner (second byte (byte then byte then from_applied)) (inner (second byte (byte then from_applied)) (second byte from_applied)))

abbrev in_table : {B : Type 0} {p : Codec B} {o : ℕ} {get : Parts → B} {put : Parts → B → Parts} → Field (byte then byte then byte then byte then from_applied) p o get put
    → Field table p o (λ S. get (of_state S)) (λ S v. to_state (put (of_state S) v))
in_table = clothed to_state of_state (λ a. refl)

-- the header
pub n_byte : Field table byte 0 (λ S. S.n) (λ S v. to_state (v, (of_state S).1))
n_byte = in_table (first byte (byte then byte then byte then from_applied))

pub k_byte : Field table byte 1 (λ S. S.k) (λ S v. to_state (S.n, (v, (of_state S).1.1)))
k_byte = in_table (inner (second byte (byte then byte then byte then from_applied)) (first byte (byte then byte then from_applied)))

pub retired : Field table byte 2 (λ S. S.retired) (λ S v. to_state (S.n, (S.k, (v, (of_state S).1.1.1))))
retired =
    in_table
    (inner (second byte (byte then byte then byte then from_applied)) (inner (second byte (byte then byte then from_applied)) (first byte (byte then from_applied))))

pub byte3 : Field table byte 3 (λ S. S.byte3) (λ S v. to_state (S.n, (S.k, (S.retired, (v, (of_state S).1.1.1.1)))))
byte3 =
    in_table
    (inner (second byte (byte then byte then byte then from_applied))
    (inner (second byte (byte then byte then from_applied)) (inner (second byte (byte then from_applied)) (first byte from_applied))))

-- the squares, and the shelves of records as their fields
pub square_stands : (q : Square) → Field table square (square_at q) (square_of q) (with_square q)
square_stands applied = in_table (inner behind (first square from_depends))
square_stands depends = in_table (inner behind (inner (second square from_depends) (first square from_store)))

store_stands : Field table entries_codec store_at (λ S. S.store) with_store
store_stands = in_table (inner behind (inner (second square from_depends) (inner (second square from_store) (first entries_codec updates_codec))))

updates_stand : Field table updates_codec updates_at (λ S. S.updates) with_updates
updates_stand = in_table (inner behind (inner (second square from_depends) (inner (second square from_store) (second entries_codec updates_codec))))

-- a record of them, as its fields
pub record_stands : (r : Shelves) (s x : ℕ) → s < 8 → x < places r
    → Field table fields (shelves_at r + (s * places r + x) * fields.width) (λ S. shelves_of r S s x) (λ S p. with_record r S s x p)
record_stands entries s x hs hx =
    let f = inner store_stands (inner (element (row 64 entry) 8 s hs) (element entry 64 x hx)) in
    at_place (omega arith) (record { inside = f.inside; reads = λ l. ap of_entry (f.reads l); writes = f.writes })
record_stands updates o x ho hx =
    let f = inner updates_stand (inner (element (row 16 update) 8 o ho) (element update 16 x hx)) in
    at_place (omega arith) (record { inside = f.inside; reads = λ l. ap of_update (f.reads l); writes = f.writes })

-- a number and a row of a square at their places
module _ {A : Type 0} {c : Codec A} {at : ℕ} where
  pub number_placed : {of : A → ℕ → Vector} {with : A → (ℕ → Vector) → A} → Field c square at of with → (s o : ℕ) → s < 8 → o < 8
      → Field c clock (at + (s * 8 + o) * clock.width) (λ S. of S s o) (λ S n. with S ((of S) ⟨ s ⟩⟨ o ≔ n ⟩))
  number_placed f s o hs ho = at_place (omega arith) (inner f (inner (element vector 8 s hs) (element clock 8 o ho)))

  pub row_placed : {of : A → ℕ → Vector} {with : A → (ℕ → Vector) → A} → Field c square at of with → (s : ℕ) → s < 8
      → Field c vector (at + s * vector.width) (λ S. of S s) (λ S v. with S ((of S) ⟨ s ≔ v ⟩))
  row_placed f s hs = inner f (element vector 8 s hs)

-- ## The places in an entry or an update

abbrev tag_at : ℕ
tag_at = value.width

abbrev zero_at : ℕ
zero_at = tag_at + byte.width

abbrev clock_at : ℕ
clock_at = zero_at + byte.width

abbrev vector_at : ℕ
vector_at = clock_at + clock.width

abbrev after_value : Codec (ℕ × (ℕ × (ℕ × Vector)))
after_value = byte then byte then clock then vector

abbrev after_tag : Codec (ℕ × (ℕ × Vector))
after_tag = byte then clock then vector

abbrev after_zero : Codec (ℕ × Vector)
after_zero = clock then vector

pub value_field : Field fields (value) 0 (λ p. p.0) (λ p v. (v, p.1))
value_field = first (value) after_value

pub tag_field : Field fields byte tag_at (λ p. p.1.0) (λ p v. (p.0, (v, p.1.1)))
tag_field = inner (second (value) after_value) (first byte after_tag)

pub zero_field : Field fields byte zero_at (λ p. p.1.1.0) (λ p v. (p.0, (p.1.0, (v, p.1.1.1))))
zero_field = inner (second (value) after_value) (inner (second byte after_tag) (first byte after_zero))

pub clock_field : Field fields clock clock_at (λ p. p.1.1.1.0) (λ p v. (p.0, (p.1.0, (p.1.1.0, (v, p.1.1.1.1)))))
clock_field = inner (second (value) after_value) (inner (second byte after_tag) (inner (second byte after_zero) (first clock vector)))

pub depends_field : Field fields vector vector_at (λ p. p.1.1.1.1) (λ p v. (p.0, (p.1.0, (p.1.1.0, (p.1.1.1.0, v)))))
depends_field = inner (second (value) after_value) (inner (second byte after_tag) (inner (second byte after_zero) (second clock vector)))

pub fields_read : (l : List ℕ)
    → (value.dec (take tag_at l), (get_or l tag_at 0, (get_or l zero_at 0, (clock.dec (part l clock_at clock.width), vector.dec (part l vector_at vector.width))))) ≡ fields_at l
unfolding fields_at
fields_read l i =
    (read_part value_field l i, (read_byte tag_field l i, (read_byte zero_field l i, (read_part clock_field l i, read_part depends_field l i))))

-- the bytes after the five stores of an entry or an update
module _ (l value₁ : List ℕ) (tag none : ℕ) (clock₄ vector₅ : List ℕ) where
  abbrev l₁ : List ℕ
  l₁ = value₁ ++ drop tag_at l

  abbrev l₂ : List ℕ
  l₂ = set l₁ tag_at tag

  abbrev l₃ : List ℕ
  l₃ = set l₂ zero_at none

  abbrev l₄ : List ℕ
  l₄ = take clock_at l₃ ++ (clock₄ ++ drop clock.width (drop clock_at l₃))

  pub fields_written : length l ≡ fields.width → length l₁ ≡ fields.width → length l₂ ≡ fields.width → length l₃ ≡ fields.width → length l₄ ≡ fields.width
      → length value₁ ≡ length (take tag_at l) → length clock₄ ≡ length (part l₃ clock_at clock.width) → length vector₅ ≡ length (part l₄ vector_at vector.width)
      → fields_at (take vector_at l₄ ++ (vector₅ ++ drop vector.width (drop vector_at l₄))) ≡ (value.dec value₁, (tag, (none, (clock.dec clock₄, vector.dec vector₅))))
  unfolding fields_at
  fields_written h h₁ h₂ h₃ h₄ k₁ k₄ k₅ =
      write_part depends_field l₄ vector₅ h₄ k₅
      ∙ ap (λ (x : Fields). (x.0, (x.1.0, (x.1.1.0, (x.1.1.1.0, vector.dec vector₅)))))
      (write_part clock_field l₃ clock₄ h₃ k₄
      ∙ ap (λ (x : Fields). (x.0, (x.1.0, (x.1.1.0, (clock.dec clock₄, x.1.1.1.1)))))
      (write_at zero_field l₂ none h₂
      ∙ ap (λ (x : Fields). (x.0, (x.1.0, (none, x.1.1.1))))
      (write_at tag_field l₁ tag h₁ ∙ ap (λ (x : Fields). (x.0, (tag, x.1.1))) (write_part value_field l value₁ h k₁))))

-- a square of zeros
pub cells2_zeros : (m k : ℕ) → cells2 (replicate m (replicate k 0)) ≡ λ i. zeros
cells2_zeros m k = fun_ext (go m)
  where
    go : (m i : ℕ) → cells2 (replicate m (replicate k 0)) i ≡ zeros
    go zero i = refl
    go (suc m) zero = cells_zeros k
    go (suc m) (suc i) = go m i

-- the rows that were asked for
pub rows_at : (from to i : ℕ) (f : ℕ → Vector) → from ≤ i → i < to → rows from to f i ≡ f i
rows_at from to i f h k = up_to_below (up_to from (λ j. zeros) f) (λ j. zeros) to i k ∙ up_to_from (λ j. zeros) f from i h

-- one row, read out by itself
pub row_read : (s : ℕ) (f : ℕ → Vector) {a : ℕ → Vector} → a ≡ rows s (s + 1) f → a s ≡ f s
row_read s f e = (λ i. e i s) ∙ rows_at s (s + 1) s f (omega arith) (omega arith)

-- the clock and the tag of an entry or an update, read by themselves
pub clock_read : (l : List ℕ) → clock.dec (part l clock_at clock.width) ≡ (fields_at l).1.1.1.0
clock_read l = ap (λ (p : Fields). p.1.1.1.0) (fields_read l)

pub tag_read : (l : List ℕ) → get_or l tag_at 0 ≡ (fields_at l).1.0
tag_read l = ap (λ (p : Fields). p.1.0) (fields_read l)
