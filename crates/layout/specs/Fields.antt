-- A field of a layout: bytes at a place that stand for a part of the value. Assumes nothing.
use Rattle.std.specs.Prelude.{◌≡◌, List, ◌++◌, ℕ, ◌+◌, ◌≤◌, length, take, drop}
use Rattle.layout.specs.Codec.{Codec}

-- the w elements from o on
abbrev pub part : List ℕ → (o w : ℕ) → List ℕ
part l o w = take w (drop o l)

-- the list with b in the place of as many elements from o on
abbrev pub splice : List ℕ → ℕ → List ℕ → List ℕ
splice l o b = take o l ++ (b ++ drop (length b) (drop o l))

-- to read the part is to read its bytes, and to write the bytes is to change that part
pub record Field {A B : Type 0} (c : Codec A) (p : Codec B) (o : ℕ) (get : A → B) (put : A → B → A) : Type 0 where
  pub inside : o + p.width ≤ c.width
  pub reads : (l : List ℕ) → get (c.dec l) ≡ p.dec (part l o p.width)
  pub writes : (l b : List ℕ) → length l ≡ c.width → length b ≡ p.width → c.dec (splice l o b) ≡ put (c.dec l) (p.dec b)
