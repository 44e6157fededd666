-- A field of a layout: bytes at a place that stand for a part of the value. To read the part is to read its bytes, and to
-- write the bytes is to change that part. Fields compose, so each place of the table is one. Assumes nothing.
use mathlib.Core.Path.{◌≡◌, refl, sym, ap, ◌∙◌, subst, fun_ext}
use mathlib.Core.Bool.{true, false}
use mathlib.Core.List.{List, [], ◌∷◌, ◌++◌, append_assoc}
use mathlib.Core.Logic.{⊎_elim, ◌≢◌}
use Prim.Native.Nat.{ℕ, ◌+◌, ◌*◌, ◌-◌, ◌≤◌, ◌<◌}
use native.Mathlib.Nat.{suc-mul, mul-le-mul_right, add-zero}
use native.Mathlib.Omega.{arith}
use lib.Dec.{ltb}
use lib.ListN.{length, get_or, set, take, drop, drop_of_length-le}
use lib.Seq.{take_at, drop_at, take-nil, get_or-take, get_or-drop, drop-drop, sets-eq}
use borrow.Author.Tests.{ltb-true, ltb-false}
use Rattle.clock.specs.Map.{◌⟨◌≔◌⟩}
use Rattle.clock.proofs.Maps.{at_same, at_other, eq?, true_or_false}
use Rattle.layout.specs.Codec.{Codec, number, ◌then◌, row, via}
use Rattle.layout.specs.Fields.{part, splice, Field}
use Rattle.layout.proofs.Splice.{part_part, length_part, length_splice, take_splice, splice_at, splice_before, drop_splice, splice_splice}

-- the same place under another number
pub at_place : {A B : Type 0} {c : Codec A} {p : Codec B} {o o' : ℕ} {get : A → B} {put : A → B → A} → o ≡ o' → Field c p o get put → Field c p o' get put
at_place {c = c} {p = p} {get = get} {put = put} e f = subst (λ (x : ℕ). Field c p x get put) e f

-- a field of a field
pub inner : {A B C : Type 0} {c : Codec A} {p : Codec B} {q : Codec C} {o o' : ℕ} {get : A → B} {put : A → B → A} {get' : B → C} {put' : B → C → B}
    → Field c p o get put → Field p q o' get' put' → Field c q (o + o') (λ a. get' (get a)) (λ a v. put a (put' (get a) v))
inner {B = B} {c = c} {p = p} {q = q} {o = o} {o' = o'} {get = get} {put = put} {get' = get'} {put' = put'} f g =
    let fi = f.inside in
    let gi = g.inside in
    record {
      inside = omega arith;
      reads = λ l. ap get' (f.reads l) ∙ g.reads (part l o p.width) ∙ ap q.dec (part_part l o p.width o' q.width gi);
      writes = λ l b hl hb.
          let m : List ℕ = part l o p.width in
          let hm : length m ≡ p.width = length_part l o p.width (omega arith) in
          let hs : length (splice m o' b) ≡ p.width = length_splice m b o' (omega arith) ∙ hm in
          ap c.dec (splice_splice l b o p.width o' (omega arith) (omega arith))
          ∙ f.writes l (splice m o' b) hl hs
          ∙ ap (put (c.dec l)) (g.writes m b hm hb ∙ ap (λ (x : B). put' x (q.dec b)) (sym (f.reads l)));
    }

module _ {A B : Type 0} (c : Codec A) (d : Codec B) where
  pub first : Field (c then d) c 0 (λ p. p.0) (λ p v. (v, p.1))
  first =
      record {
        inside = omega arith;
        reads = λ l. refl;
        writes = λ l b hl hb i. (
          c.dec (take_at b (drop (length b) l) c.width hb i),
          d.dec (take d.width ((drop_at b (drop (length b) l) c.width hb ∙ ap (λ (k : ℕ). drop k l) hb) i)),
        );
      }

  pub second : Field (c then d) d c.width (λ p. p.1) (λ p v. (p.0, v))
  second =
      record {
        inside = omega arith;
        reads = λ l. refl;
        writes = λ l b hl hb i. (
          c.dec (take_splice l b c.width (omega arith) c.width (omega arith) i),
          d.dec ((ap (λ (k : ℕ). part (splice l c.width b) c.width k) (sym hb) ∙ splice_at l b c.width (omega arith)) i),
        );
      }

-- the value at j of m
pub element : {A : Type 0} (c : Codec A) (m j : ℕ) → j < m → Field (row m c) c (j * c.width) (λ f. f j) (λ f v. f ⟨ j ≔ v ⟩)
element {A} c m j h =
    let w : ℕ = c.width in
    let ends : (i k : ℕ) → i < k → i * w + w ≤ k * w = λ i k lt. rw (← suc-mul i w) (mul-le-mul_right w lt) in
    record {
      inside = ends j m h;
      reads = λ l. refl;
      writes = λ l b hl hb.
          let fits : j * w + length b ≤ length l = omega (arith, ends j m h) in
          fun_ext λ i.
          ⊎_elim
          (λ (e : j ≡ i).
          rw (← e) (ap c.dec (ap (part (splice l (j * w) b) (j * w)) (sym hb) ∙ splice_at l b (j * w) fits) ∙ sym (at_same ((row m c).dec l) j (c.dec b))))
          (λ (e : j ≢ i).
          ap c.dec
          (⊎_elim
          (λ (lt : ltb i j ≡ true). splice_before l b (j * w) fits (i * w) w (ends i j (ltb-true i j lt)))
          (λ (ge : ltb i j ≡ false). ap (take w) (drop_splice l b (j * w) fits (i * w) (omega (arith, ends j i (omega (arith, ltb-false i j ge))))))
          (true_or_false (ltb i j)))
          ∙ sym (at_other ((row m c).dec l) j (c.dec b) i e))
          (eq? j i);
    }

-- a field of a value read as another type
pub clothed : {A B C : Type 0} {c : Codec A} {p : Codec C} {o : ℕ} {get : A → C} {put : A → C → A} (f : A → B) (g : B → A) → ((a : A) → g (f a) ≡ a)
    → Field c p o get put → Field (via f g c) p o (λ b. get (g b)) (λ b v. f (put (g b) v))
clothed {A = A} {c = c} {p = p} {get = get} {put = put} f g e r =
    record {
      inside = r.inside;
      reads = λ l. ap get (e (c.dec l)) ∙ r.reads l;
      writes = λ l b hl hb. ap f (r.writes l b hl hb ∙ ap (λ (a : A). put a (p.dec b)) (sym (e (c.dec l))));
    }

-- past its end a row reads as no bytes do
pub row_past : {A : Type 0} (c : Codec A) (m : ℕ) (l : List ℕ) → length l ≡ m * c.width → (j : ℕ) → m ≤ j → (row m c).dec l j ≡ c.dec []
row_past c m l hl j h =
    let le : length l ≤ j * c.width = rw hl (mul-le-mul_right c.width h) in
    ap c.dec (ap (take c.width) (drop_of_length-le l le) ∙ take-nil c.width)

-- reading and writing a field as code does, by the part `&s[o..o + w]`
module _ {A B : Type 0} {c : Codec A} {p : Codec B} {o : ℕ} {get : A → B} {put : A → B → A} (f : Field c p o get put) where
  pub read_part : (l : List ℕ) → p.dec (part l o (o + p.width - o)) ≡ get (c.dec l)
  read_part l =
      let e : o + p.width - o ≡ p.width = omega arith in
      ap (λ (n : ℕ). p.dec (part l o n)) e ∙ sym (f.reads l)

  pub write_part : (l b : List ℕ) → length l ≡ c.width → length b ≡ length (part l o (o + p.width - o))
      → c.dec (take o l ++ (b ++ drop (o + p.width - o) (drop o l))) ≡ put (c.dec l) (p.dec b)
  write_part l b hl hb =
      let fi = f.inside in
      let e : o + p.width - o ≡ p.width = omega arith in
      let hw : length b ≡ p.width = hb ∙ rw e (length_part l o p.width (omega arith)) in
      let e' : o + p.width - o ≡ length b = omega arith in
      ap (λ (n : ℕ). c.dec (take o l ++ (b ++ drop n (drop o l)))) e' ∙ f.writes l b hl hw

-- a single byte that is written and read by its index
pub write_at : {A : Type 0} {c : Codec A} {o : ℕ} {get : A → ℕ} {put : A → ℕ → A} → Field c (number 1) o get put → (l : List ℕ) (v : ℕ) → length l ≡ c.width
    → c.dec (set l o v) ≡ put (c.dec l) v
write_at {c = c} {o = o} {put = put} f l v hl =
    let fi = f.inside in
    let e : 0 * 256 + v ≡ v = omega arith in
    ap c.dec (sets-eq (v ∷ []) l o (omega arith) ∙ append_assoc (take o l) (v ∷ []) (drop (o + 1) l) ∙ ap (λ (r : List ℕ). take o l ++ (v ∷ r)) (sym (drop-drop 1 o l)))
    ∙ f.writes l (v ∷ []) hl refl ∙ ap (put (c.dec l)) e

pub read_byte : {A : Type 0} {c : Codec A} {o : ℕ} {get : A → ℕ} {put : A → ℕ → A} → Field c (number 1) o get put → (l : List ℕ) → get_or l o 0 ≡ get (c.dec l)
read_byte {o = o} f l =
    let e : get_or (part l o 1) 0 0 ≡ get_or l o 0 = get_or-take 1 (drop o l) 0 0 (omega arith) ∙ get_or-drop o l 0 0 ∙ ap (λ (n : ℕ). get_or l n 0) (add-zero o) in
    sym (f.reads l ∙ omega arith)
