-- Round trips: bytes that are read and laid out again are the same bytes; a value in range that is laid out and read is the same value.
-- Proved for each way to put a layout together, so that it holds of the table. Assumes nothing.
use mathlib.Core.Path.{◌≡◌, refl, sym, ap, ◌∙◌, fun_ext}
use mathlib.Core.Bool.{true, false}
use mathlib.Core.List.{List, [], ◌∷◌, ◌++◌}
use mathlib.Core.Logic.{⊎_elim}
use Prim.Native.Nat.{ℕ, zero, suc, ◌+◌, ◌*◌, ◌^◌, ◌/◌, ◌%◌, ◌≤◌, ◌<◌}
use native.Mathlib.Nat.{not-suc-le-zero, suc-mul, zero-mul, pow-suc, add_comm, mul-le-mul_right}
use native.Mathlib.Omega.{arith}
use lib.Dec.{ltb}
use lib.ListN.{length, get_or, take, drop, length-take, length-drop, length-append, take-append-drop, get_or-append}
use lib.Seq.{get_or-drop, take_at, drop_at, take_all, take-suc, drop-drop, get_or_at}
use borrow.Author.Tests.{ltb-true, ltb-false}
use Rattle.clock.proofs.Maps.{true_or_false}
use Rattle.layout.specs.Codec.{Codec, digits, number_of, number, ◌then◌, in_row, row, via}
use Rattle.layout.specs.Ranges.{Bytes}
use Rattle.layout.specs.Fields.{part}
use Rattle.layout.proofs.Fields.{row_past}

bytes_take : (n : ℕ) (l : List ℕ) → Bytes l → Bytes (take n l)
unfolding Bytes
bytes_take zero l h i = omega arith
bytes_take (suc n) [] h i = omega arith
bytes_take (suc n) (x ∷ l) h zero = h 0
bytes_take (suc n) (x ∷ l) h (suc i) = bytes_take n l (λ j. h (suc j)) i

bytes_drop : (n : ℕ) (l : List ℕ) → Bytes l → Bytes (drop n l)
unfolding Bytes
bytes_drop n l h i = rw (get_or-drop n l i 0) (h (n + i))

pub record Lawful {A : Type 0} (c : Codec A) (ok : A → Type 0) : Type 0 where
  pub long : (a : A) → ok a → length (c.enc a) ≡ c.width
  pub back : (a : A) → ok a → c.dec (c.enc a) ≡ a
  pub forth : (l : List ℕ) → length l ≡ c.width → Bytes l → c.enc (c.dec l) ≡ l
  pub sane : (l : List ℕ) → length l ≡ c.width → Bytes l → ok (c.dec l)

-- ## Numbers

digits_length : (w n : ℕ) → length (digits w n) ≡ w
digits_length zero n = refl
digits_length (suc w) n = length-append (digits w (n / 256)) (n % 256 ∷ []) ∙ omega (arith, digits_length w (n / 256))

-- a number is read off its first bytes
number_front : (w : ℕ) (l r : List ℕ) → w ≤ length l → number_of w (l ++ r) ≡ number_of w l
number_front zero l r h = refl
number_front (suc w) l r h = rw (number_front w l r (omega arith), get_or-append l r 0 w (omega arith))

number_back : (w n : ℕ) → n < 256 ^ w → number_of w (digits w n) ≡ n
number_back zero n h = omega arith
number_back (suc w) n h =
    let d : List ℕ = digits w (n / 256) in
    let e : length d ≡ w = digits_length w (n / 256) in
    let front : number_of w (d ++ (n % 256 ∷ [])) ≡ number_of w d = number_front w d (n % 256 ∷ []) (omega arith) in
    let last : get_or (d ++ (n % 256 ∷ [])) w 0 ≡ n % 256 = get_or_at d (n % 256) [] 0 w e in
    let rest : number_of w d ≡ n / 256 = number_back w (n / 256) (omega (arith, pow-suc 256 w)) in
    omega arith

number_sane : (w : ℕ) (l : List ℕ) → Bytes l → number_of w l < 256 ^ w
unfolding Bytes
number_sane zero l h = omega arith
number_sane (suc w) l h = omega (arith, number_sane w l h, h w, pow-suc 256 w)

number_forth : (w : ℕ) (l : List ℕ) → length l ≡ w → Bytes l → digits w (number_of w l) ≡ l
unfolding Bytes
number_forth zero [] hl hb = refl
number_forth zero (x ∷ l) hl hb = absurd (omega arith)
number_forth (suc w) l hl hb =
    let m : List ℕ = take w l in
    let x : ℕ = get_or l w 0 in
    let split : l ≡ m ++ (x ∷ []) = sym (take_all (suc w) l (omega arith)) ∙ take-suc l w 0 (omega arith) in
    let lm : length m ≡ w = simp length-take (omega arith) in
    let front : number_of w l ≡ number_of w m = ap (number_of w) split ∙ number_front w m (x ∷ []) (omega arith) in
    let hx : x < 256 = hb w in
    let high : (number_of w l * 256 + x) / 256 ≡ number_of w m = omega arith in
    let low : (number_of w l * 256 + x) % 256 ≡ x = omega arith in
    (λ i. digits w (high i) ++ (low i ∷ [])) ∙ ap (λ (r : List ℕ). r ++ (x ∷ [])) (number_forth w m lm (bytes_take w l hb)) ∙ sym split

pub number_lawful : (w : ℕ) → Lawful (number w) (λ n. n < 256 ^ w)
number_lawful w =
    record {
      long = λ n h. digits_length w n;
      back = number_back w;
      forth = number_forth w;
      sane = λ l hl hb. number_sane w l hb;
    }

-- ## One after another

pub then_lawful : {A B : Type 0} {c : Codec A} {d : Codec B} {p : A → Type 0} {q : B → Type 0} → Lawful c p → Lawful d q → Lawful (c then d) (λ x. p x.0 × q x.1)
then_lawful {c = c} {d = d} f g =
    record {
      long = λ a h. length-append (c.enc a.0) (d.enc a.1) ∙ omega (arith, f.long a.0 h.0, g.long a.1 h.1);
      back = λ a h.
          let ec : length (c.enc a.0) ≡ c.width = f.long a.0 h.0 in
          let ed : length (d.enc a.1) ≡ d.width = g.long a.1 h.1 in
          λ i. (
            (ap c.dec (take_at (c.enc a.0) (d.enc a.1) c.width ec) ∙ f.back a.0 h.0) i,
            (ap (λ (r : List ℕ). d.dec (take d.width r)) (drop_at (c.enc a.0) (d.enc a.1) c.width ec)
                ∙ ap d.dec (take_all d.width (d.enc a.1) (omega arith)) ∙ g.back a.1 h.1) i,
          );
      forth = λ l hl hb.
          let n1 : length (take c.width l) ≡ c.width = simp length-take (omega arith) in
          let n2 : length (drop c.width l) ≡ d.width = simp length-drop (omega arith) in
          let t2 : take d.width (drop c.width l) ≡ drop c.width l = take_all d.width (drop c.width l) (omega arith) in
          (λ i. f.forth (take c.width l) n1 (bytes_take c.width l hb) i
          ++ (ap (λ (r : List ℕ). d.enc (d.dec r)) t2 ∙ g.forth (drop c.width l) n2 (bytes_drop c.width l hb)) i)
          ∙ take-append-drop c.width l;
      sane = λ l hl hb.
          let n1 : length (take c.width l) ≡ c.width = simp length-take (omega arith) in
          let n2 : length (take d.width (drop c.width l)) ≡ d.width = simp (length-take, length-drop) (omega arith) in (
            f.sane (take c.width l) n1 (bytes_take c.width l hb),
            g.sane (take d.width (drop c.width l)) n2 (bytes_take d.width (drop c.width l) (bytes_drop c.width l hb)),
          );
    }

-- ## Rows

module _ {A : Type 0} {c : Codec A} {p : A → Type 0} (f : Lawful c p) where
  abbrev w : ℕ
  w = c.width

  row_long : (m : ℕ) (a : ℕ → A) → ((j : ℕ) → j < m → p (a j)) → length (in_row m (λ j. c.enc (a j))) ≡ m * w
  row_long zero a h = sym (zero-mul w)
  row_long (suc m) a h =
      length-append (c.enc (a 0)) (in_row m (λ j. c.enc (a (suc j))))
      ∙ omega (arith, f.long (a 0) (h 0 (omega arith)), row_long m (λ j. a (suc j)) (λ j k. h (suc j) (omega arith)), suc-mul m w)

  -- part j of a row's bytes
  row_part : (m : ℕ) (a : ℕ → A) → ((j : ℕ) → j < m → p (a j)) → (j : ℕ) → j < m → part (in_row m (λ j. c.enc (a j))) (j * w) w ≡ c.enc (a j)
  row_part zero a h j k = absurd (not-suc-le-zero k)
  row_part (suc m) a h zero k = rw (zero-mul w) (take_at (c.enc (a 0)) (in_row m (λ j. c.enc (a (suc j)))) w (f.long (a 0) (h 0 (omega arith))))
  row_part (suc m) a h (suc j) k =
      let rest : List ℕ = in_row m (λ j. c.enc (a (suc j))) in
      let e : suc j * w ≡ w + j * w = suc-mul j w ∙ add_comm (j * w) w in
      rw (e, ← drop-drop (j * w) w)
      (ap (λ (l : List ℕ). part l (j * w) w) (drop_at (c.enc (a 0)) rest w (f.long (a 0) (h 0 (omega arith))))
      ∙ row_part m (λ j. a (suc j)) (λ j k. h (suc j) (omega arith)) j (omega arith))

  row_forth : (m : ℕ) (l : List ℕ) → length l ≡ m * w → Bytes l → in_row m (λ j. c.enc ((row m c).dec l j)) ≡ l
  row_forth zero [] hl hb = refl
  row_forth zero (x ∷ l) hl hb = absurd (omega (arith, zero-mul w))
  row_forth (suc m) l hl hb =
      let e : suc m * w ≡ m * w + w = suc-mul m w in
      let n1 : length (take w l) ≡ w = simp length-take (omega arith) in
      let n2 : length (drop w l) ≡ m * w = simp length-drop (omega arith) in
      let shift : (j : ℕ) → drop (suc j * w) l ≡ drop (j * w) (drop w l) =
      λ j. ap (λ (k : ℕ). drop k l) (suc-mul j w ∙ add_comm (j * w) w) ∙ sym (drop-drop (j * w) w l) in
      (λ i. c.enc (c.dec (take w (drop (zero-mul w i) l))) ++ in_row m (λ j. c.enc (c.dec (take w (shift j i)))))
      ∙ (λ i. f.forth (take w l) n1 (bytes_take w l hb) i ++ row_forth m (drop w l) n2 (bytes_drop w l hb) i)
      ∙ take-append-drop w l

  pub row_lawful : (m : ℕ) → Lawful (row m c) (λ a. ((j : ℕ) → j < m → p (a j)) × ((j : ℕ) → m ≤ j → a j ≡ c.dec []))
  row_lawful m =
      record {
        long = λ a h. row_long m a h.0;
        back = λ a h.
            fun_ext λ j.
            ⊎_elim
            (λ (k : ltb j m ≡ true). ap c.dec (row_part m a h.0 j (ltb-true j m k)) ∙ f.back (a j) (h.0 j (ltb-true j m k)))
            (λ (k : ltb j m ≡ false). row_past c m (in_row m (λ j. c.enc (a j))) (row_long m a h.0) j (ltb-false j m k) ∙ sym (h.1 j (ltb-false j m k)))
            (true_or_false (ltb j m));
        forth = row_forth m;
        sane = λ l hl hb. (
          (λ j k. f.sane (part l (j * w) w) (row_width m l hl j k) (bytes_take w (drop (j * w) l) (bytes_drop (j * w) l hb))),
          row_past c m l hl,
        );
      }
    where
      row_width : (m : ℕ) (l : List ℕ) → length l ≡ m * w → (j : ℕ) → j < m → length (part l (j * w) w) ≡ w
      row_width m l hl j k = simp (length-take, length-drop) (omega (arith, suc-mul j w, mul-le-mul_right w k))

  pub via_lawful : {B : Type 0} (u : A → B) (v : B → A) → ((a : A) → v (u a) ≡ a) → ((b : B) → u (v b) ≡ b) → Lawful (via u v c) (λ b. p (v b))
  via_lawful u v e d =
      record {
        long = λ b h. f.long (v b) h;
        back = λ b h. ap u (f.back (v b) h) ∙ d b;
        forth = λ l hl hb. ap c.enc (e (c.dec l)) ∙ f.forth l hl hb;
        sane = λ l hl hb. rw (e (c.dec l)) (f.sane l hl hb);
      }
