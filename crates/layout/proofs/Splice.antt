-- Parts of a list, and a part put in the place of another, as a lent part of a slice comes back. Assumes nothing.
use mathlib.Core.Path.{◌≡◌, refl, sym, ap, ◌∙◌}
use mathlib.Core.Bool.{true, false}
use mathlib.Core.Logic.{⊎_elim}
use mathlib.Core.List.{List, [], ◌∷◌, ◌++◌, append_assoc}
use Prim.Native.Nat.{ℕ, zero, suc, ◌+◌, ◌-◌, ◌≤◌, ◌<◌}
use native.Mathlib.Nat.{not-suc-le-zero, le_of_suc-le-suc, suc-add}
use native.Mathlib.Omega.{arith}
use borrow.Author.Tests.{ltb-true, ltb-false}
use lib.Dec.{ltb}
use lib.ListN.{length, get_or, take, drop, length-append, length-take, length-drop, take-append-drop}
use lib.Seq.{take-append-le, drop-append-le, take-add, drop-drop, length-take-le, take_at, drop_at, take-take, get_or-take, get_or-drop}
use Rattle.clock.proofs.Maps.{true_or_false}
use Rattle.layout.specs.Ranges.{Zeros}
use Rattle.layout.specs.Fields.{part, splice}

part_take : (q : ℕ) (m : List ℕ) (w p : ℕ) → p + q ≤ w → part (take w m) p q ≡ part m p q
part_take q m w zero k = take-take q w m (omega arith)
part_take q m zero (suc p) k = absurd (not-suc-le-zero (rw suc-add at k))
part_take q [] (suc w) (suc p) k = refl
part_take q (x ∷ m) (suc w) (suc p) k = part_take q m w p (le_of_suc-le-suc (rw suc-add at k))

-- a part of a part
pub part_part : (l : List ℕ) (o w p q : ℕ) → p + q ≤ w → part (part l o w) p q ≡ part l (o + p) q
part_part l o w p q h = part_take q (drop o l) w p h ∙ ap (take q) (drop-drop p o l)

pub length_part : (l : List ℕ) (o w : ℕ) → o + w ≤ length l → length (part l o w) ≡ w
length_part l o w h = simp (length-take, length-drop) (omega arith)

pub get_d_part : (l : List ℕ) (o w j : ℕ) → j < w → get_or (part l o w) j 0 ≡ get_or l (o + j) 0
get_d_part l o w j h = get_or-take w (drop o l) j 0 h ∙ get_or-drop o l j 0

drop_part : (m : List ℕ) (k p : ℕ) → k ≤ p → p ≤ length m → drop k (take p m) ++ drop p m ≡ drop k m
drop_part m k p h q =
    sym (drop-append-le k (take p m) (drop p m) (rw (length-take-le p m q) h)) ∙ ap (drop k) (take-append-drop p m)

module _ (l b : List ℕ) (o : ℕ) (fits : o + length b ≤ length l) where
  pub length_splice : length (splice l o b) ≡ length l
  length_splice = simp (length-append, length-take, length-drop) (omega arith)

  pub take_splice : (p : ℕ) → p ≤ o → take p (splice l o b) ≡ take p l
  take_splice p h =
      take-append-le p (take o l) (b ++ drop (length b) (drop o l)) (rw (length-take-le o l (omega arith)) h) ∙ take-take p o l h

  from_splice : drop o (splice l o b) ≡ b ++ drop (length b) (drop o l)
  from_splice = drop_at (take o l) (b ++ drop (length b) (drop o l)) o (length-take-le o l (omega arith))

  -- what was put in, what stands before it, and what stands behind
  pub splice_at : part (splice l o b) o (length b) ≡ b
  splice_at = ap (take (length b)) from_splice ∙ take_at b (drop (length b) (drop o l)) (length b) refl

  pub splice_before : (p q : ℕ) → p + q ≤ o → part (splice l o b) p q ≡ part l p q
  splice_before p q h =
      sym (part_take q (splice l o b) o p h) ∙ ap (λ (m : List ℕ). part m p q) (take_splice o (omega arith)) ∙ part_take q l o p h

  pub drop_splice : (p : ℕ) → o + length b ≤ p → drop p (splice l o b) ≡ drop p l
  drop_splice p h =
      let k : ℕ = p - (o + length b) in
      let e : o + (length b + k) ≡ p = omega arith in
      rw (← e, ← drop-drop (length b + k) o (splice l o b))
      (ap (drop (length b + k)) from_splice
      ∙ sym (drop-drop k (length b) (b ++ drop (length b) (drop o l)))
      ∙ ap (drop k) (drop_at b (drop (length b) (drop o l)) (length b) refl)
      ∙ drop-drop k (length b) (drop o l)
      ∙ drop-drop (length b + k) o l)

  -- zeros behind zeros
  pub splice_zeros : ((j : ℕ) → j < o → get_or l j 0 ≡ 0) → Zeros b → (j : ℕ) → j < o + length b → get_or (splice l o b) j 0 ≡ 0
  splice_zeros before z j h =
      ⊎_elim
      (λ (e : ltb j o ≡ true).
      let k = ltb-true j o e in
      sym (get_or-take o (splice l o b) j 0 k) ∙ ap (λ (m : List ℕ). get_or m j 0) (take_splice o (omega arith)) ∙ get_or-take o l j 0 k ∙ before j k)
      (λ (e : ltb j o ≡ false).
      let k = ltb-false j o e in
      let q : o + (j - o) ≡ j = omega arith in
      ap (λ (i : ℕ). get_or (splice l o b) i 0) (sym q)
      ∙ sym (get_d_part (splice l o b) o (length b) (j - o) (omega arith))
      ∙ ap (λ (m : List ℕ). get_or m (j - o) 0) splice_at
      ∙ z (j - o))
      (true_or_false (ltb j o))

-- to write in a part, and the part in its place, is to write in the whole
pub splice_splice : (l b : List ℕ) (o w p : ℕ) → p + length b ≤ w → o + w ≤ length l → splice l (o + p) b ≡ splice l o (splice (part l o w) p b)
splice_splice l b o w p h k =
    let m : List ℕ = drop o l in
    let hm : w ≤ length m = rw (length-drop o l) (omega arith) in
    let lw : length (take w m) ≡ w = length-take-le w m hm in
    let ls : length (splice (take w m) p b) ≡ w = length_splice (take w m) b p (rw lw h) ∙ lw in
    rw (ls, take-take p w m (omega arith), take-add o p l)
    (append_assoc (take o l) (take p m) (b ++ drop (length b) (drop (o + p) l))
    ∙ ap (λ (r : List ℕ). take o l ++ r)
    (ap (λ (r : List ℕ). take p m ++ (b ++ drop (length b) r)) (sym (drop-drop p o l))
    ∙ sym (append_assoc (take p m) (b ++ drop (length b) (drop p (take w m))) (drop w m)
    ∙ ap (λ (r : List ℕ). take p m ++ r)
    (append_assoc b (drop (length b) (drop p (take w m))) (drop w m)
    ∙ ap (λ (r : List ℕ). b ++ r)
    (ap (λ (r : List ℕ). r ++ drop w m) (drop-drop (length b) p (take w m))
    ∙ drop_part m (p + length b) w h hm
    ∙ sym (drop-drop (length b) p m))))))
