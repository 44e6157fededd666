-- Arrays as maps: storing at a place, and a loop that gives the places one after another. Assumes nothing.
use mathlib.Core.Path.{◌≡◌, refl, sym, ap, subst, ◌∙◌, fun_ext}
use mathlib.Core.Bool.{true, false}
use mathlib.Core.List.{List}
use mathlib.Core.Logic.{⊎_elim, ◌≢◌}
use Prim.Native.Nat.{ℕ, zero, suc, ◌+◌, ◌≤◌, ◌<◌}
use native.Mathlib.Omega.{arith}
use lib.Dec.{ltb}
use lib.ListN.{length, get_or, set, replicate, get_or-eq_default}
use lib.Seq.{get_or-set_same, get_or-set_other}
use denote.Param.Members.{Mut}
use borrow.Author.Tests.{lt-ltb, le-ltb, ltb-true, ltb-false}
use Rattle.std.specs.Array.{IsFromFnResult, IsFromFnResultFrom}
use Rattle.std.specs.Fn.{Called}
use Rattle.clock.specs.Map.{◌⟨◌≔◌⟩, up_to}
use Rattle.clock.specs.Vector.{zeros}
use Rattle.clock.specs.Clock.{cells}
use Rattle.clock.proofs.Maps.{at_is, at_same, at_other, true_or_false, eq?}

module _ {A B : Type 0} (f : A → B) (d : A) where
  -- what an array of A's stands for, each element through f
  abbrev pub through : List A → ℕ → B
  through l j = f (get_or l j d)

  pub through_set : (l : List A) (i : ℕ) (a : A) → i < length l → through (set l i a) ≡ through l ⟨ i ≔ f a ⟩
  through_set l i a h =
      fun_ext λ j.
      ⊎_elim
      (λ (e : i ≡ j). rw (← e) (ap f (get_or-set_same l i a d h) ∙ sym (at_same (through l) i (f a))))
      (λ (e : i ≢ j). ap f (get_or-set_other l i j a d (λ q. e (sym q))) ∙ sym (at_other (through l) i (f a) j e))
      (eq? i j)

module _ {B : Type 0} (v w : ℕ → B) where
  pub up_to_below : (i j : ℕ) → j < i → up_to i v w j ≡ v j
  up_to_below i j h = rw (lt-ltb j i h)

  pub up_to_from : (i j : ℕ) → i ≤ j → up_to i v w j ≡ w j
  up_to_from i j h = rw (le-ltb j i h)

  pub up_to_none : (i : ℕ) → up_to i (up_to i w v) w ≡ w
  up_to_none i =
      fun_ext λ j.
      ⊎_elim
      (λ (e : ltb j i ≡ true). rw e)
      (λ (e : ltb j i ≡ false). rw e)
      (true_or_false (ltb j i))

  pub up_to_next : (i : ℕ) → up_to i v w ⟨ i ≔ v i ⟩ ≡ up_to (i + 1) v w
  up_to_next i =
      fun_ext λ j.
      ⊎_elim
      (λ p. p.1 ∙ ap v p.0 ∙ sym (up_to_below (i + 1) j (omega (arith, p.0))))
      (λ p. p.1 ∙ elsewhere j p.0)
      (at_is (up_to i v w) i (v i) j)
    where
      elsewhere : (j : ℕ) → i ≢ j → up_to i v w j ≡ up_to (i + 1) v w j
      elsewhere j h =
          ⊎_elim
          (λ (e : ltb j i ≡ true). let l = ltb-true j i e in up_to_below i j l ∙ sym (up_to_below (i + 1) j (omega arith)))
          (λ (e : ltb j i ≡ false). let l = ltb-false j i e in up_to_from i j l ∙ sym (up_to_from (i + 1) j (omega arith)))
          (true_or_false (ltb j i))

  -- both are the same past the bound
  pub up_to_all : (m i : ℕ) → m ≤ i → ((j : ℕ) → m ≤ j → w j ≡ v j) → up_to i v w ≡ v
  up_to_all m i h f =
      fun_ext λ j.
      ⊎_elim
      (λ (e : ltb j i ≡ true). up_to_below i j (ltb-true j i e))
      (λ (e : ltb j i ≡ false). let l = ltb-false j i e in up_to_from i j l ∙ f j (omega arith))
      (true_or_false (ltb j i))

-- a loop that fills an array: what it stores at i is v's
pub fill_next : {A B : Type 0} (f : A → B) (d : A) (v w : ℕ → B) (l : List A) (i : ℕ) (a : A)
    → i < length l → through f d l ≡ up_to i v w → f a ≡ v i → through f d (set l i a) ≡ up_to (i + 1) v w
fill_next f d v w l i a h p e = through_set f d l i a h ∙ rw (p, e) (up_to_next v w i)

-- an array made by one call for each place, where a call leaves what it is made with as it was
pub made_at : {F B : Type 0} {g : Mut F (ℕ × Unit {0}) B} {f : F} {l : List B} {n : ℕ} (v : ℕ → B) → IsFromFnResult g f l n
    → ((i : ℕ) (b : B) (q : F) → i < n → Called g f (i, tt) b q → (q ≡ f) × (b ≡ v i)) → (j : ℕ) (d : B) → j < n → get_or l j d ≡ v j
made_at {F} {B} {g} {f} {l} {n} v made calls j d h = go n 0 f refl (omega arith) made.each (omega arith) (omega arith)
  where
    go : (m i : ℕ) (p : F) → p ≡ f → i + m ≤ n → IsFromFnResultFrom g p l i m → i ≤ j → j < i + m → get_or l j d ≡ v j
    go zero i p e s made a b = absurd (omega arith)
    go (suc m) i p e s made a b =
        let call = calls i made.1 made.0 (omega arith) (subst (λ (p : F). Called g p (i, tt) made.1 made.0) e made.3) in
        ⊎_elim
        (λ (same : i ≡ j). subst (λ (j : ℕ). get_or l j d ≡ v j) same (made.2.1 d ∙ call.1))
        (λ (other : i ≢ j). go m (i + 1) made.0 call.0 (omega arith) made.4 (omega arith) (omega arith))
        (eq? i j)

-- an array of zeros is the zero vector; past its end an array reads 0
pub cells_zeros : (m : ℕ) → cells (replicate m 0) ≡ zeros
cells_zeros m = fun_ext (go m)
  where
    go : (m j : ℕ) → cells (replicate m 0) j ≡ 0
    go zero j = refl
    go (suc m) zero = refl
    go (suc m) (suc j) = go m j

pub cells_past : (l : List ℕ) (m : ℕ) → length l ≡ m → (j : ℕ) → m ≤ j → cells l j ≡ 0
cells_past l m e j h = get_or-eq_default l 0 (omega arith)

-- an array is a map that is it at its places and 0 past them
pub cells_are : (l : List ℕ) (m : ℕ) {v : ℕ → ℕ} → length l ≡ m → ((j : ℕ) → j < m → get_or l j 0 ≡ v j) → ((j : ℕ) → m ≤ j → v j ≡ 0) → cells l ≡ v
cells_are l m e f past =
    fun_ext λ j.
    ⊎_elim
    (λ (h : ltb j m ≡ true). f j (ltb-true j m h))
    (λ (h : ltb j m ≡ false). let k = ltb-false j m h in cells_past l m e j k ∙ sym (past j k))
    (true_or_false (ltb j m))
