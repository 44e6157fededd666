-- What follows the most steps is ignored, and every text has its last line. Assumes nothing.
use mathlib.Core.Path.{◌≡◌, refl, sym, ap, ◌∙◌}
use mathlib.Core.List.{List, [], ◌++◌, append_assoc}
use mathlib.Core.Logic.{inl, inr, ⊎_elim}
use Prim.Native.Nat.{ℕ, zero, suc, ◌+◌, ◌*◌, ◌≤◌, ◌<◌}
use native.Mathlib.Omega.{arith}
use lib.Dec.{eqb}
use lib.ListN.{length, take, drop, length-take}
use lib.Seq.{take_all, take-take, take-add, drop_at, length-take-le, get_or-take}
use Rattle.clock.proofs.Maps.{choice, le?}
use Rattle.layout.specs.State.{State, all_zero}
use Rattle.rules.specs.Engine.{ours}
use Rattle.rules.specs.Steps.{Outcome}
use Rattle.rules.specs.Calls.{Open, run}
use Rattle.schedule.specs.Step.{step_of, played}
use Rattle.schedule.specs.Text.{line, end_line, cut_line}
use Rattle.schedule.specs.Listing.{last_line, listed, after_open, listing}
use Rattle.schedule.specs.Theorems.{RestIgnored, Ends, AlwaysEnds}
use Rattle.schedule.proofs.Going.{listed_more, listed_last, listing_cut, listing_long}

-- the first part of what follows n elements
drop_take : (n k : ℕ) (l : List ℕ) → n ≤ length l → drop n (take (n + k) l) ≡ take k (drop n l)
drop_take n k l h = ap (drop n) (take-add n k l) ∙ drop_at (take n l) (take k (drop n l)) n (length-take-le n l h)

listed_rest : (m : ℕ) (S : State) (i : ℕ) (l : List ℕ) → listed m S i (take (m * 6) l) ≡ listed m S i l
unfolding listed
listed_rest zero S i l = refl
listed_rest (suc m) S i l =
    ⊎_elim
    (λ (h : 6 ≤ length l).
    let e : suc m * 6 ≡ 6 + m * 6 = omega arith in
    let long : 6 ≤ length (take (suc m * 6) l) = rw (length-take (suc m * 6) l) (omega arith) in
    let first : take 6 (take (suc m * 6) l) ≡ take 6 l = take-take 6 (suc m * 6) l (omega arith) in
    let S' : State = (played S (step_of (take 6 l))).after in
    listed_more m S i (take (suc m * 6) l) long
    ∙ rw (first, e, drop_take 6 (m * 6) l h) (ap (λ (r : List ℕ). line (suc i) (played S (step_of (take 6 l))).answer ++ r) (listed_rest m S' (suc i) (drop 6 l)))
    ∙ sym (listed_more m S i l h))
    (λ (h : length l < 6). ap (listed (suc m) S i) (take_all (suc m * 6) l (omega arith)))
    (le? 6 (length l))

opened_rest : (o : Outcome) (l : List ℕ) → after_open o (take 65532 l) ≡ after_open o l
unfolding after_open
opened_rest o l = rw (after_open, listed_rest 10922 o.after 0 l)

pub rest_ignored : RestIgnored
rest_ignored l =
    ⊎_elim
    (λ (h : 2 ≤ length l).
    listing_long (take 65534 l) (rw (length-take 65534 l) (omega arith))
    ∙ (λ i. after_open (run ours all_zero (Open (get_or-take 65534 l 0 0 (omega arith) i) (get_or-take 65534 l 1 0 (omega arith) i))) (drop_take 2 65532 l h i))
    ∙ opened_rest _ (drop 2 l)
    ∙ sym (listing_long l h))
    (λ (h : length l < 2). ap listing (take_all 65534 l (omega arith)))
    (le? 2 (length l))

-- ## The last line

end_ends : (n : ℕ) → Ends (end_line n)
end_ends n = record { lines = []; number = n; last = inl refl }

cut_ends : (n : ℕ) → Ends (cut_line n)
cut_ends n = record { lines = []; number = n; last = inr refl }

after_ends : (a : List ℕ) {t : List ℕ} → Ends t → Ends (a ++ t)
after_ends a e =
    record {
      lines = a ++ e.lines;
      number = e.number;
      last = ⊎_elim
          (λ q. inl (ap (λ (r : List ℕ). a ++ r) q ∙ sym (append_assoc a e.lines (end_line e.number))))
          (λ q. inr (ap (λ (r : List ℕ). a ++ r) q ∙ sym (append_assoc a e.lines (cut_line e.number))))
          e.last;
    }

listed_ends : (m : ℕ) (S : State) (i : ℕ) (l : List ℕ) → Ends (listed m S i l)
unfolding listed last_line
listed_ends zero S i l = end_ends i
listed_ends (suc m) S i l =
    ⊎_elim
    (λ (h : 6 ≤ length l). rw (listed_more m S i l h) (after_ends (line (suc i) (played S (step_of (take 6 l))).answer) (listed_ends m (played S (step_of (take 6 l))).after (suc i) (drop 6 l))))
    (λ (h : length l < 6). rw (listed_last m S i l h) (choice (eqb (length l) 0) Ends (λ e. end_ends i) (λ e. cut_ends (length l))))
    (le? 6 (length l))

opened_ends : (o : Outcome) (l : List ℕ) → Ends (after_open o l)
unfolding after_open
opened_ends o l = after_ends (line 0 o.answer) (choice (eqb o.answer.code 0) Ends (λ e. listed_ends 10922 o.after 0 l) (λ e. end_ends 0))

pub always_ends : AlwaysEnds
always_ends l =
    ⊎_elim
    (λ (h : 2 ≤ length l). rw (listing_long l h) (opened_ends _ (drop 2 l)))
    (λ (h : length l < 2). rw (listing_cut l h) (cut_ends (length l)))
    (le? 2 (length l))
