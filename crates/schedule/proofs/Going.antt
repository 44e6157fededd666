-- The text of a run, a piece for each step. Assumes nothing.
use mathlib.Core.Path.{◌≡◌, ◌∙◌}
use mathlib.Core.List.{List, ◌++◌}
use mathlib.Core.Logic.{◌≢◌}
use Prim.Native.Nat.{ℕ, suc, ◌+◌, ◌-◌, ◌≤◌, ◌<◌}
use native.Mathlib.Numerals.{add-one}
use native.Mathlib.Omega.{arith}
use lib.ListN.{length, get_or, drop}
use borrow.Author.Tests.{lt-ltb, le-ltb, eq-eqb, ne_eqb}
use Rattle.layout.specs.State.{State, all_zero}
use Rattle.rules.specs.Engine.{ours}
use Rattle.rules.specs.Steps.{Outcome}
use Rattle.rules.specs.Calls.{Open, run}
use Rattle.schedule.specs.declared.Output.{Output}
use Rattle.schedule.specs.Text.{line, end_line, cut_line}
use Rattle.schedule.specs.Written.{Adds}
use Rattle.schedule.specs.Listing.{last_line, listed, next_played, after_open, listing}
use Rattle.schedule.proofs.Writing.{adds_then}

module _ (m : ℕ) (S : State) (i : ℕ) (l : List ℕ) where
  pub listed_more : 6 ≤ length l → listed (suc m) S i l ≡ line (suc i) (next_played S l).answer ++ listed m (next_played S l).after (suc i) (drop 6 l)
  unfolding listed
  listed_more h = rw (listed, le-ltb (length l) 6 h)

  pub listed_last : length l < 6 → listed (suc m) S i l ≡ last_line i (length l)
  unfolding listed
  listed_last h = rw (listed, lt-ltb (length l) 6 h)

-- what is left of the listing after i steps: a step's line and what is left after it, or the last line
module _ (S : State) (i : ℕ) (l : List ℕ) {old new : Output} where
  pub onward : {mid : Output} → i < 10922 → 6 ≤ length l → Adds old (line (i + 1) (next_played S l).answer) mid
      → Adds mid (listed (10922 - (i + 1)) (next_played S l).after (i + 1) (drop 6 l)) new → Adds old (listed (10922 - i) S i l) new
  onward k h f g =
      let m : 10922 - i ≡ suc (10922 - (i + 1)) = omega arith in
      rw (m, listed_more (10922 - (i + 1)) S i l h, ← add-one i) (adds_then f g)

  pub ended : i < 10922 → length l < 6 → Adds old (last_line i (length l)) new → Adds old (listed (10922 - i) S i l) new
  ended k h f =
      let m : 10922 - i ≡ suc (10922 - (i + 1)) = omega arith in
      rw (m, listed_last (10922 - (i + 1)) S i l h) f

-- the first lines
module _ (l : List ℕ) where
  pub listing_cut : length l < 2 → listing l ≡ cut_line (length l)
  unfolding listing
  listing_cut h = rw (listing, lt-ltb (length l) 2 h)

  pub listing_long : 2 ≤ length l → listing l ≡ after_open (run ours all_zero (Open (get_or l 0 0) (get_or l 1 0))) (drop 2 l)
  unfolding listing
  listing_long h = rw (listing, le-ltb (length l) 2 h)

  module _ (o : Outcome) (opens : o ≡ run ours all_zero (Open (get_or l 0 0) (get_or l 1 0))) (h : 2 ≤ length l) where
    pub listing_refused : o.answer.code ≢ 0 → listing l ≡ line 0 o.answer ++ end_line 0
    unfolding after_open
    listing_refused n = listing_long h ∙ rw (← opens, after_open, ne_eqb o.answer.code 0 n)

    pub listing_opened : o.answer.code ≡ 0 → listing l ≡ line 0 o.answer ++ listed 10922 o.after 0 (drop 2 l)
    unfolding after_open
    listing_opened z = listing_long h ∙ rw (← opens, after_open, eq-eqb o.answer.code 0 z)
