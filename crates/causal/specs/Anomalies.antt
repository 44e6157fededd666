-- Histories that no store may make: in each, some site has no order; and two that it may make, where every site has one. Assumes nothing.
use Rattle.std.specs.Prelude.{[], ◌∷◌, ℕ}
use Rattle.causal.specs.World.{never, wrote, put, get, look, adopt, update}
use Rattle.clock.specs.Lists.{◌∈◌}
use Rattle.causal.specs.History.{History, Ranks, Ranking, Ordered}

abbrev pub NoOrder : History → (s : ℕ) → Type 0
NoOrder h s = (r : Ranks) → Ranking r h → Ordered r h s → ⊥

abbrev pub HasOrder : History → (s : ℕ) → Type 0
HasOrder h s = (r : Ranks) × Ranking r h × Ordered r h s

-- 0 put 7, and 1 was handed 99 as that put
abbrev pub forged : History
forged = update 1 0 1 5 99 ∷ put 0 5 7 1 ∷ []

-- 1 was handed one put twice, and got it each time
abbrev pub twice : History
twice = get 1 5 (wrote 7 0 1) ∷ update 1 0 1 5 7 ∷ get 1 5 (wrote 7 0 1) ∷ update 1 0 1 5 7 ∷ put 0 5 7 1 ∷ []

-- 0 put two times, and 1 was handed the second put first
abbrev pub second_first : History
second_first = update 1 0 1 1 7 ∷ update 1 0 2 2 9 ∷ put 0 2 9 2 ∷ put 0 1 7 1 ∷ []

-- 1 got 0's put and made its own, which 2 was handed: 0's has not come there
abbrev pub effect_alone : History
effect_alone = update 2 1 1 2 9 ∷ put 1 2 9 1 ∷ get 1 1 (wrote 7 0 1) ∷ update 1 0 1 1 7 ∷ put 0 1 7 1 ∷ []

-- the same, and 0's came later
abbrev pub effect_first : History
effect_first = update 2 0 1 1 7 ∷ effect_alone

-- 1 got 0's put and made its own, 2 got 1's and made its own, and 3 was handed 2's before 0's
abbrev pub far_effect_first : History
far_effect_first =
    update 3 0 1 1 7 ∷ update 3 2 1 3 4
    ∷ put 2 3 4 1 ∷ get 2 2 (wrote 9 1 1) ∷ update 2 1 1 2 9 ∷ update 2 0 1 1 7
    ∷ put 1 2 9 1 ∷ get 1 1 (wrote 7 0 1) ∷ update 1 0 1 1 7 ∷ put 0 1 7 1 ∷ []

-- 0 put 7, and its get answers that nobody wrote
abbrev pub forgotten : History
forgotten = get 0 5 never ∷ put 0 5 7 1 ∷ []

-- 1 was handed 0's put, and its gets answer that nobody wrote
abbrev pub blind : History
blind = get 1 5 never ∷ get 1 5 never ∷ update 1 0 1 5 7 ∷ put 0 5 7 1 ∷ []

-- 1 got 0's put before it was handed it
abbrev pub early : History
early = update 1 0 1 5 7 ∷ get 1 5 (wrote 7 0 1) ∷ put 0 5 7 1 ∷ []

-- 1 looked at 0's put before it was handed it, and overlooked it then
abbrev pub early_look : History
early_look = update 1 0 1 5 7 ∷ look 1 5 (wrote 7 0 1) ∷ put 0 5 7 1 ∷ []

abbrev pub blind_look : History
blind_look = look 1 5 never ∷ update 1 0 1 5 7 ∷ put 0 5 7 1 ∷ []

-- 1 adopted 0's put and made its own, which 2 was handed: 0's has not come there
abbrev pub adopted_alone : History
adopted_alone = update 2 1 1 2 9 ∷ put 1 2 9 1 ∷ adopt 1 1 (wrote 7 0 1) ∷ look 1 1 (wrote 7 0 1) ∷ update 1 0 1 1 7 ∷ put 0 1 7 1 ∷ []

-- 1 adopted 0's put and made its own, and 0's has not come there
abbrev pub adopted_unseen : History
adopted_unseen = put 1 2 9 1 ∷ adopt 1 1 (wrote 7 0 1) ∷ put 0 1 7 1 ∷ []

-- 1 looked at 0's put, adopted nothing and made its own, which 2 was handed: this is as it should be
abbrev pub looked_at : History
looked_at = update 2 1 1 2 9 ∷ put 1 2 9 1 ∷ look 1 1 (wrote 7 0 1) ∷ update 1 0 1 1 7 ∷ put 0 1 7 1 ∷ []

-- 1 was handed a put and got it, and then 0 made it
abbrev pub prophecy : History
prophecy = put 0 5 7 1 ∷ get 1 5 (wrote 7 0 1) ∷ update 1 0 1 5 7 ∷ []

-- case 13 of document 01: 0 and 1 put, each was handed the other's put, and 1 got 0's
abbrev pub two_winners : History
two_winners = get 1 0 (wrote 5 0 1) ∷ update 1 0 1 0 5 ∷ update 0 1 1 0 6 ∷ put 1 0 6 1 ∷ put 0 0 5 1 ∷ []

-- the same, and both got 1's: this is as it should be
abbrev pub one_winner : History
one_winner = get 0 0 (wrote 6 1 1) ∷ get 1 0 (wrote 6 1 1) ∷ update 1 0 1 0 5 ∷ update 0 1 1 0 6 ∷ put 1 0 6 1 ∷ put 0 0 5 1 ∷ []

-- 0 put two times, was handed 1's first put, of a lower rank, and got that: the newest
abbrev pub newest_wins : History
newest_wins = get 0 0 (wrote 6 1 1) ∷ update 0 1 1 0 6 ∷ put 0 0 7 2 ∷ put 1 0 6 1 ∷ put 0 0 5 1 ∷ []

-- 1 overwrote 0's put, which it never got, and 2 was handed 1's put first
abbrev pub overwriting_first : History
overwriting_first = update 2 0 1 0 5 ∷ update 2 1 1 0 6 ∷ put 1 0 6 1 ∷ update 1 0 1 0 5 ∷ put 0 0 5 1 ∷ []

pub record Anomalies : Type 0 where
  -- a put that nobody made
  pub invented : NoOrder forged 1
  -- a put that is applied twice
  pub repeated : NoOrder twice 1
  -- a put before its cause, for each kind of cause: an own earlier put, a put that a get answered, a cause of a cause
  pub own_put : NoOrder second_first 1
  pub got : NoOrder effect_first 2
  pub deeper : NoOrder far_effect_first 3
  -- a put without its cause
  pub alone : NoOrder effect_alone 2
  -- a get that overlooks an own put, or one that its site was handed
  pub overlooked : NoOrder forgotten 0
  pub unseen : NoOrder blind 1
  -- a put that is got before it was handed, or handed before it was made
  pub too_early : NoOrder early 1
  pub foretold : NoOrder prophecy 1
  -- a look that answers what is not there, or overlooks what is
  pub looked_early : NoOrder early_look 1
  pub looked_blind : NoOrder blind_look 1
  -- an adopted put is waited for by the adopter's next put, and has come to the adopter before that; a looked-at one is not waited for
  pub adopted : NoOrder adopted_alone 2
  pub not_held : NoOrder adopted_unseen 1
  pub looked : (s : ℕ) → HasOrder looked_at s
  -- a put that comes to its site from itself: it would stand twice
  pub from_itself : (h : History) (s c x v : ℕ) → update s s c x v ∈ h → NoOrder h s
  -- a get that answers the lower origin of equal ranks, or the newest put where another has the higher rank; the higher origin is right
  pub disagreed : NoOrder two_winners 1
  pub agreed : (s : ℕ) → HasOrder one_winner s
  pub newest : NoOrder newest_wins 0
  -- a put before the one that it overwrote
  pub overwritten : NoOrder overwriting_first 2
