-- The promise of a call from the host: where the reply is not 12 bytes, and where the call is made. Assumes nothing.
use mathlib.Core.Path.{◌≡◌, refl, ap, ◌∙◌}
use mathlib.Core.Bool.{true, false}
use mathlib.Core.List.{List, [], ◌∷◌}
use mathlib.Core.Logic.{◌≢◌}
use Prim.Native.Nat.{ℕ}
use lib.ListN.{length}
use borrow.Author.Tests.{eq-eqb, ne_eqb}
use Rattle.rules.specs.Engine.{Engine}
use Rattle.rules.specs.Refusals.{Refusals, first}
use Rattle.laws.proofs.Given.{Avoids}
use Rattle.rules.specs.Calls.{Call, words, Served, serve}
use Rattle.answers.specs.Answers.{Answer, numbers_of, served}
use Rattle.reply.specs.Reply.{reply_bytes, reply_of}
use Rattle.host.specs.Host.{Hosted, left, unsized, host}
use Rattle.reply.specs.Told.{Replied, behind}

-- what is left where a call is made
hosted : Served → Hosted
hosted w = left w.answer.code w.bytes (reply_of w.answer)

-- some conditions, and 1 behind them
pub behind_words : (ps : Refusals) → Avoids 0 ps → behind (first ps) ≡ unsized ps
behind_words [] a = refl
behind_words ((c, true) ∷ ps) a = rw (ne_eqb c 0 a.0)
behind_words ((c, false) ∷ ps) a = behind_words ps a.1

module _ (E : Engine) (t r : List ℕ) (c : Call) where
  pub hosts_nothing : length r ≢ reply_bytes → left (unsized (words c)) t r ≡ host E t r c
  unfolding host
  hosts_nothing h = rw (ne_eqb (length r) reply_bytes h)

  -- the call made, and its answer written
  pub hosts_call : {code : ℕ} {t' r' : List ℕ} (a : Answer) → length r ≡ reply_bytes → served a t' ≡ serve E t c → Replied code r' (numbers_of a) → left code t' r' ≡ host E t r c
  unfolding host hosted
  hosts_call {t' = t'} a h s w = rw (eq-eqb (length r) reply_bytes h) ((λ i. left (w.returned i) t' (w.written i)) ∙ ap hosted s)
