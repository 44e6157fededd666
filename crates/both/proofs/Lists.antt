-- The promise of a cold list from the host: where the reply is not 12 bytes, and where the call is made. Assumes nothing.
use mathlib.Core.Path.{◌≡◌, ap, ◌∙◌}
use mathlib.Core.List.{List}
use mathlib.Core.Logic.{◌≢◌}
use Prim.Native.Nat.{ℕ}
use lib.ListN.{length}
use borrow.Author.Tests.{eq-eqb, ne_eqb}
use Rattle.rules.specs.Refusals.{cold_words}
use Rattle.rules.specs.Calls.{Listed}
use Rattle.answers.specs.Answers.{Answer, numbers_of}
use Rattle.cold.specs.Listing.{listed, Promise as Listing}
use Rattle.reply.specs.Reply.{reply_bytes, reply_of}
use Rattle.reply.specs.Told.{Replied}
use Rattle.host.specs.Host.{unsized}
use Rattle.both.specs.ColdHost as cold

module _ (t l r : List ℕ) (s hour T : ℕ) where
  pub lists_nothing : length r ≢ reply_bytes → cold.Promise t l r s hour T (cold.left (unsized (cold_words hour T (length l))) t l r)
  unfolding cold.host
  lists_nothing h = rw (ne_eqb (length r) reply_bytes h)

  pub lists_call : {code : ℕ} {t' l' r' : List ℕ} (a : Answer) → length r ≡ reply_bytes → Listing t l s hour T (listed a t' l') → Replied code r' (numbers_of a)
      → cold.Promise t l r s hour T (cold.left code t' l' r')
  unfolding cold.host
  lists_call {t' = t'} {l' = l'} a h s w =
      rw (eq-eqb (length r) reply_bytes h)
      ((λ i. cold.left (w.returned i) t' l' (w.written i)) ∙ ap (λ (o : Listed). cold.left o.answer.code o.bytes o.list (reply_of o.answer)) s)
