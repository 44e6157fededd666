-- What a cold list from a C program returns, and what it leaves in the three buffers. Assumes nothing.
use Rattle.std.specs.Prelude.{◌≡◌, List, ℕ, eqb, length}
use Rattle.clock.specs.Map.{when◌then◌else◌}
use Rattle.rules.specs.Refusals.{cold_words}
use Rattle.rules.specs.Calls.{serve_list}
use Rattle.reply.specs.Reply.{reply_bytes, reply_of}
use Rattle.host.specs.Host.{unsized}

-- the returned code, and the bytes of the three buffers
pub record Hosted : Type 0 where
  pub code : ℕ
  pub table : List ℕ
  pub list : List ℕ
  pub reply : List ℕ

abbrev pub left : (code : ℕ) (table list reply : List ℕ) → Hosted
left c t l r = record { code = c; table = t; list = l; reply = r }

-- a reply that is not 12 bytes: no buffer is written
unfoldable pub host : (table list reply : List ℕ) → (site hour threshold : ℕ) → Hosted
host t l r s hour T =
    let w = serve_list t l s hour T in
    when eqb (length r) reply_bytes then left w.answer.code w.bytes w.list (reply_of w.answer)
    else left (unsized (cold_words hour T (length l))) t l r

-- the promise of a cold list from a C program
abbrev pub Promise : (table list reply : List ℕ) → (site hour threshold : ℕ) → Hosted → Type 0
Promise t l r s hour T o = o ≡ host t l r s hour T
