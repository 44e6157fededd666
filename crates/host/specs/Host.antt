-- What a call from a C program returns, and what it leaves in the two buffers. Assumes nothing.
use Rattle.std.specs.Prelude.{◌≡◌, true, List, [], ◌∷◌, ◌++◌, ℕ, eqb, length}
use Rattle.clock.specs.Map.{when◌then◌else◌}
use Rattle.rules.specs.Engine.{Engine, ours}
use Rattle.rules.specs.Refusals.{Refusals, first}
use Rattle.rules.specs.Calls.{Call, words, serve}
use Rattle.reply.specs.Reply.{reply_bytes, reply_of}

-- the returned code, and the bytes of the two buffers
pub record Hosted : Type 0 where
  pub code : ℕ
  pub table : List ℕ
  pub reply : List ℕ

abbrev pub left : (code : ℕ) (table reply : List ℕ) → Hosted
left c t r = record { code = c; table = t; reply = r }

-- 1, unless a 14 applies, which comes "first of all"
abbrev pub unsized : Refusals → ℕ
unsized words = first (words ++ ((1, true) ∷ []))

-- "If the reply buffer is not 12 bytes, neither buffer is written and 1 comes back"
unfoldable pub host : Engine → (table reply : List ℕ) → Call → Hosted
host E t r c =
    let w = serve E t c in
    when eqb (length r) reply_bytes then left w.answer.code w.bytes (reply_of w.answer) else left (unsized (words c)) t r

-- the promise of every call from a C program: it returns and leaves in both buffers what `host` says
abbrev pub Promise : (table reply : List ℕ) → Call → Hosted → Type 0
Promise t r c o = o ≡ host ours t r c

-- with the engine that is given
abbrev pub PromiseBy : Engine → (table reply : List ℕ) → Call → Hosted → Type 0
PromiseBy E t r c o = o ≡ host E t r c

-- "a budget above 65,535 counts as 65,535"
abbrev pub most_tries : ℕ
most_tries = 65535
