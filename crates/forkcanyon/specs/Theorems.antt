-- What is proved of the host edge (crates/forkcanyon/proofs/Sizes): code 1, of which only a host sees both buffers. Assumes nothing.
use Rattle.std.specs.Prelude.{◌≡◌, List, ◌≢◌, ◌⊎◌, ◌↔◌, ℕ, length}
use Rattle.layout.specs.State.{table, state_of}
use Rattle.rules.specs.Touch.{cold_list}
use Rattle.rules.specs.Steps.{refused}
use Rattle.rules.specs.Refusals.{first}
use Rattle.rules.specs.Engine.{Engine, ours}
use Rattle.rules.specs.Calls.{Call, Cold, words}
use Rattle.reply.specs.Reply.{reply_bytes, reply_of}
use Rattle.host.specs.Host.{Hosted, left, unsized, host}
use Rattle.both.specs.ColdHost as cold

-- "If the reply buffer is not 12 bytes, neither buffer is written and 1 comes back", or 14 where it applies
abbrev pub WrongReply : Type 0
WrongReply = (E : Engine) (t r : List ℕ) (c : Call) (o : Hosted) → length r ≢ reply_bytes → o ≡ host E t r c → o ≡ left (unsized (words c)) t r

-- the table buffer is not 15,620 bytes: it keeps its bytes, and the reply says 1 and zeros, or 14 and zeros
abbrev pub WrongTable : Type 0
WrongTable =
    (E : Engine) (t r : List ℕ) (c : Call) (o : Hosted) → length r ≡ reply_bytes → length t ≢ table.width → o ≡ host E t r c
    → o ≡ left (unsized (words c)) t (reply_of (refused (unsized (words c))))

-- "1 .. the table buffer is not 15,620 bytes, or the reply buffer not 12": exactly then, where no 14 applies
abbrev pub SizeExactly : Type 0
SizeExactly =
    (E : Engine) (t r : List ℕ) (c : Call) (o : Hosted) → o ≡ host E t r c
    → (o.code ≡ 1) ↔ ((first (words c) ≡ 0) × ((length r ≢ reply_bytes) ⊎ (length t ≢ table.width)))

-- a cold list returns, and leaves in the table and the reply, what `host` says of its call
abbrev pub ColdHosts : Type 0
ColdHosts = (t l r : List ℕ) (s hour T : ℕ) → let o = cold.host t l r s hour T in left o.code o.table o.reply ≡ host ours t r (Cold s hour T (length l))

-- the lent list is the cold keys where the call is accepted, and keeps every byte where it is refused
abbrev pub ListWritten : Type 0
ListWritten =
    (t l r : List ℕ) (s hour T : ℕ) → let o = cold.host t l r s hour T in
    (o.code ≡ 0 → o.list ≡ cold_list (state_of t) s hour T) × (o.code ≢ 0 → o.list ≡ l)
