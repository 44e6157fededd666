-- The document's numbers for each case of an answer, and the promise of a call. Assumes nothing.
use Rattle.std.specs.Prelude.{◌≡◌, List, ℕ, Result, Ok, Err}
use Rattle.rules.specs.Engine.{Engine, ranked, short, ours}
use Rattle.rules.specs.Steps.{Numbers, refused, done}
use Rattle.rules.specs.Calls as rules
use Rattle.rules.specs.Calls.{Served, serve}
use Rattle.answers.specs.declared.Refusal.{Refusal}
use Rattle.answers.specs.declared.Refusal.TheVariants.{Size, Unsound, Counts, Site, Same, Key, Spent, Full, NoNext, Unused, NoRecord, OutOfRange, Changed, Retired, LastLive}
use Rattle.answers.specs.declared.Engine as declared
use Rattle.answers.specs.declared.Engine.TheVariants.{Ranked, Short}
use Rattle.answers.specs.declared.Unserved.{Unserved}
use Rattle.answers.specs.declared.Unserved.TheVariants.{Refused, Missing, Stopped}
use Rattle.answers.specs.declared.Done.{Done}
use Rattle.answers.specs.declared.Done.TheVariants.{Call, Drain}

abbrev pub code_of : Refusal → ℕ
code_of Size = 1
code_of Unsound = 2
code_of Counts = 3
code_of Site = 4
code_of Same = 5
code_of Key = 6
code_of Spent = 7
code_of Full = 8
code_of NoNext = 9
code_of Unused = 12
code_of NoRecord = 13
code_of OutOfRange = 14
code_of Changed = 15
code_of Retired = 16
code_of LastLive = 17

-- what was found by asking conditions: the code of the first that holds, and 0 where none does
abbrev pub asked : {A : Type 0} → Result A Refusal → ℕ
asked (Ok a) = 0
asked (Err r) = code_of r

-- the engine that a value chooses
abbrev pub engine_of : declared.Engine → Engine
engine_of Ranked = ranked
engine_of Short = short

-- ours is the ranked one, and the other is that with short lists
abbrev pub Chosen : Type 0
Chosen = (engine_of Ranked ≡ ours) × (engine_of Short ≡ short)

abbrev pub Answer : Type 0
Answer = Result Done Unserved

abbrev pub numbers_of : Answer → Numbers
numbers_of (Ok (Call x s c v)) = done x s c v
numbers_of (Ok (Drain d t)) = record { code = 0; key = 0; site = 0; clock = d; value = t }
numbers_of (Err (Missing j c b)) = record { code = 10; key = 0; site = j; clock = c; value = b }
numbers_of (Err (Stopped d t)) = record { code = 11; key = 0; site = 0; clock = d; value = t }
numbers_of (Err (Refused r)) = refused (code_of r)

-- what a call that answered r has served, with the bytes t at its exit
abbrev pub served : Answer → List ℕ → Served
served r t = record { answer = numbers_of r; bytes = t }

-- the promise of every call: on the bytes t it answers and leaves what `serve` says, with our engine or with the one that is given
abbrev pub Promise : List ℕ → rules.Call → Served → Type 0
Promise t c w = w ≡ serve ours t c

abbrev pub PromiseBy : Engine → List ℕ → rules.Call → Served → Type 0
PromiseBy e t c w = w ≡ serve e t c
