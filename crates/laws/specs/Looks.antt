-- What is proved of look, adopt and the cold list over bytes, a sentence of request (c) each. Assumes nothing.
use Rattle.std.specs.Prelude.{◌≡◌, List, ℕ}
use Rattle.layout.specs.State.{state_of}
use Rattle.layout.specs.Ranges.{Bytes}
use Rattle.rules.specs.Engine.{Engine}
use Rattle.rules.specs.Steps.{done}
use Rattle.rules.specs.Refusals.{first}
use Rattle.rules.specs.Calls.{Get, Look, Adopt, asks, serve, serve_list}

-- "look, which answers as get and changes nothing", for every buffer
abbrev pub LookKeeps : Type 0
LookKeeps = (E : Engine) (t : List ℕ) → Bytes t → (s x : ℕ) → ((serve E t (Look s x)).answer ≡ (serve E t (Get s x)).answer) × ((serve E t (Look s x)).bytes ≡ t)

-- "Get .. equals look followed at once by adopt" of what look answered: the whole answer and all bytes, refusals included
abbrev pub GetIsBoth : Type 0
GetIsBoth = (E : Engine) (t : List ℕ) → Bytes t → (s x : ℕ) → let l = serve E t (Look s x) in serve E l.bytes (Adopt s x l.answer.site l.answer.clock) ≡ serve E t (Get s x)

-- an accepted adopt, whatever was named, is the get
abbrev pub AdoptIsGet : Type 0
AdoptIsGet = (E : Engine) (t : List ℕ) (s x o c : ℕ) → (serve E t (Adopt s x o c)).answer.code ≡ 0 → serve E t (Adopt s x o c) ≡ serve E t (Get s x)

-- and answers the origin and the clock that were named
abbrev pub AdoptAnswers : Type 0
AdoptAnswers =
    (E : Engine) (t : List ℕ) (s x o c : ℕ) → let r = serve E t (Adopt s x o c) in r.answer.code ≡ 0 → r.answer ≡ done x o c ((state_of t).store s x).value

-- "Adopting (0, 0) of a never-written key changes nothing": it is accepted where a look is
abbrev pub AdoptNever : Type 0
AdoptNever =
    (E : Engine) (t : List ℕ) → Bytes t → (s x : ℕ) → first (asks t (Look s x)) ≡ 0 → ((state_of t).store s x).clock ≡ 0
    → ((serve E t (Adopt s x 0 0)).answer ≡ done x 0 0 0) × ((serve E t (Adopt s x 0 0)).bytes ≡ t)

-- "The cold list uses look": it changes no byte of the table, for any input
abbrev pub ColdKeeps : Type 0
ColdKeeps = (t : List ℕ) → Bytes t → (list : List ℕ) (s now T : ℕ) → (serve_list t list s now T).bytes ≡ t
