-- The calls on a table, and on a lent buffer of any length. Assumes nothing.
use Rattle.std.specs.Prelude.{not, List, [], ◌∷◌, ◌++◌, ℕ, eqb, length}
use Rattle.clock.specs.Map.{when◌then◌else◌}
use Rattle.layout.specs.State.{State, table, state_of, bytes_of}
use Rattle.rules.specs.Touch.{cold_list}
use Rattle.rules.specs.Engine.{Engine, ours}
use Rattle.rules.specs.Steps.{Numbers, Outcome, refused, opened, put, get, look, deliver, touch, cold, retire}
use Rattle.rules.specs.Refusals.{Refusals, first, open_refusals, put_refusals, get_refusals, adopt_refusals, deliver_refusals, site_refusals, touch_refusals, retire_refusals, cold_words, touch_words, undelivered, unless}
use Rattle.rules.specs.Drain.{drain}

pub data Call : Type 0 where
  Open : (n k : ℕ) → Call
  Put : (site key value : ℕ) → Call
  Get : (site key : ℕ) → Call
  Deliver : (site origin : ℕ) → Call
  Drain : (site budget : ℕ) → Call
  -- room: the length of the lent list
  Cold : (site now threshold room : ℕ) → Call
  Touch : (site key now toucher tier : ℕ) → Call
  Look : (site key : ℕ) → Call
  -- origin and clock: of the entry, as the caller knows it
  Adopt : (site key origin clock : ℕ) → Call
  Retire : (site : ℕ) → Call

-- what is asked "first of all", of the call's own numbers
abbrev pub words : Call → Refusals
words (Open n k) = []
words (Put s x v) = []
words (Get s x) = []
words (Deliver s o) = []
words (Drain s b) = []
words (Cold s now T m) = cold_words now T m
words (Touch s x now u r) = touch_words now u r
words (Look s x) = []
words (Adopt s x o c) = []
words (Retire s) = []

-- what is asked of the table
abbrev pub inside : State → Call → Refusals
inside S (Open n k) = open_refusals n k
inside S (Put s x v) = put_refusals S s x
inside S (Get s x) = get_refusals S s x
inside S (Deliver s o) = deliver_refusals S s o
inside S (Drain s b) = site_refusals S s
inside S (Cold s now T m) = site_refusals S s
inside S (Touch s x now u r) = touch_refusals S s x u
inside S (Look s x) = get_refusals S s x
inside S (Adopt s x o c) = adopt_refusals S s x o c
inside S (Retire s) = retire_refusals S s

unfoldable pub refusals : State → Call → Refusals
refusals S c = words c ++ inside S c

-- the numbers of a refusal
unfoldable pub beside : State → Call → (code : ℕ) → Numbers
beside S (Open n k) = refused
beside S (Put s x v) = refused
beside S (Get s x) = refused
beside S (Deliver s o) = undelivered S s o
beside S (Drain s b) = refused
beside S (Cold s now T m) = refused
beside S (Touch s x now u r) = refused
beside S (Look s x) = refused
beside S (Adopt s x o c) = refused
beside S (Retire s) = refused

-- the step where no condition holds
unfoldable pub step : Engine → State → Call → Outcome
step E S (Open n k) = record { answer = refused 0; after = opened n k }
step E S (Put s x v) = put E S s x v
step E S (Get s x) = get E S s x
step E S (Deliver s o) = deliver E S s o
step E S (Drain s b) = drain E S s b
step E S (Cold s now T m) = cold S s now T
step E S (Touch s x now u r) = touch E S s x now u r
step E S (Look s x) = look S s x
step E S (Adopt s x o c) = get E S s x
step E S (Retire s) = retire S s

unfoldable pub run : Engine → State → Call → Outcome
run E S c = unless (refusals S c) (beside S c) S (step E S c)

-- 1: the table buffer is not 15,620 bytes
unfoldable pub asks : List ℕ → Call → Refusals
asks t c = words c ++ ((1, not (eqb (length t) table.width)) ∷ inside (state_of t) c)

-- what a call answers, and the bytes it leaves
pub record Served : Type 0 where
  pub answer : Numbers
  pub bytes : List ℕ

-- the step if no condition holds; else the refusal, and the table keeps all bytes
unfoldable pub serve : Engine → List ℕ → Call → Served
serve E t c =
    let r = step E (state_of t) c in
    when eqb (first (asks t c)) 0 then record { answer = r.answer; bytes = bytes_of r.after }
    else record { answer = beside (state_of t) c (first (asks t c)); bytes = t }

-- what a cold list answers, and the bytes it leaves in the table and in the lent list
pub record Listed : Type 0 where
  pub answer : Numbers
  pub bytes : List ℕ
  pub list : List ℕ

-- "The list goes .. to a lent 64-byte buffer"; "A refusal keeps that buffer"
unfoldable pub serve_list : (t list : List ℕ) → (s now threshold : ℕ) → Listed
serve_list t l s now T =
    let w = serve ours t (Cold s now T (length l)) in
    record { answer = w.answer; bytes = w.bytes; list = when eqb w.answer.code 0 then cold_list (state_of t) s now T else l }
