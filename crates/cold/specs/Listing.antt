-- The promise of a cold list. Assumes nothing.
use Rattle.std.specs.Prelude.{◌≡◌, ℕ, List}
use Rattle.rules.specs.Calls.{Listed, serve_list}
use Rattle.answers.specs.Answers.{Answer, numbers_of}

-- what a call that answered r has left in the table and in the list
abbrev pub listed : Answer → (t list : List ℕ) → Listed
listed r t l = record { answer = numbers_of r; bytes = t; list = l }

-- a cold list answers and leaves in both buffers what `serve_list` says
abbrev pub Promise : (t list : List ℕ) → (s hour threshold : ℕ) → Listed → Type 0
Promise t l s hour T o = o ≡ serve_list t l s hour T
