-- A text written into a lent buffer. Assumes nothing.
use Rattle.std.specs.Prelude.{◌≡◌, List, ◌++◌, ℕ, ◌+◌, ◌≤◌, length, get_or, take, drop}
use Rattle.schedule.specs.declared.Output.{Output}

-- the text stands from `at` on, `end` is the place behind it, and the rest of the buffer is as it was
pub record Written (before : List ℕ) (at : ℕ) (text : List ℕ) (end : ℕ) (after : List ℕ) : Type 0 where
  pub ends : end ≡ at + length text
  pub fits : end ≤ length before
  pub bytes : after ≡ take at before ++ (text ++ drop end before)

-- r bytes at the start of a buffer: both facts that `&out[..r]` asks
abbrev pub Counts : (r : ℕ) → List ℕ → Type 0
Counts r out = (r ≤ length out) × (r ≡ length (take r out))

-- n zero bytes
abbrev pub Blank : (n : ℕ) → List ℕ → Type 0
Blank n out = (n ≡ length out) × ((i : ℕ) → get_or out i 0 ≡ 0)

-- the output has room for n more bytes
abbrev pub Room : Output → ℕ → Type 0
Room o n = o.written + n ≤ length o.bytes.now

-- the text stands behind what the output had, in the same lent bytes
pub record Adds (old : Output) (text : List ℕ) (new : Output) : Type 0 where
  pub lent : new.bytes.ghost_name ≡ old.bytes.ghost_name
  pub long : length new.bytes.now ≡ length old.bytes.now
  pub text_written : Written old.bytes.now old.written text new.written new.bytes.now
