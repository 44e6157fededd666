use Rattle.std.proofs.Common.{◌≡◌, ℕ, ◌+◌, ◌*◌, ◌≤◌, ◌<◌, length, get_or}
use Rattle.layout.specs.State.{square, table, applied_at}
use Rattle.layout.proofs.clear.Given as goal

abbrev pub invariant-loop-i : goal.invariant-loop-i
invariant-loop-i l = (length l.t ≡ table.width) × ((j : ℕ) → 1 ≤ l.i → j < l.i * square.width + applied_at → get_or l.t j 0 ≡ 0)
