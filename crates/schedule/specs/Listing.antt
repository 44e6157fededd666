-- The text of a whole run: from the bytes of the input to the bytes of the output. Assumes nothing.
use Rattle.std.specs.Prelude.{true, false, List, ◌++◌, ℕ, zero, suc, eqb, ltb, length, get_or, take, drop}
use Rattle.clock.specs.Map.{when◌then◌else◌}
use Rattle.layout.specs.State.{State, all_zero}
use Rattle.rules.specs.Engine.{ours}
use Rattle.rules.specs.Steps.{Outcome}
use Rattle.rules.specs.Calls.{Open, run}
use Rattle.schedule.specs.Step.{step_bytes, step_of, played}
use Rattle.schedule.specs.Text.{line, end_line, cut_line}

-- "At most 10,922 steps are read; what follows them is ignored"
abbrev pub most_steps : ℕ
most_steps = 10922

-- the first step of the input, on the table S
abbrev pub next_played : State → List ℕ → Outcome
next_played S l = played S (step_of (take step_bytes l))

-- "The last line is `end` and the number of steps, or `cut` and the count of left bytes where input stops inside .. a step"
unfoldable pub last_line : (steps left : ℕ) → List ℕ
last_line i left = when eqb left 0 then end_line i else cut_line left

-- "one line per step", after i of them and with at most m to come
unfoldable pub listed : (m : ℕ) → State → (i : ℕ) → List ℕ → List ℕ
listed zero S i l = end_line i
listed (suc m) S i l =
    elim (ltb (length l) step_bytes) [
      | true ↦ last_line i (length l)
      | false ↦ line (suc i) (next_played S l).answer ++ listed m (next_played S l).after (suc i) (drop step_bytes l)
    ]

-- "Line 0 is open; if it is refused, `end 0` follows"
unfoldable pub after_open : Outcome → List ℕ → List ℕ
after_open o l = line 0 o.answer ++ (when eqb o.answer.code 0 then listed most_steps o.after 0 l else end_line 0)

-- "A schedule is n (1 byte), k (1 byte), then steps"; "A header cut short prints only the `cut` line"
unfoldable pub listing : List ℕ → List ℕ
listing l = when ltb (length l) 2 then cut_line (length l) else after_open (run ours all_zero (Open (get_or l 0 0) (get_or l 1 0))) (drop 2 l)
