-- Request (d): the engine with short lists agrees with the long one, the steps before request (e), under the same calls from opening, over bytes. Assumes nothing.
use Rattle.std.specs.Prelude.{◌≡◌, List, [], ℕ}
use Rattle.layout.specs.State.{state_of}
use Rattle.rules.specs.Engine.{long, short}
use Rattle.rules.specs.Calls.{Call, Open, serve}
use Rattle.laws.specs.Agreement.{SameTable, SameAnswer}
use Rattle.demands.specs.Demands.{play, FourBytes}

-- after any calls on a table that was opened, played on both, and for any call that comes next; and the calls made one history
abbrev pub Agreement : Type 0
Agreement =
    (t : List ℕ) (n k : ℕ) → (serve long t (Open n k)).answer.code ≡ 0 →
    (cs : List Call) → FourBytes cs →
    let u = (serve long t (Open n k)).bytes in
    let l = play long u [] cs in
    let w = play short u [] cs in
    SameTable (state_of l.0) (state_of w.0) × ((c : Call) → SameAnswer (serve long l.0 c).answer (serve short w.0 c).answer) × (w.1 ≡ l.1)
