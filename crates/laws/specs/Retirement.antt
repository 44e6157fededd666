-- What is proved of retirement, a sentence of request (g) each. Assumes nothing.
use Rattle.std.specs.Prelude.{◌≡◌, List, ◌≢◌, ◌↔◌, ℕ, ◌+◌, ◌^◌, ◌<◌, eqb, get_or}
use Rattle.clock.specs.Map.{when◌then◌else◌}
use Rattle.layout.specs.State.{State}
use Rattle.layout.specs.Ranges.{Bytes}
use Rattle.rules.specs.Live.{Live, retiring}
use Rattle.rules.specs.Sound.{place, Retained}
use Rattle.rules.specs.Engine.{Engine}
use Rattle.rules.specs.Steps.{refused}
use Rattle.rules.specs.Calls.{Call, Open, Retire, run, serve}

-- "Retirement answers zeros": the site is live no longer, every other is as it was, and no other number changes
pub record Retired (S : State) (s : ℕ) (T : State) : Type 0 where
  pub live : (t : ℕ) → Live T t ↔ (Live S t × (t ≢ s))
  pub others : T ≡ retiring S s

abbrev pub RetireRetires : Type 0
RetireRetires =
    (E : Engine) (S : State) (s : ℕ) → let r = run E S (Retire s) in r.answer.code ≡ 0 → (r.answer ≡ refused 0) × Retired S s r.after

-- in bytes: the site's bit is set in byte 2, and every other byte is as it was
abbrev pub RetireBytes : Type 0
RetireBytes =
    (E : Engine) (t : List ℕ) → Bytes t → (s : ℕ) → let r = serve E t (Retire s) in r.answer.code ≡ 0
    → (i : ℕ) → get_or r.bytes i 0 ≡ (when eqb i 2 then get_or t 2 0 + 2 ^ s else get_or t i 0)

-- only opening and retiring change who is retired
abbrev pub RetiredKept : Type 0
RetiredKept = (E : Engine) (S : State) (c : Call) → ((n k : ℕ) → c ≢ Open n k) → ((s : ℕ) → c ≢ Retire s) → (run E S c).after.retired ≡ S.retired

-- "A retired site's own undelivered puts stay for the others": whatever the call, what was retained and some live site still lacks is retained, in its place
abbrev pub NothingLost : Type 0
NothingLost =
    (E : Engine) (S : State) (c : Call) → ((n k : ℕ) → c ≢ Open n k) → let T = (run E S c).after in
    (o i t : ℕ) → Retained S o i → Live T t → T.applied t o < i → Retained T o i × (T.updates o (place i) ≡ S.updates o (place i))
