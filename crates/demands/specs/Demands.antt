-- The three demands, over bytes. A public call's promise: its answer and the bytes it leaves are those of `serve` (crates/rules/specs/Calls). Assumes nothing.
use Rattle.std.specs.Prelude.{◌≡◌, List, [], ◌∷◌, ◌↔◌, ◌≢◌, ℕ, suc, ◌^◌, ◌<◌, length}
use Rattle.clock.specs.Lists.{◌∈◌}
use Rattle.layout.specs.State.{table, state_of}
use Rattle.layout.specs.Ranges.{Bytes}
use Rattle.rules.specs.Engine.{Engine, ours}
use Rattle.rules.specs.Sound.{Sound}
use Rattle.rules.specs.Steps.{refused}
use Rattle.rules.specs.Calls.{Call, Open, Put, Deliver, Drain, asks, Served, serve}
use Rattle.laws.specs.Theorems.{Given, Clear, Enough, Spent}
use Rattle.causal.specs.World.{World}
use Rattle.causal.specs.History.{History}
use Rattle.causal.specs.Refines.{Abstracts, Follows, after_call, Causal}

-- deliveries to site s, one after another and each of them accepted, lead from the bytes t to others: so many
pub data Delivered (E : Engine) (s : ℕ) (t : List ℕ) : ℕ → List ℕ → Type 0 where
  none : Delivered E s t 0 t
  next : {m : ℕ} {u : List ℕ} → Delivered E s t m u → (o : ℕ) → (serve E u (Deliver s o)).answer.code ≡ 0
      → Delivered E s t (suc m) (serve E u (Deliver s o)).bytes

-- a call on a buffer, under the conditions in their order: 14, then the size of the buffer, then the table's
pub record Answered (E : Engine) (t : List ℕ) (c : Call) (r : Served) : Type 0 where
  -- a code but 0 and 11 is answered exactly when its condition holds and none asked before it does
  pub given : (e : ℕ) → e ≢ 0 → e ≢ 11 → (r.answer.code ≡ e) ↔ Given (asks t c) e
  -- 0 and 11 exactly when no condition holds, by whether a drain's budget is enough
  pub accepted : (r.answer.code ≡ 0) ↔ (Clear (asks t c) × Enough E (state_of t) c)
  pub spent : (r.answer.code ≡ 11) ↔ (Clear (asks t c) × Spent E (state_of t) c)
  -- every refusal but 11 leaves the bytes, and but 10 and 11 answers zeros beside its code
  pub keeps : r.answer.code ≢ 0 → r.answer.code ≢ 11 → r.bytes ≡ t
  pub zeros : (e : ℕ) → e ≢ 0 → e ≢ 10 → e ≢ 11 → r.answer.code ≡ e → r.answer ≡ refused e
  -- under 11 too, what a drain delivered stays and nothing else changed: as many deliveries as it answers lead to its bytes
  pub delivered : (s b : ℕ) → c ≡ Drain s b → Delivered E s t r.answer.clock r.bytes
  -- and every call leaves as many bytes
  pub whole : (length r.bytes ≡ length t) × Bytes r.bytes

-- for every buffer
abbrev pub Demand1 : Engine → Type 0
Demand1 E = (t : List ℕ) → Bytes t → (c : Call) → Answered E t c (serve E t c)

-- so a drain that answers no delivery, 11 or not, has left the bytes
abbrev pub NothingDelivered : Type 0
NothingDelivered = (E : Engine) (t : List ℕ) (s b : ℕ) (r : Served) → Answered E t (Drain s b) r → r.answer.clock ≡ 0 → r.bytes ≡ t

-- from every sound table: some world abstracts it, and for each that does its calls are figure 7's steps
abbrev pub Demand2 : Type 1
Demand2 =
    (t : List ℕ) → Bytes t → length t ≡ table.width → Sound (state_of t) →
    ((W : World) × Abstracts (state_of t) W)
    × ((W : World) → Abstracts (state_of t) W
    → Follows (state_of t) W (λ c. let r = serve ours t c in record { answer = r.answer; after = state_of r.bytes }))

-- a buffer and its history after some calls, the oldest first
abbrev pub play : Engine → List ℕ → History → List Call → List ℕ × History
play E t h [] = (t, h)
play E t h (c ∷ cs) = let r = serve E t c in play E r.bytes (after_call E (state_of t) c r.answer h) cs

-- a value is 4 bytes
abbrev pub FourBytes : List Call → Type 0
FourBytes cs = (s x v : ℕ) → Put s x v ∈ cs → v < 256 ^ 4

-- from a freshly opened table, after any calls with any numbers
abbrev pub Demand3 : Type 1
Demand3 =
    (t : List ℕ) (n k : ℕ) → (serve ours t (Open n k)).answer.code ≡ 0 → (cs : List Call) → FourBytes cs →
    let p = play ours (serve ours t (Open n k)).bytes [] cs in
    Causal (state_of p.0) (λ c. (serve ours p.0 c).answer) p.1
