-- The demands at their edges: each field uses a field of a demand, an order or an anomaly, so that one that is lost or says less is an error. Assumes nothing.
use Rattle.std.specs.Prelude.{◌≡◌, Bool, true, false, List, [], ◌∷◌, map, ◌⊎◌, ◌≢◌, ◌↔◌, ℕ, suc, ◌+◌, ◌^◌, ◌≤◌, ◌<◌, length, get_or}
use Rattle.clock.specs.Map.{bit}
use Rattle.clock.specs.Lists.{◌∈◌}
use Rattle.clock.specs.Vector.{rank}
use Rattle.layout.specs.State.{State, table, state_of, last_clock}
use Rattle.layout.specs.Ranges.{Bytes}
use Rattle.rules.specs.Engine.{long, short, ours}
use Rattle.rules.specs.Live.{Live, retiring}
use Rattle.rules.specs.Sound.{place, Retained, Sound}
use Rattle.rules.specs.Steps.{Numbers, refused, done, seen}
use Rattle.rules.specs.Calls.{Call, Open, Put, Get, Look, Adopt, Retire, Deliver, Drain, Touch, Cold, asks, run, serve, serve_list}
use Rattle.rules.specs.Refusals.{first}
use Rattle.laws.specs.Theorems.{Clear, needed}
use Rattle.causal.specs.World.{Rank, Answer, never, wrote, World, nth, due, waiting, with_put, with_get, with_update, Replaces, Behind, CausesApplied, put, get, look, adopt, update, retire, Run}
use Rattle.causal.specs.History.{History, Ranks, Cause, Ranking, Ordered, Lacks}
use Rattle.causal.specs.Refines.{Abstracts, numbers, after_call}
use Rattle.causal.specs.Anomalies.{NoOrder, forged, twice, second_first, effect_alone, effect_first, far_effect_first, forgotten, blind, early, prophecy, early_look, blind_look, adopted_alone, adopted_unseen, looked_at, two_winners, one_winner, newest_wins, overwriting_first}
use Rattle.demands.specs.Demands.{play, FourBytes}

-- demand 1: any buffer
pub record OfBuffer (t : List ℕ) : Type 0 where
  -- a call is accepted where no condition holds, and only there
  pub accepts : (s x : ℕ) → Clear (asks t (Get s x)) → (serve ours t (Get s x)).answer.code ≡ 0
  pub only : (s x : ℕ) → (serve ours t (Get s x)).answer.code ≡ 0 → Clear (asks t (Get s x))
  -- a drain without a budget answers 11 where a try is due
  pub spent : (s : ℕ) → (serve ours t (Drain s 0)).answer.code ≡ 11 → 0 < needed ours (state_of t) s
  -- "the other numbers are 0", and "the table keeps all bytes"
  pub zeros : (s x : ℕ) → (serve ours t (Get s x)).answer.code ≡ 6 → (serve ours t (Get s x)).answer ≡ refused 6
  pub keeps : (s o : ℕ) → (serve ours t (Deliver s o)).answer.code ≡ 10 → (serve ours t (Deliver s o)).bytes ≡ t
  -- a drain that made one delivery left what that delivery leaves
  pub delivered : (s b : ℕ) → (serve ours t (Drain s b)).answer.clock ≡ 1
      → (o : ℕ) × ((serve ours t (Deliver s o)).answer.code ≡ 0) × ((serve ours t (Drain s b)).bytes ≡ (serve ours t (Deliver s o)).bytes)
  -- whatever a get answers, a look does, and leaves the table, as a list does; the adopt of that answer is the get, a refused one too
  pub look_answers : (s x : ℕ) (a : Numbers) → (serve ours t (Get s x)).answer ≡ a → serve ours t (Look s x) ≡ record { answer = a; bytes = t }
  pub list_keeps : (l : List ℕ) (s now T : ℕ) → (serve_list t l s now T).bytes ≡ t
  pub get_both : (s x : ℕ) (a : Numbers) → serve ours t (Look s x) ≡ record { answer = a; bytes = t } → serve ours t (Adopt s x a.site a.clock) ≡ serve ours t (Get s x)
  -- an adopt answers what was named, and is the get; (0, 0) is accepted and changes nothing
  pub adopts_named : (s x : ℕ) → let a = (serve ours t (Adopt s x 0 1)).answer in a.code ≡ 0 → a ≡ done x 0 1 ((state_of t).store s x).value
  pub adopts_all : (s x : ℕ) → (serve ours t (Adopt s x 7 last_clock)).answer.code ≡ 0 → serve ours t (Adopt s x 7 last_clock) ≡ serve ours t (Get s x)
  pub none_adopted : (s x : ℕ) → first (asks t (Look s x)) ≡ 0 → ((state_of t).store s x).clock ≡ 0 → serve ours t (Adopt s x 0 0) ≡ record { answer = done x 0 0 0; bytes = t }
  -- a retirement that is accepted sets its site's bit in byte 2, and leaves the header's other bytes and the rest
  pub retires : (s : ℕ) → let r = serve ours t (Retire s) in r.answer.code ≡ 0
      → (get_or r.bytes 2 0 ≡ get_or t 2 0 + 2 ^ s) × (get_or r.bytes 0 0 ≡ get_or t 0 0) × (get_or r.bytes 1 0 ≡ get_or t 1 0)
      × ((i : ℕ) → 3 ≤ i → get_or r.bytes i 0 ≡ get_or t i 0)
  -- whatever the lists, it answers zeros and leaves every number but who is retired
  pub retires_short : (s : ℕ) → let S = state_of t in let r = run short S (Retire s) in r.answer.code ≡ 0 → (r.answer ≡ refused 0) × (r.after ≡ retiring S s)
  -- a drain and a touch retire nobody
  pub nobody : (s b x now u w : ℕ) → let S = state_of t in ((run ours S (Drain s b)).after.retired ≡ S.retired) × ((run ours S (Touch s x now u w)).after.retired ≡ S.retired)
  -- a put leaves the place of what some live site lacks
  pub keeps_place : (s x v o i t' : ℕ) → let S = state_of t in Retained S o i → Live (run ours S (Put s x v)).after t' → (run ours S (Put s x v)).after.applied t' o < i
      → (run ours S (Put s x v)).after.updates o (place i) ≡ S.updates o (place i)
  -- and what its site had put and another live site lacks stands as it did
  pub loses_nothing : (s t' i : ℕ) → t' ≢ s → let S = state_of t in let r = run ours S (Retire s) in r.answer.code ≡ 0 → Live S t' → S.applied t' s < i → i ≤ S.applied s s
      → Retained r.after s i × (r.after.updates s (place i) ≡ S.updates s (place i))
  -- the buffer stays as long
  pub whole : (c : Call) → (length (serve ours t c).bytes ≡ length t) × Bytes (serve ours t c).bytes

-- sound, and the same sites live as before
abbrev pub Left : State → State → Type 0
Left S T = Sound T × ((t : ℕ) → Live T t ↔ Live S t)

-- demand 2: a sound table and its world
pub record OfTable (t : List ℕ) (W : World) : Type 1 where
  -- put, get, look and deliver answer as figure 7's labels say, and leave figure 7's worlds
  pub puts : (s x v : ℕ) → v < 256 ^ 4 → Live (state_of t) s → x < (state_of t).k → (state_of t).applied s s < last_clock
      → ((s' : ℕ) → Live (state_of t) s' → (state_of t).applied s s < (state_of t).applied s' s + 16)
      → let r = serve ours t (Put s x v) in
      (r.answer ≡ numbers (put s x v (suc (length (W.updates s))))) × Abstracts (state_of r.bytes) (with_put W s x v) × Left (state_of t) (state_of r.bytes)
  pub gets : (s x : ℕ) → Live (state_of t) s → x < (state_of t).k → let r = serve ours t (Get s x) in
      (r.answer ≡ numbers (get s x (W.store s x).answer)) × Abstracts (state_of r.bytes) (with_get W s x) × Left (state_of t) (state_of r.bytes)
  pub looks : (s x : ℕ) → Live (state_of t) s → x < (state_of t).k → let r = serve ours t (Look s x) in
      (r.answer ≡ numbers (look s x (W.store s x).answer)) × Abstracts (state_of r.bytes) W × Left (state_of t) (state_of r.bytes)
  -- an adopt of the entry's put, or of (0, 0) where it has none, takes on what a get does; of any other put it leaves the table
  pub adopts : (s x v o c : ℕ) → Live (state_of t) s → x < (state_of t).k → (W.store s x).answer ≡ wrote v o c → let r = serve ours t (Adopt s x o c) in
      (r.answer ≡ numbers (adopt s x (wrote v o c))) × Abstracts (state_of r.bytes) (with_get W s x) × Left (state_of t) (state_of r.bytes)
  pub adopts_none : (s x : ℕ) → Live (state_of t) s → x < (state_of t).k → (W.store s x).answer ≡ never → let r = serve ours t (Adopt s x 0 0) in
      (r.answer ≡ numbers (adopt s x never)) × Abstracts (state_of r.bytes) (with_get W s x) × Left (state_of t) (state_of r.bytes)
  pub changed : (s x v o c o' c' : ℕ) → (W.store s x).answer ≡ wrote v o c → (o ≡ o' → c ≡ c' → ⊥) → let r = serve ours t (Adopt s x o' c') in
      (r.answer.code ≢ 0) × (state_of r.bytes ≡ state_of t)
  pub changed_none : (s x o c : ℕ) → (W.store s x).answer ≡ never → (o ≡ 0 → c ≡ 0 → ⊥) → let r = serve ours t (Adopt s x o c) in
      (r.answer.code ≢ 0) × (state_of r.bytes ≡ state_of t)
  pub delivers : (s o : ℕ) → Live (state_of t) s → o < (state_of t).n → s ≢ o → Behind W s o → CausesApplied W s o → let r = serve ours t (Deliver s o) in
      (r.answer ≡ numbers (update s o (due W s o) (waiting W s o).key (waiting W s o).value))
      × ((b : Bool) × Abstracts (state_of r.bytes) (with_update W s o b)
      × (let u = waiting W s o in let e = W.store s u.key in (b ≡ true) ↔ Replaces o u.depends e.answer e.depends)) × Left (state_of t) (state_of r.bytes)
  -- a put past the last clock is refused, and a refusal leaves the table
  pub last : (s x v : ℕ) → v < 256 ^ 4 → (state_of t).applied s s ≡ last_clock → let r = serve ours t (Put s x v) in (r.answer.code ≢ 0) × (state_of r.bytes ≡ state_of t)
  -- 9: nothing is under way; 10: a cause is missing, of the lowest site and there the greatest
  pub nine : (s o : ℕ) → Live (state_of t) s → o < (state_of t).n → s ≢ o → (Behind W s o → ⊥) → (serve ours t (Deliver s o)).answer.code ≡ 9
  pub ten : (s o : ℕ) → Live (state_of t) s → o < (state_of t).n → s ≢ o → Behind W s o → (CausesApplied W s o → ⊥) → let a = (serve ours t (Deliver s o)).answer in
      (W.applied s a.site < a.clock) × (waiting W s o).depends a.site a.clock
      × ((o' c' : ℕ) → (waiting W s o).depends o' c' → W.applied s o' < c' → a.site ≤ o')
      × ((c' : ℕ) → (waiting W s o).depends a.site c' → c' ≤ a.clock)
  -- and the value has the bit of every site of which a cause is missing, and no other bit
  pub waits : (s o : ℕ) → let a = (serve ours t (Deliver s o)).answer in a.code ≡ 10
      → ((m c : ℕ) → (waiting W s o).depends m c → W.applied s m < c → bit a.value m ≡ true)
      × ((m : ℕ) → ((c : ℕ) → (waiting W s o).depends m c → c ≤ W.applied s m) → bit a.value m ≡ false)
      × (a.value < 256)
  -- a retirement leaves the world and every other site live, and the last live site is not retired
  pub retires : (s s' : ℕ) → Live (state_of t) s → Live (state_of t) s' → s' ≢ s → let r = serve ours t (Retire s) in
      (r.answer ≡ refused 0) × Abstracts (state_of r.bytes) W × Sound (state_of r.bytes) × (Live (state_of r.bytes) s → ⊥) × Live (state_of r.bytes) s'
  pub last_one : (s : ℕ) → ((s' : ℕ) → Live (state_of t) s' → s' ≡ s) → (serve ours t (Retire s)).answer.code ≢ 0

-- demand 3: a table after any calls, and their history
pub record OfHistory (t : List ℕ) (h : History) : Type 1 where
  -- a site's get after its own put answers that put
  pub own_put : (g : History) (s x v c : ℕ) (a : Answer) → h ≡ get s x a ∷ put s x v c ∷ g → a ≡ wrote v s c
  -- and so does its look
  pub own_look : (g : History) (s x v c : ℕ) (a : Answer) → h ≡ look s x a ∷ put s x v c ∷ g → a ≡ wrote v s c
  -- and after it was handed a put answers that, or one of a higher rank, or of the same rank and a higher origin
  pub handed_put : (g : History) (s o x v c : ℕ) (a : Answer) → s < (state_of t).n → h ≡ get s x a ∷ update s o c x v ∷ g → (r : Ranks) → Ranking r h
      → (v' o' c' : ℕ) × (a ≡ wrote v' o' c') × ((r o c < r o' c') ⊎ ((r o c ≡ r o' c') × (o ≤ o')))
  pub handed_look : (g : History) (s o x v c : ℕ) (a : Answer) → s < (state_of t).n → h ≡ look s x a ∷ update s o c x v ∷ g → (r : Ranks) → Ranking r h
      → (v' o' c' : ℕ) × (a ≡ wrote v' o' c') × ((r o c < r o' c') ⊎ ((r o c ≡ r o' c') × (o ≤ o')))
  -- the rank of a put, as its causes have it, is the sum of its vector's columns: where it stands as an entry, and where some live site lacks it
  pub entry_rank : (s x v : ℕ) → s < (state_of t).n → x < (state_of t).k → let e = (state_of t).store s x in
      e.clock ≢ 0 → put e.origin x v e.clock ∈ h → (r : Ranks) → Ranking r h → r e.origin e.clock ≡ rank e.depends
  pub update_rank : (o x v c : ℕ) → put o x v c ∈ h → Retained (state_of t) o c → (r : Ranks) → Ranking r h → r o c ≡ rank ((state_of t).updates o (place c)).depends
  -- what a site was handed was put before, is not handed again, and its causes stand before it
  pub made : (g : History) (s o c x v : ℕ) → s < (state_of t).n → h ≡ update s o c x v ∷ g → put o x v c ∈ g
  pub once : (g : History) (s o c x v x' v' : ℕ) → s < (state_of t).n → h ≡ update s o c x v ∷ g → update s o c x' v' ∈ g → ⊥
  pub caused : (g : History) (s o c x v o' c' : ℕ) → s < (state_of t).n → s ≢ o' → h ≡ update s o c x v ∷ g
      → (r : Ranks) × Ranking r h × (Cause r h o' c' o c → (x' : ℕ) × (v' : ℕ) × update s o' c' x' v' ∈ g)
  -- what its maker adopted before it, from then on, is among them
  pub adopted : (g : History) (s o c x v y w o' c' : ℕ) → s < (state_of t).n → s ≢ o' → h ≡ update s o c x v ∷ put o x v c ∷ g → adopt o y (wrote w o' c') ∈ g
      → (x' : ℕ) × (v' : ℕ) × update s o' c' x' v' ∈ g
  -- what it adopts right after its own put is that put
  pub adopts_own : (g : History) (s x v c : ℕ) (a : Answer) → h ≡ adopt s x a ∷ put s x v c ∷ g → a ≡ wrote v s c
  -- the history says who is live, so a site that was just retired is not, and every other and each of a history without retirements is
  pub retired : (g : History) (s : ℕ) → h ≡ retire s ∷ g → Live (state_of t) s → ⊥
  pub alive : (s o x v c : ℕ) → s < (state_of t).n → h ≡ put o x v c ∷ [] → Live (state_of t) s
  pub others : (s o x v c : ℕ) → s < (state_of t).n → s ≢ o → h ≡ retire o ∷ put o x v c ∷ [] → Live (state_of t) s
  -- with two that were retired too
  pub third : (s o o' x v c : ℕ) → s < (state_of t).n → s ≢ o → s ≢ o' → h ≡ retire o ∷ retire o' ∷ put o x v c ∷ [] → Live (state_of t) s
  -- a retired site makes no put after it, is handed none, reads nothing, and is not retired again
  pub quiet : (g : History) (s x v c : ℕ) → h ≡ put s x v c ∷ retire s ∷ g → ⊥
  pub handed_none : (g : History) (s o x v c : ℕ) → h ≡ update s o c x v ∷ retire s ∷ g → ⊥
  pub reads_none : (g : History) (s x : ℕ) (a : Answer) → h ≡ get s x a ∷ retire s ∷ g → ⊥
  pub once_only : (g : History) (s : ℕ) → h ≡ retire s ∷ retire s ∷ g → ⊥
  -- the table counts each put
  pub counted : (o x v c : ℕ) → put o x v c ∈ h → c ≤ (state_of t).applied o o
  -- after one put, a delivery to each other site is accepted, and after a drain there that answers 0 it has the put
  pub live : (s o x v c : ℕ) → Live (state_of t) s → s ≢ o → h ≡ put o x v c ∷ [] → (o' : ℕ) × ((serve ours t (Deliver s o')).answer.code ≡ 0)
  pub drains : (s o b x v c : ℕ) → s ≢ o → h ≡ put o x v c ∷ [] → let a = (serve ours t (Drain s b)).answer in a.code ≡ 0
      → Lacks (after_call ours (state_of t) (Drain s b) a h) s o c → ⊥
  -- also where its maker was retired after it, and another site
  pub live_third : (s o o' x v c : ℕ) → s < (state_of t).n → s ≢ o → s ≢ o' → h ≡ retire o ∷ retire o' ∷ put o x v c ∷ [] → (q : ℕ) × ((serve ours t (Deliver s q)).answer.code ≡ 0)
  pub live_still : (s o x v c : ℕ) → s < (state_of t).n → s ≢ o → h ≡ retire o ∷ put o x v c ∷ [] → (o' : ℕ) × ((serve ours t (Deliver s o')).answer.code ≡ 0)
  pub drains_still : (s o b x v c : ℕ) → s ≢ o → h ≡ retire o ∷ put o x v c ∷ [] → let a = (serve ours t (Drain s b)).answer in a.code ≡ 0
      → Lacks (after_call ours (state_of t) (Drain s b) a h) s o c → ⊥

-- long and short lists after the same calls: the bytes l and w
pub record OfBoth (l w : List ℕ) : Type 0 where
  -- every call gives the same code, a put the same clock
  pub codes : (c : Call) → (serve short w c).answer.code ≡ (serve long l c).answer.code
  pub puts : (s x v : ℕ) → (serve long l (Put s x v)).answer.code ≡ 0 → (serve short w (Put s x v)).answer.clock ≡ (serve long l (Put s x v)).answer.clock
  -- a get answers the same where either is accepted, an adopt of another put is refused alike
  pub gets : (s x : ℕ) → (serve short w (Get s x)).answer.code ≡ 0 → (serve short w (Get s x)).answer ≡ (serve long l (Get s x)).answer
  pub changed : (s x o c : ℕ) → (serve long l (Adopt s x o c)).answer.code ≡ 15 → (serve short w (Adopt s x o c)).answer ≡ (serve long l (Adopt s x o c)).answer
  -- a delivery waits at both, or at neither, and answers the same key then
  pub waits : (s o : ℕ) → ((serve long l (Deliver s o)).answer.code ≡ 10) ↔ ((serve short w (Deliver s o)).answer.code ≡ 10)
  pub ten_key : (s o : ℕ) → (serve long l (Deliver s o)).answer.code ≡ 10 → (serve short w (Deliver s o)).answer.key ≡ (serve long l (Deliver s o)).answer.key
  -- a drain makes as many deliveries with as many tries
  pub drains : (s b : ℕ) → (serve long l (Drain s b)).answer.code ≡ 11 → (serve short w (Drain s b)).answer ≡ (serve long l (Drain s b)).answer
  -- a retirement is accepted at both or at neither, and the same sites are live
  pub retires : (s : ℕ) → (serve long l (Retire s)).answer.code ≡ 0 → (serve short w (Retire s)).answer ≡ (serve long l (Retire s)).answer
  pub live : (s : ℕ) → Live (state_of w) s ↔ Live (state_of l) s
  -- the counts, and the value, origin and clock of an entry
  pub counts : (s o : ℕ) → ((state_of w).applied s o ≡ (state_of l).applied s o) × ((state_of w).n ≡ (state_of l).n) × ((state_of w).k ≡ (state_of l).k)
  pub entries : (s x : ℕ) → seen (state_of w) s x ≡ seen (state_of l) s x

pub record Uses : Type 1 where
  -- a buffer of 0 bytes answers 1, with zeros beside it
  pub nothing : ((serve ours [] (Get 0 0)).answer ≡ refused 1) × ((serve short [] (Get 0 0)).answer ≡ refused 1)
  -- every buffer
  pub buffers : (t : List ℕ) → Bytes t → OfBuffer t
  -- every sound table has a world
  pub tables : (t : List ℕ) → Bytes t → length t ≡ table.width → Sound (state_of t) → (W : World) × OfTable t W
  -- every list of calls after an opening, on long and short lists
  pub engines : (t : List ℕ) (n k : ℕ) → (serve long t (Open n k)).answer.code ≡ 0 →
      (cs : List Call) → FourBytes cs →
      let u = (serve long t (Open n k)).bytes in let l = play long u [] cs in let w = play short u [] cs in
      OfBoth l.0 w.0 × (w.1 ≡ l.1)
  -- open, look, retire and the cold list with either
  pub either : (t : List ℕ) (n k s x now T room : ℕ) →
      (serve short t (Open n k) ≡ serve ours t (Open n k)) × (serve short t (Look s x) ≡ serve ours t (Look s x))
      × (serve short t (Cold s now T room) ≡ serve ours t (Cold s now T room)) × (serve short t (Retire s) ≡ serve ours t (Retire s))
  -- every list of calls after an opening
  pub histories : (t : List ℕ) (n k : ℕ) → (serve ours t (Open n k)).answer.code ≡ 0 →
      (cs : List Call) → FourBytes cs →
      let p = play ours (serve ours t (Open n k)).bytes [] cs in
      OfHistory p.0 p.1
  -- and after a drain of each live site, in any order: each has applied every put, also of retired sites, and every two hold the same entries
  pub winners : (t : List ℕ) (n k : ℕ) → (serve ours t (Open n k)).answer.code ≡ 0 →
      (cs : List Call) → FourBytes cs →
      let p = play ours (serve ours t (Open n k)).bytes [] cs in
      (b : ℕ) → 903 ≤ b → (sites : List ℕ) → ((s : ℕ) → Live (state_of p.0) s → s ∈ sites) → let S = state_of (play ours p.0 p.1 (map (λ s. Drain s b) sites)).0 in
      (s o x : ℕ) → Live S s → o < S.n → x < S.k → (S.applied s o ≡ S.applied o o) × (Live S o → S.store s x ≡ S.store o x)
  -- so where the counts alone say that nothing is under way
  pub settled : (t : List ℕ) (n k : ℕ) → (serve ours t (Open n k)).answer.code ≡ 0 →
      (cs : List Call) → FourBytes cs →
      let S = state_of (play ours (serve ours t (Open n k)).bytes [] cs).0 in
      ((s o : ℕ) → Live S s → o < S.n → S.applied s o ≡ S.applied o o) → (s o x : ℕ) → Live S s → Live S o → x < S.k → S.store s x ≡ S.store o x
  -- in every run of eight sites a put's rank is the sum of its vector's columns
  pub vectors : {k : ℕ} {h : History} {W : World} → Run 8 k h W → (o x v c : ℕ) → put o x v c ∈ h → (r : Ranks) → Ranking r h
      → Rank (nth (W.updates o) c).depends (r o c)
  -- no order for a put invented or repeated; before an own put, a put got, a cause of a cause; without its cause; overlooked; early
  pub none : NoOrder forged 1 × NoOrder twice 1 × NoOrder second_first 1 × NoOrder effect_first 2 × NoOrder far_effect_first 3 × NoOrder effect_alone 2
      × NoOrder forgotten 0 × NoOrder blind 1 × NoOrder early 1 × NoOrder prophecy 1
  -- for a look too early or blind, and without a put adopted; a put looked at is no cause
  pub none_looked : NoOrder early_look 1 × NoOrder blind_look 1 × NoOrder adopted_alone 2 × NoOrder adopted_unseen 1
  pub looked : (r : Ranks) × Ranking r looked_at × (Cause r looked_at 0 1 1 1 → ⊥)
  -- for a lower origin of equal ranks, for the newest where another ranks higher, and for a put before the one that it overwrote; the higher origin has one
  pub none_ranked : (r : Ranks) → (Ranking r two_winners → Ordered r two_winners 1 → ⊥) × (Ranking r newest_wins → Ordered r newest_wins 0 → ⊥)
      × (Ranking r overwriting_first → Ordered r overwriting_first 2 → ⊥)
  pub winner : (s : ℕ) → (r : Ranks) × Ranking r one_winner × Ordered r one_winner s
  -- nor for one from its own site
  pub itself : NoOrder (update 0 0 1 5 7 ∷ put 0 5 7 1 ∷ []) 0
