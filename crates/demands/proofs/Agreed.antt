-- Played on both engines, calls make one history, and tables that agree. Assumes nothing.
use mathlib.Core.Path.{◌≡◌, refl, sym, ap, subst, ◌∙◌}
use mathlib.Core.List.{List, [], ◌∷◌}
use mathlib.Core.Logic.{⊎_elim}
use Prim.Native.Nat.{ℕ, zero, suc}
use lib.Dec.{eqb}
use Rattle.clock.specs.Map.{when◌then◌else◌}
use Rattle.clock.proofs.Maps.{eq?}
use Rattle.layout.specs.State.{State, state_of, bytes_of}
use Rattle.layout.specs.Ranges.{Fits}
use Rattle.layout.proofs.TableTrips.{state_back}
use Rattle.rules.specs.Engine.{Engine, long, short}
use Rattle.rules.specs.Steps.{Numbers, opened}
use Rattle.rules.specs.Calls.{Call, Open, Put, Get, Deliver, Drain, Cold, Touch, Look, Adopt, Retire, run, serve}
use Rattle.laws.specs.Agreement.{SameTable, SameAnswer}
use Rattle.laws.proofs.Agreed.{Agree, run_agree, same_table, same_made, opened_agree}
use Rattle.laws.proofs.Ready.{OpenReady}
use Rattle.laws.proofs.Fitting.{FitsEngine, long_fits, short_fits, open_fits}
use Rattle.causal.specs.History.{History}
use Rattle.causal.specs.Refines.{found, looked, after_call}
use Rattle.causal.proofs.Tracing.{played}
use Rattle.demands.specs.Demands.{play, FourBytes}
use Rattle.demands.specs.Agreement.{Agreement}
use Rattle.demands.proofs.Serving.{serve_state, play_is}
use Rattle.demands.proofs.Proved.{opens}

-- ## One history

-- a 10 makes no event
ten_quiet : (E : Engine) (S : State) (c : Call) (a : Numbers) (h : History) → a.code ≡ 10 → after_call E S c a h ≡ h
ten_quiet E S (Open n k) a h z = rw z
ten_quiet E S (Put s x v) a h z = rw z
ten_quiet E S (Get s x) a h z = rw z
ten_quiet E S (Deliver s o) a h z = rw z
ten_quiet E S (Drain s b) a h z = rw z
ten_quiet E S (Cold s now T m) a h z = rw z
ten_quiet E S (Touch s x now u r) a h z = rw z
ten_quiet E S (Look s x) a h z = rw z
ten_quiet E S (Adopt s x o c) a h z = rw z
ten_quiet E S (Retire s) a h z = rw z

module _ {S T : State} (G : Agree S T) where
  same_found : (s x : ℕ) → found T s x ≡ found S s x
  same_found s x = let e = (same_table G).entries s x in rw (e.0, e.1, e.2)

  same_looked : (s m : ℕ) (h : History) → looked T s m h ≡ looked S s m h
  same_looked s zero h = refl
  same_looked s (suc m) h = rw (same_found s m, same_looked s m h)

  -- the same answer makes the same events
  same_events : (c : Call) (a : Numbers) (h : History) → after_call short T c a h ≡ after_call long S c a h
  same_events (Open n k) a h = refl
  same_events (Put s x v) a h = refl
  same_events (Get s x) a h = refl
  same_events (Deliver s o) a h = refl
  same_events (Drain s b) a h = rw (same_made G s b)
  same_events (Cold s now U m) a h =
      ap (λ (l : History). when eqb a.code 0 then l else h) (ap (λ (m : ℕ). looked T s m h) (same_table G).keys ∙ same_looked s S.k h)
  same_events (Touch s x now u r) a h = rw (same_found s x)
  same_events (Look s x) a h = refl
  same_events (Adopt s x o c) a h = refl
  same_events (Retire s) a h = refl

  same_history : (c : Call) (a b : Numbers) (h : History) → SameAnswer a b → after_call short T c b h ≡ after_call long S c a h
  same_history c a b h A =
      ⊎_elim
      (λ z. ten_quiet short T c b h (A.code ∙ z) ∙ sym (ten_quiet long S c a h z))
      (λ z. ap (λ (b : Numbers). after_call short T c b h) (A.others z) ∙ same_events c a h)
      (eq? a.code 10)

played_agree : (S T : State) → Agree S T → (h : History) (cs : List Call)
    → let p = played long S h cs in let q = played short T h cs in Agree p.0 q.0 × (q.1 ≡ p.1)
played_agree S T G h [] = (G, refl)
played_agree S T G h (c ∷ cs) =
    let r = run_agree S T G c in
    let g = after_call long S c (run long S c).answer h in
    subst
    (λ (e : History). let p = played long (run long S c).after g cs in let q = played short (run short T c).after e cs in Agree p.0 q.0 × (q.1 ≡ p.1))
    (sym (same_history G c _ _ h r.0))
    (played_agree (run long S c).after (run short T c).after r.1 g cs)

-- ## Over bytes

module _ (n k : ℕ) (R : OpenReady n k) (cs : List Call) (z : FourBytes cs) where
  abbrev S : State
  S = (played long (opened n k) [] cs).0

  abbrev T : State
  T = (played short (opened n k) [] cs).0

  agree : Agree S T × ((played short (opened n k) [] cs).1 ≡ (played long (opened n k) [] cs).1)
  agree = played_agree (opened n k) (opened n k) (opened_agree n k R) [] cs

  plays : (E : Engine) → FitsEngine E → let p = played E (opened n k) [] cs in Fits p.0 × (play E (bytes_of (opened n k)) [] cs ≡ (bytes_of p.0, p.1))
  plays E L = play_is E L (opened n k) (open_fits n k R) [] cs z

  same_tables : SameTable (state_of (bytes_of S)) (state_of (bytes_of T))
  same_tables = rw (state_back S (plays long long_fits).0, state_back T (plays short short_fits).0) (same_table agree.0)

  same_answers : (c : Call) → SameAnswer (serve long (bytes_of S) c).answer (serve short (bytes_of T) c).answer
  same_answers c = rw (serve_state long S (plays long long_fits).0 c, serve_state short T (plays short short_fits).0 c) (run_agree S T agree.0 c).0

pub agreement : Agreement
agreement t n k z cs h =
    let o = opens long t n k z in
    rw (o.1, (plays n k o.0 cs h long long_fits).1, (plays n k o.0 cs h short short_fits).1)
    (same_tables n k o.0 cs h, same_answers n k o.0 cs h, (agree n k o.0 cs h).1)
