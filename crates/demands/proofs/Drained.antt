-- A drain is its deliveries, over bytes. Assumes nothing.
use mathlib.Core.Path.{◌≡◌, refl, ap, subst, ◌∙◌}
use mathlib.Core.List.{List}
use Prim.Native.Nat.{ℕ, suc}
use native.Mathlib.Omega.{arith}
use lib.ListN.{length}
use Rattle.layout.specs.State.{State, table, state_of, bytes_of}
use Rattle.layout.specs.Ranges.{Bytes, Fits}
use Rattle.layout.proofs.TableTrips.{bytes_back, state_fits}
use Rattle.rules.specs.Engine.{Engine}
use Rattle.rules.specs.Steps.{Numbers}
use Rattle.rules.specs.Drain.{drain}
use Rattle.rules.specs.Calls.{Deliver, Drain, step, Served}
use Rattle.laws.specs.Theorems.{Delivers, start, one_more}
use Rattle.laws.proofs.Draining.{drain_delivers}
use Rattle.laws.proofs.Fitting.{FitsEngine, deliver_sized, run_fits}
use Rattle.demands.specs.Demands.{Delivered, none, next, NothingDelivered}
use Rattle.demands.proofs.Serving.{serve_state}

-- no delivery leaves the bytes
pub same_bytes : {E : Engine} {s m : ℕ} {t u : List ℕ} → Delivered E s t m u → m ≡ 0 → u ≡ t
same_bytes none z = refl
same_bytes (next d o k) z = absurd (omega arith)

pub nothing_delivered : NothingDelivered
nothing_delivered E t s b r A z = same_bytes (A.delivered s b refl) (omega arith)

-- deliveries on the state are deliveries on its bytes
on_bytes : {E : Engine} → FitsEngine E → {s : ℕ} {S R : State} {made : List Numbers} → Fits S → Delivers E s S made R → Fits R × Delivered E s (bytes_of S) (length made) (bytes_of R)
on_bytes L F start = (F, none)
on_bytes {E} L {s} {S} F (one_more {made = made} {R = R} D o z) =
    let p = on_bytes L F D in
    let e = serve_state E R p.0 (Deliver s o) in (
      run_fits E L R (Deliver s o) (deliver_sized s o) p.0,
      subst (λ (r : Served). Delivered E s (bytes_of S) (suc (length made)) r.bytes) e (next p.1 o (ap (λ (r : Served). r.answer.code) e ∙ z)),
    )

pub drain_bytes : (E : Engine) → FitsEngine E → (t : List ℕ) → Bytes t → length t ≡ table.width → (s b : ℕ)
    → let r = step E (state_of t) (Drain s b) in Delivered E s t r.answer.clock (bytes_of r.after)
unfolding step
drain_bytes E L t B h s b =
    let S = state_of t in
    let d = drain_delivers E S s b in
    subst (λ (u : List ℕ). Delivered E s u (drain E S s b).answer.clock (bytes_of (drain E S s b).after)) (bytes_back t h B)
    (rw d.1 (on_bytes L (state_fits t h B) d.0).1)
