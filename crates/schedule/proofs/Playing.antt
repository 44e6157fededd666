-- A step on the bytes of a table is the step on the state that they stand for. Assumes nothing.
use mathlib.Core.Path.{◌≡◌, refl, ap, ◌∙◌}
use mathlib.Core.Bool.{Bool, true, false}
use mathlib.Core.List.{List}
use Prim.Native.Nat.{ℕ, ◌^◌, ◌<◌}
use native.Mathlib.Omega.{arith}
use lib.ListN.{length, get_or, replicate, length-replicate}
use Rattle.clock.specs.Map.{when◌then◌else◌}
use Rattle.layout.specs.State.{State, all_zero, state_of, table}
use Rattle.layout.specs.Ranges.{Bytes}
use Rattle.clock.proofs.Cells.{cells_zeros}
use Rattle.layout.proofs.Zeros.{all_zero_read}
use Rattle.rules.specs.Engine.{ours}
use Rattle.rules.specs.Steps.{refused}
use Rattle.rules.specs.Calls.{Open, Drain, run, serve}
use Rattle.laws.proofs.Outcomes.{outcome, outcome_is}
use Rattle.laws.proofs.Fitting.{ours_fits, Sized, put_sized, get_sized, deliver_sized}
use Rattle.schedule.specs.declared.Step.{Step}
use Rattle.schedule.specs.declared.Operation.{Operation}
use Rattle.schedule.specs.declared.Operation.TheVariants.{Put, Get, Deliver, Drain}
use Rattle.schedule.specs.Step.{operation_of, call_of, unused_zero, played, played_on}

open_sized : (n k : ℕ) → Sized (Open n k)
open_sized n k s' x' v' e = let z : ◌≡◌ {A = ℕ} 0 1 = cc in omega arith

drain_sized : (s b : ℕ) → Sized (Drain s b)
drain_sized s b s' x' v' e = let z : ◌≡◌ {A = ℕ} 0 1 = cc in omega arith

call_sized : (p : Step) → p.value < 256 ^ 4 → Sized (call_of p)
unfolding call_of
call_sized p h = go (operation_of p.operation) refl
  where
    go : (o : Operation) → operation_of p.operation ≡ o → Sized (call_of p)
    go Put e = rw (call_of, e) (put_sized p.site p.key p.value h)
    go Get e = rw (call_of, e) (get_sized p.site p.key)
    go Deliver e = rw (call_of, e) (deliver_sized p.site p.origin)
    go Drain e = rw (call_of, e) (drain_sized p.site 903)

module _ (t : List ℕ) (long : length t ≡ table.width) (bytes : Bytes t) where
  open_is : (n k : ℕ) → outcome (serve ours t (Open n k)) ≡ run ours (state_of t) (Open n k)
  open_is n k = outcome_is ours ours_fits t (Open n k) long bytes (open_sized n k)

  pub played_is : (p : Step) → p.value < 256 ^ 4 → outcome (played_on t p) ≡ played (state_of t) p
  unfolding played_on played
  played_is p h = go (unused_zero p)
    where
      go : (b : Bool) → outcome (when b then serve ours t (call_of p) else record { answer = refused 12; bytes = t }) ≡ (when b then run ours (state_of t) (call_of p) else record { answer = refused 12; after = state_of t })
      go true = outcome_is ours ours_fits t (call_of p) long bytes (call_sized p h)
      go false = refl

-- on bytes that are all zero
pub open_zeros : (n k : ℕ) → outcome (serve ours (replicate table.width 0) (Open n k)) ≡ run ours all_zero (Open n k)
unfolding Bytes
open_zeros n k =
    let z : (i : ℕ) → get_or {A = ℕ} (replicate table.width 0) i 0 ≡ 0 = λ i. ap (λ (g : ℕ → ℕ). g i) (cells_zeros table.width) in
    open_is (replicate table.width 0) (length-replicate {A = ℕ} table.width 0) (λ i. omega (arith, z i)) n k
    ∙ ap (λ (S : State). run ours S (Open n k)) (all_zero_read (replicate table.width 0) z)
