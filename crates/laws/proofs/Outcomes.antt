-- What is served on bytes is what is run on the state that they stand for. Assumes nothing.
use mathlib.Core.Path.{◌≡◌, ap, ◌∙◌}
use mathlib.Core.List.{List}
use Prim.Native.Nat.{ℕ}
use lib.ListN.{length}
use Rattle.layout.specs.State.{State, table, state_of}
use Rattle.layout.specs.Ranges.{Bytes}
use Rattle.layout.proofs.TableTrips.{state_back, state_fits}
use Rattle.rules.specs.Engine.{Engine}
use Rattle.rules.specs.Steps.{Outcome}
use Rattle.rules.specs.Calls.{Call, run, Served, serve}
use Rattle.laws.proofs.Serving.{serve_long}
use Rattle.laws.proofs.Fitting.{FitsEngine, Sized, run_fits}

-- what is served, read as a state again
abbrev pub outcome : Served → Outcome
outcome r = record { answer = r.answer; after = state_of r.bytes }

module _ (E : Engine) (L : FitsEngine E) (t : List ℕ) (c : Call) where
  pub outcome_is : length t ≡ table.width → Bytes t → Sized c → outcome (serve E t c) ≡ run E (state_of t) c
  outcome_is h b z =
      ap outcome (serve_long E t c h b)
      ∙ ap (λ (S : State). record { answer = (run E (state_of t) c).answer; after = S }) (state_back (run E (state_of t) c).after (run_fits E L (state_of t) c z (state_fits t h b)))
