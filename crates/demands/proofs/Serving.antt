-- Calls on bytes, one after another, are calls on the state that they stand for. Assumes nothing.
use mathlib.Core.Path.{◌≡◌, refl, sym, ap, ◌∙◌}
use mathlib.Core.List.{List, [], ◌∷◌}
use mathlib.Core.Logic.{inl, inr}
use Rattle.layout.specs.State.{State, bytes_of}
use Rattle.layout.specs.Ranges.{Fits}
use Rattle.layout.proofs.TableTrips.{state_back, bytes_long}
use Rattle.rules.specs.Engine.{Engine}
use Rattle.rules.specs.Calls.{Call, run, Served, serve}
use Rattle.causal.specs.History.{History}
use Rattle.causal.specs.Refines.{after_call}
use Rattle.causal.proofs.Tracing.{played}
use Rattle.demands.specs.Demands.{play, FourBytes}
use Rattle.layout.proofs.Whole.{state_bytes}
use Rattle.laws.proofs.Serving.{served, serve_long}
use Rattle.laws.proofs.Fitting.{FitsEngine, run_fits}

module _ (E : Engine) (S : State) (F : Fits S) where
  pub serve_state : (c : Call) → serve E (bytes_of S) c ≡ served (run E S c)
  serve_state c = serve_long E (bytes_of S) c (bytes_long S F) (state_bytes S).1 ∙ ap (λ (R : State). served (run E R c)) (state_back S F)

-- calls on bytes are calls on the state
pub play_is : (E : Engine) → FitsEngine E → (S : State) → Fits S → (h : History) (cs : List Call) → FourBytes cs
    → let p = played E S h cs in Fits p.0 × (play E (bytes_of S) h cs ≡ (bytes_of p.0, p.1))
play_is E L S F h [] z = (F, refl)
play_is E L S F h (c ∷ cs) z =
    let r = play_is E L (run E S c).after (run_fits E L S c (λ s x v e. z s x v (inl (sym e))) F) (after_call E S c (run E S c).answer h) cs (λ s x v m. z s x v (inr m)) in (
      r.0,
      ap (λ (R : State). play E (serve E (bytes_of S) c).bytes (after_call E R c (serve E (bytes_of S) c).answer h) cs) (state_back S F)
          ∙ ap (λ (r : Served). play E r.bytes (after_call E S c r.answer h) cs) (serve_state E S F c) ∙ r.1,
    )
