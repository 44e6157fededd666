-- Document 01's schedule meets the hypotheses of demand 3, and its history is the one that a reader would write. Assumes nothing.
use mathlib.Core.Path.{◌≡◌, refl, sym, ap, ◌∙◌}
use mathlib.Core.List.{List, [], ◌∷◌}
use mathlib.Core.Logic.{inl, inr}
use Prim.Native.Nat.{ℕ}
use native.Mathlib.Omega.{arith}
use lib.ListN.{length}
use Rattle.layout.specs.State.{table, state_of}
use Rattle.rules.specs.Engine.{ours}
use Rattle.rules.specs.Steps.{opened}
use Rattle.rules.specs.Calls.{Call, Open, refusals, step, Served, serve}
use Rattle.rules.specs.Cases.{rules}
use Rattle.laws.proofs.Ready.{open_ready}
use Rattle.causal.specs.World.{wrote, get}
use Rattle.causal.specs.History.{History, Ranks, Cause, direct}
use Rattle.causal.specs.Anomalies.{looked_at, one_winner}
use Rattle.causal.specs.Refines.{Causal}
use Rattle.causal.proofs.Tracing.{played}
use Rattle.demands.specs.Demands.{play, FourBytes}
use Rattle.demands.specs.Schedule.{schedule, by_hand, looking, adopting, adopted, winning, closing, closed}
use Rattle.laws.proofs.Fitting.{ours_fits, Sized, put_sized, get_sized, look_sized, adopt_sized, retire_sized, deliver_sized, open_fits}
use Rattle.laws.proofs.Serving.{asks_long, serve_step}
use Rattle.demands.proofs.Serving.{play_is}
use Rattle.demands.proofs.Proved.{opens, demand3}
use Rattle.causal.proofs.Updates.{clash}

-- 0's put is a cause of 1's, which answered it before
caused : (r : Ranks) → Cause r by_hand 0 1 1 1
unfolding by_hand
caused r = direct _ 1 2 9 1 0 1 (inr (inr (inr (inl (refl, refl))))) (inl (get 1 1 (wrote 7 0 1), inl refl, (refl, (refl, refl))))

-- each of the calls has a value of four bytes, if any
abbrev Each : List Call → Type 0
Each [] = Unit {0}
Each (c ∷ cs) = Sized c × Each cs

each_put : (cs : List Call) → Each cs → FourBytes cs
each_put [] k s x v q = absurd q
each_put (c ∷ cs) k s x v (inl e) = k.0 s x v (sym e)
each_put (c ∷ cs) k s x v (inr q) = each_put cs k.1 s x v q

sized : Each schedule
unfolding schedule
sized = (put_sized 0 1 7 (omega arith), (deliver_sized 1 0, (get_sized 1 1, (put_sized 1 2 9 (omega arith), (deliver_sized 2 1, ((λ s x v e. clash (cc)), (get_sized 2 1, tt)))))))

-- on any buffer of the table's size
module _ (t : List ℕ) (size : length t ≡ table.width) where
  accepted : (serve ours t (Open 3 4)).answer.code ≡ 0
  unfolding step refusals
  accepted = ap (λ (r : Served). r.answer.code) (serve_step ours t (Open 3 4) (asks_long t (Open 3 4) size ∙ (open_ready 3 4).1 (record { sites = omega arith; keys = omega arith })))

  on_bytes : (cs : List Call) → Each cs → (play ours (serve ours t (Open 3 4)).bytes [] cs).1 ≡ (played ours (opened 3 4) [] cs).1
  on_bytes cs k =
      let o = opens ours t 3 4 accepted in
      ap (λ (b : List ℕ). (play ours b [] cs).1) o.1 ∙ ap (λ (p : List ℕ × History). p.1) (play_is ours ours_fits (opened 3 4) (open_fits 3 4 o.0) [] cs (each_put cs k)).1

  pub history : (play ours (serve ours t (Open 3 4)).bytes [] schedule).1 ≡ by_hand
  unfolding rules schedule by_hand
  history = on_bytes schedule sized

  pub history_looking : (play ours (serve ours t (Open 3 4)).bytes [] looking).1 ≡ looked_at
  unfolding rules looking
  history_looking = on_bytes looking (put_sized 0 1 7 (omega arith), (deliver_sized 1 0, (look_sized 1 1, (put_sized 1 2 9 (omega arith), (deliver_sized 2 1, tt)))))

  pub history_adopting : (play ours (serve ours t (Open 3 4)).bytes [] adopting).1 ≡ adopted
  unfolding rules adopting adopted
  history_adopting = on_bytes adopting (put_sized 0 1 7 (omega arith), (deliver_sized 1 0, (look_sized 1 1, (adopt_sized 1 1 0 1, (put_sized 1 2 9 (omega arith), (deliver_sized 2 1, tt))))))

  pub history_winning : (play ours (serve ours t (Open 3 4)).bytes [] winning).1 ≡ one_winner
  unfolding rules winning
  history_winning =
      on_bytes winning (put_sized 0 0 5 (omega arith), (put_sized 1 0 6 (omega arith), (deliver_sized 0 1, (deliver_sized 1 0, (get_sized 1 0, (get_sized 0 0, tt))))))

  pub history_closing : (play ours (serve ours t (Open 3 4)).bytes [] closing).1 ≡ closed
  unfolding rules closing closed
  history_closing =
      on_bytes closing
      (put_sized 0 1 7 (omega arith), (retire_sized 0, (put_sized 0 1 8 (omega arith), (deliver_sized 1 0, ((λ s x v e. clash (cc)), (get_sized 2 1, tt))))))

  pub causal : let p = play ours (serve ours t (Open 3 4)).bytes [] schedule in Causal (state_of p.0) (λ c. (serve ours p.0 c).answer) by_hand
  causal = rw history at (demand3 t 3 4 accepted schedule (each_put schedule sized))
