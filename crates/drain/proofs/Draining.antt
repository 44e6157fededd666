-- What the loop over the tries keeps: the drain of the table it was given is the passes that are left. Assumes nothing.
use mathlib.Core.Path.{◌≡◌, refl, sym, ap, subst, ◌∙◌}
use mathlib.Core.Bool.{Bool, true, false}
use mathlib.Core.List.{List, [], ◌∷◌}
use mathlib.Core.Logic.{◌≢◌}
use Prim.Native.Nat.{ℕ, suc, ◌+◌, ◌-◌, ◌≤◌, ◌<◌}
use native.Mathlib.Omega.{arith}
use lib.Dec.{eqb}
use lib.ListN.{length}
use Rattle.clock.specs.Map.{bit}
use Rattle.clock.proofs.Maps.{choice}
use Rattle.layout.specs.State.{State}
use Rattle.rules.specs.Engine.{Engine}
use Rattle.rules.specs.Sound.{Sound}
use Rattle.rules.specs.Steps.{Numbers, Outcome, deliver}
use Rattle.rules.specs.Refusals.{first, deliver_refusals}
use Rattle.rules.specs.Drain.{try, Turn, end, due, turn, passes, drained}
use Rattle.rules.specs.Calls.{Deliver, run}
use Rattle.laws.proofs.Draining.{try_runs, ended, stopped, passes_end, passes_stop, passes_accepted, passes_refused}
use Rattle.laws.proofs.Turns.{Fair, turn_fair}
use Rattle.laws.proofs.After.{keeps_sound, counts_kept, retired_kept}
use Rattle.drain.specs.Turns.{Drains}

-- a refused try changes nothing
try_keeps : (E : Engine) (S : State) (s o : ℕ) → (try E S s o).answer.code ≢ 0 → (try E S s o).after ≡ S
unfolding try deliver
try_keeps E S s o =
    choice (eqb (first (deliver_refusals S s o)) 0) (λ (w : Outcome). w.answer.code ≢ 0 → w.after ≡ S) (λ e h. absurd (h refl)) (λ e h. refl)

-- T: whose turn it is
pub record Draining (E : Engine) (S₀ S : State) (n s budget : ℕ) (T : Turn) (deliveries tries : ℕ) : Type 0 where
  pub ready : Drains S n s
  pub fair : Fair n s T
  pub within : tries ≤ budget
  pub fewer : deliveries ≤ tries
  pub made : List Numbers
  pub count : length made ≡ deliveries
  pub same : drained E S₀ s budget ≡ passes E (budget - tries) S s T made tries

pub drain_starts : (E : Engine) (S : State) (n s budget : ℕ) (T : Turn) → Drains S n s → T ≡ turn n s 0 false → Draining E S S n s budget T 0 0
unfolding drained
drain_starts E S n s budget T h e =
    record {
      ready = h;
      fair = subst (Fair n s) (sym e) (turn_fair n s 0 false);
      within = omega arith;
      fewer = omega arith;
      made = [];
      count = refl;
      same = (λ i. passes E budget S s (turn (sym h.sites i) s 0 false) [] 0) ∙ (λ i. passes E (whole i) S s (sym e i) [] 0);
    }
  where
    whole : budget ≡ budget - 0
    whole = omega arith

pub drain_ended : {E : Engine} {S₀ S : State} {n s budget deliveries tries : ℕ} (D : Draining E S₀ S n s budget end deliveries tries) → drained E S₀ s budget ≡ ended S D.made tries
drain_ended {E} {S₀} {S} {n} {s} {budget} {deliveries} {tries} D = D.same ∙ passes_end E (budget - tries) S s D.made tries

module _ {E : Engine} {S₀ S : State} {n s budget o : ℕ} {d : Bool} {deliveries tries : ℕ} (D : Draining E S₀ S n s budget (due o d) deliveries tries) where
  pub drain_stopped : tries ≡ budget → drained E S₀ s budget ≡ stopped S D.made tries
  drain_stopped e =
      let z : budget - tries ≡ 0 = omega arith in
      D.same ∙ rw z (passes_stop E S s o d D.made tries)

  module _ (S' : State) (after : S' ≡ (try E S s o).after) (left : tries < budget) where
    one_less : budget - tries ≡ suc (budget - (tries + 1))
    one_less = omega arith

    suc_one : (m : ℕ) → suc m ≡ m + 1
    suc_one m = omega arith

    next : Drains S' n s
    next =
        let e : S' ≡ (run E S (Deliver s o)).after = after ∙ ap (λ (w : Outcome). w.after) (try_runs E S s o) in
        record {
          sound = subst Sound (sym e) (keeps_sound E S (Deliver s o) D.ready.sound);
          sites = D.ready.sites ∙ sym (ap (λ (T : State). T.n) e ∙ (counts_kept E S (Deliver s o) (λ n k p. cc)).0);
          site = D.ready.site;
          live = ap (λ (b : ℕ). bit b s) (ap (λ (T : State). T.retired) e ∙ retired_kept E S (Deliver s o) (λ n k p. cc) (λ n p. cc)) ∙ D.ready.live;
        }

    pub drain_accepted : (try E S s o).answer.code ≡ 0 → Draining E S₀ S' n s budget (due o true) (deliveries + 1) (tries + 1)
    drain_accepted z =
        record {
          ready = next;
          fair = D.fair;
          within = omega arith;
          fewer = omega (arith, D.fewer);
          made = (try E S s o).answer ∷ D.made;
          count = omega (arith, D.count);
          same =
              D.same
              ∙ rw one_less (passes_accepted E (budget - (tries + 1)) S s o d D.made tries z)
              ∙ (λ i. passes E (budget - (tries + 1)) (sym after i) s (due o true) ((try E S s o).answer ∷ D.made) (suc_one tries i));
        }

    pub drain_refused : (try E S s o).answer.code ≢ 0 → (T : Turn) → T ≡ turn n s (o + 1) d → Draining E S₀ S' n s budget T deliveries (tries + 1)
    drain_refused z T e =
        record {
          ready = next;
          fair = subst (Fair n s) (sym e) (turn_fair n s (o + 1) d);
          within = omega arith;
          fewer = omega (arith, D.fewer);
          made = D.made;
          count = D.count;
          same =
              D.same
              ∙ rw one_less (passes_refused E (budget - (tries + 1)) S s o d D.made tries z)
              ∙ (λ i. passes E (budget - (tries + 1)) (sym kept i) s (turned i) D.made (suc_one tries i));
        }
      where
        kept : S' ≡ S
        kept = after ∙ try_keeps E S s o z

        turned : turn S.n s (suc o) d ≡ T
        turned = (λ i. turn (sym D.ready.sites i) s (suc_one o i) d) ∙ sym e
