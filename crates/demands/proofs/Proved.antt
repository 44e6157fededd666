-- The three demands hold. Assumes nothing.
use mathlib.Core.Path.{◌≡◌, refl, sym, ap, subst, ◌∙◌, fun_ext}
use mathlib.Core.List.{List, []}
use mathlib.Core.Logic.Iff
use mathlib.Core.Logic.{⊎_elim, ◌≢◌}
use Prim.Native.Nat.{ℕ}
use native.Mathlib.Omega.{arith}
use Rattle.clock.proofs.Maps.{eq?}
use Rattle.layout.specs.State.{State, state_of, bytes_of}
use Rattle.layout.specs.Ranges.{Bytes, Fits}
use Rattle.layout.proofs.TableTrips.{state_back}
use Rattle.rules.specs.Engine.{Engine, ours}
use Rattle.rules.specs.Steps.{Numbers, Outcome, opened}
use Rattle.rules.specs.Refusals.{first}
use Rattle.rules.specs.Calls.{Call, Open, Put, Get, Look, Adopt, Retire, Deliver, Drain, refusals, beside, step, run, asks, Served, serve}
use Rattle.laws.specs.Theorems.{Clear}
use Rattle.laws.proofs.Ready.{OpenReady, open_ready}
use Rattle.laws.proofs.Given.{first_given, first_avoids, first_clear, asks_proper, beside_code}
use Rattle.laws.proofs.Codes.{step_code, beside_zeros, step_enough, step_spent}
use Rattle.causal.specs.World.{World}
use Rattle.causal.specs.History.{History}
use Rattle.causal.specs.Refines.{Abstracts, Refines, Tells, Follows, Causal}
use Rattle.causal.proofs.Meaning.{meaning, meaning_abstracts}
use Rattle.causal.proofs.Following.{follows}
use Rattle.causal.proofs.Tracing.{played, played_causal}
use Rattle.demands.specs.Demands.{Delivered, none, Answered, Demand1, Demand2, Demand3}
use Rattle.layout.proofs.Whole.{state_bytes}
use Rattle.laws.proofs.Fitting.{FitsEngine, ours_fits, Sized, put_sized, get_sized, look_sized, adopt_sized, retire_sized, deliver_sized, open_fits}
use Rattle.laws.proofs.Serving.{served, asks_clear, serve_step, serve_refused, serve_accepted}
use Rattle.laws.proofs.Outcomes.{outcome, outcome_is}
use Rattle.demands.proofs.Serving.{serve_state, play_is}
use Rattle.demands.proofs.Drained.{drain_bytes}

-- ## Demand 1

module _ (E : Engine) (L : FitsEngine E) (t : List ℕ) (b : Bytes t) (c : Call) where
  -- a condition holds
  answered_refused : first (asks t c) ≢ 0 → Answered E t c (record { answer = beside (state_of t) c (first (asks t c)); bytes = t })
  unfolding beside
  answered_refused h =
      let f = first (asks t c) in
      let code = beside_code (state_of t) c f in
      let not_clear : Clear (asks t c) → ⊥ = λ g. h ((first_clear (asks t c) (asks_proper t c).0).1 g) in
      record {
        given = λ e z y. Iff.trans ((λ q. sym code ∙ q), λ q. code ∙ q) (first_given (asks t c) e z);
        accepted = ((λ q. absurd (h (sym code ∙ q))), λ p. absurd (not_clear p.0));
        spent = ((λ q. absurd (first_avoids 11 (asks t c) (omega arith) (asks_proper t c).1 (sym code ∙ q))), λ p. absurd (not_clear p.0));
        keeps = λ z y. refl;
        zeros = λ e z y x q. let w : f ≡ e = sym code ∙ q in rw w (beside_zeros (state_of t) c e y);
        delivered = λ s d e. subst (λ (c : Call). Delivered E s t (beside (state_of t) c f).clock t) (sym e) (undelivered s d f);
        whole = (refl, b);
      }
    where
      undelivered : (s d f : ℕ) → Delivered E s t (beside (state_of t) (Drain s d) f).clock t
      undelivered s d f = none

  -- none does
  answered_step : first (asks t c) ≡ 0 → Answered E t c (served (step E (state_of t) c))
  answered_step h =
      let r = asks_clear t c h in
      let clear = (first_clear (asks t c) (asks_proper t c).0).0 h in
      let other : (e : ℕ) → e ≢ 0 → e ≢ 11 → (step E (state_of t) c).answer.code ≡ e → ⊥ =
      λ e z y q. ⊎_elim (λ p. z (sym q ∙ p)) (λ p. y (sym q ∙ p)) (step_code E (state_of t) c) in
      record {
        given = λ e z y. ((λ q. absurd (other e z y q)), λ g. absurd (z (sym ((first_given (asks t c) e z).1 g) ∙ h)));
        accepted = Iff.trans (step_enough E (state_of t) c r.1) ((λ p. (clear, p)), λ p. p.1);
        spent = Iff.trans (step_spent E (state_of t) c r.1) ((λ p. (clear, p)), λ p. p.1);
        keeps = λ z y. absurd (other _ z y refl);
        zeros = λ e z y x q. absurd (other e z x q);
        delivered = λ s d e. subst (λ (c : Call). Delivered E s t (step E (state_of t) c).answer.clock (bytes_of (step E (state_of t) c).after)) (sym e) (drain_bytes E L t b r.0 s d);
        whole = let w = state_bytes (step E (state_of t) c).after in (w.0 ∙ sym r.0, w.1);
      }

pub demand1 : (E : Engine) → FitsEngine E → Demand1 E
demand1 E L t b c =
    ⊎_elim
    (λ h. subst (Answered E t c) (sym (serve_step E t c h)) (answered_step E L t b c h))
    (λ h. subst (Answered E t c) (sym (serve_refused E t c h)) (answered_refused E L t b c h))
    (eq? (first (asks t c)) 0)

-- ## Demand 2

pub demand2 : Demand2
demand2 t b h D = ((meaning S, meaning_abstracts S), on_bytes)
  where
    S : State
    S = state_of t

    same : (c : Call) → Sized c → run ours S c ≡ outcome (serve ours t c)
    same c z = sym (outcome_is ours ours_fits t c h b z)

    on_bytes : (W : World) → Abstracts S W → Follows S W (λ c. outcome (serve ours t c))
    on_bytes W A =
        let f = follows S D W A in
        record {
          puts = λ s x v l. at (Put s x v) (put_sized s x v l) (f.puts s x v l);
          gets = λ s x. at (Get s x) (get_sized s x) (f.gets s x);
          looks = λ s x. at (Look s x) (look_sized s x) (f.looks s x);
          adopts = λ s x o c. at (Adopt s x o c) (adopt_sized s x o c) (f.adopts s x o c);
          delivers = λ s o. at (Deliver s o) (deliver_sized s o) (f.delivers s o);
          retires = λ s. at (Retire s) (retire_sized s) (f.retires s);
          tells = λ s o. subst (λ (r : Outcome). Tells S W s o r.answer) (same (Deliver s o) (deliver_sized s o)) (f.tells s o);
        }
      where
        at : (c : Call) → Sized c → {P : Type 0} → Refines S W c P (run ours S c) → Refines S W c P (outcome (serve ours t c))
        at c z {P} = subst (Refines S W c P) (same c z)

-- ## Demand 3

-- an accepted opening
pub opens : (E : Engine) (t : List ℕ) (n k : ℕ) → (serve E t (Open n k)).answer.code ≡ 0 → OpenReady n k × ((serve E t (Open n k)).bytes ≡ bytes_of (opened n k))
unfolding step refusals
opens E t n k z =
    let a = serve_accepted E t (Open n k) z in
    ((open_ready n k).0 (asks_clear t (Open n k) a).1, ap (λ (r : Served). r.bytes) (serve_step E t (Open n k) a))

-- what holds of a state that fits holds of its bytes
on_bytes : (S : State) → Fits S → (h : History) → Causal S (λ c. (run ours S c).answer) h
    → Causal (state_of (bytes_of S)) (λ c. (serve ours (bytes_of S) c).answer) h
on_bytes S F h C =
    let e : ◌≡◌ {A = Call → Numbers} (λ c. (run ours S c).answer) (λ c. (serve ours (bytes_of S) c).answer) = fun_ext λ c. sym (ap (λ (r : Served). r.answer) (serve_state ours S F c)) in
    subst (λ (R : State). Causal R (λ c. (serve ours (bytes_of S) c).answer) h) (sym (state_back S F)) (subst (λ (a : Call → Numbers). Causal S a h) e C)

pub demand3 : Demand3
demand3 t n k z cs h =
    let o = opens ours t n k z in
    let R = o.0 in
    let p = play_is ours ours_fits (opened n k) (open_fits n k R) [] cs (λ s x v m. omega (arith, h s x v m)) in
    let q = played ours (opened n k) [] cs in
    rw (o.1, p.1) (on_bytes q.0 p.0 q.1 (played_causal n k R cs))
