-- An accepted touch is its get and then its put; a scan's touch leaves every key as cold as it was. Assumes nothing.
use mathlib.Core.Path.{◌≡◌, refl, sym, ap, ◌∙◌}
use mathlib.Core.Bool.{Bool, true, false, not, ◌&&◌}
use mathlib.Core.Logic.{⊎_elim}
use Prim.Native.Nat.{ℕ, suc}
use native.Mathlib.Omega.{arith}
use lib.Dec.{eqb}
use borrow.Author.Tests.{ne_eqb}
use Rattle.clock.specs.Map.{when◌then◌else◌}
use Rattle.clock.proofs.Maps.{both, at_is₂}
use Rattle.clock.specs.Vector.{Vector}
use Rattle.layout.specs.State.{State, Entry}
use Rattle.rules.specs.Touch.{hour_of, touch_of, well_formed, keeps_hour, touched, recorded, never, malformed, aged, age, kind}
use Rattle.rules.specs.Engine.{Engine}
use Rattle.rules.specs.Steps.{Outcome, put, learn, get, touch, cold}
use Rattle.rules.specs.Calls.{Put, Get, Cold, Touch, refusals, step, run}
use Rattle.laws.specs.Touches.{ColdAnswers, TouchIsBoth, ScanKeepsColdness}
use Rattle.laws.proofs.Ready.{gets_too, put_ready, get_ready, TouchReady, touch_ready}
use Rattle.laws.proofs.Given.{run_accepted}
use Rattle.laws.proofs.Codes.{accepted_first}
use Rattle.laws.proofs.Records.{touch_back, touch_formed}
use Rattle.laws.proofs.Touching.{learn_apart, apart_ready}
use Rattle.laws.proofs.After.{after_run}

pub touch_is_both : TouchIsBoth
unfolding refusals step get touch put
touch_is_both E S s x now u r z =
    let a = run_accepted E S (Touch s x now u r) z in
    let P = (touch_ready S s x now u r a.0).put in
    let v = touched (S.store s x).value now u r in
    let g : (run E S (Get s x)).answer.code ≡ 0 = (accepted_first E S (Get s x) refl).1 ((get_ready S s x).1 (gets_too P)) in
    let f : (run E S (Get s x)).after ≡ learn E S s x = ap (λ (o : Outcome). o.after) (run_accepted E S (Get s x) g).1 in
    let w = (accepted_first E (learn E S s x) (Put s x v) refl).1 ((put_ready (learn E S s x) s x).1 (apart_ready (learn_apart E S s x) P)) in
    record { gets = g; puts = a.1 ∙ sym (run_accepted E (learn E S s x) (Put s x v) w).1 ∙ ap (λ (T : State). run E T (Put s x v)) (sym f) }

pub cold_answers : ColdAnswers
unfolding step cold
cold_answers E S s now T m z = ap (λ (o : Outcome). o.answer) (run_accepted E S (Cold s now T m) z).1

-- a written entry with a well formed record, by its hour
kind_recorded : (hour T : ℕ) (e : Entry) → recorded e ≡ true → kind hour T e ≡ aged T (age hour (hour_of e.value))
unfolding kind
kind_recorded hour T e = go (eqb e.clock 0) (well_formed e.value)
  where
    go : (a b : Bool) → not a && b ≡ true → (when a then never else when b then aged T (age hour (hour_of e.value)) else malformed) ≡ aged T (age hour (hour_of e.value))
    go true b q = both q refl
    go false true q = refl
    go false false q = both q refl

module _ (E : Engine) (S : State) (s x now u r : ℕ) (h : keeps_hour u ≡ true) (R : TouchReady S s x now u r) where
  abbrev old : ℕ
  old = (S.store s x).value

  -- the record that a scan puts has the old hour
  scanned : touched old now u r ≡ touch_of (hour_of old) u r
  scanned = rw h

  new_recorded : (c : ℕ) (d : Vector) → recorded (record { value = touched old now u r; origin = s; zero = 0; clock = suc c; depends = d }) ≡ true
  new_recorded c d = rw (ne_eqb (suc c) 0 (λ e. omega arith), scanned) (touch_formed (hour_of old) u r R.toucher R.tier)

  same_kind : (hour T c : ℕ) (d : Vector) → kind hour T (record { value = touched old now u r; origin = s; zero = 0; clock = suc c; depends = d }) ≡ kind hour T (S.store s x)
  same_kind hour T c d =
      kind_recorded hour T _ (new_recorded c d)
      ∙ ap (λ (h : ℕ). aged T (age hour h)) (ap hour_of scanned ∙ (touch_back (hour_of old) u r R.toucher R.tier).0)
      ∙ sym (kind_recorded hour T (S.store s x) (R.old h))

  step_keeps : (hour T y : ℕ) → kind hour T ((touch E S s x now u r).after.store s y) ≡ kind hour T (S.store s y)
  unfolding touch put
  step_keeps hour T y =
      let p = learn_apart E S s x in
      ⊎_elim
      (λ q. ap (kind hour T) q.2 ∙ same_kind hour T _ _ ∙ ap (λ (z : ℕ). kind hour T (S.store s z)) q.1)
      (λ q. ap (kind hour T) (q.1 ∙ ap (λ (Q : State). Q.store s y) p.1))
      (at_is₂ (learn E S s x).store s x _ s y)

pub scan_keeps_coldness : ScanKeepsColdness
unfolding step
scan_keeps_coldness E S s x now u r h hour T y =
    after_run E S (Touch s x now u r) (λ Q. kind hour T (Q.store s y) ≡ kind hour T (S.store s y))
    (λ z. step_keeps E S s x now u r h (touch_ready S s x now u r z) hour T y) refl
