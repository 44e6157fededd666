use Rattle.std.proofs.Common.{◌≡◌, refl, sym, subst, ap, ◌∙◌, [], ◌∷◌, eqb, List, ℕ, rules, arith}
use Rattle.clock.specs.Map.{any}
use Rattle.layout.specs.State.{state_of}
use Rattle.layout.specs.Ranges.{Bytes}
use Rattle.rules.specs.Steps.{Outcome}
use Rattle.rules.specs.Refusals.{missing, deliver_refusals}
use Rattle.rules.specs.Calls.{Deliver, refusals, serve}
use Rattle.laws.proofs.Draining.{try_runs}
use Rattle.answers.proofs.Codes.{asked_stop}
use Rattle.answers.proofs.Serves.{other_size, refused_inside, serves_run}
use Rattle.refusals.specs.Asked.{receives_in}
use Rattle.deliver.proofs.Tries.{deliver_clear}
use Rattle.deliver.proofs.deliver.Goals as goal

pub returns-in_err-t : goal.returns-in_err-t
returns-in_err-t g c = other_size (g.E.EngineValue.engine c.args.engine) _ (Deliver c.args.s c.args.o) _ (search rules) (search rules) refl

pub returns-in_err-deliver_refusal : goal.returns-in_err-deliver_refusal
unfolding refusals deliver_refusals
returns-in_err-deliver_refusal g c =
    let a = c.args in
    let S = state_of c.in_ok-t.t.now in
    refused_inside (g.E.EngineValue.engine a.engine) _ (Deliver a.s a.o) _ (search rules) (search rules) _ _ (search rules)
    (asked_stop (receives_in S a.s a.o) ((9, eqb (S.applied a.s a.o) (S.applied a.o a.o)) ∷ (10, any 8 (missing S a.s a.o)) ∷ []) _ c.in_err-deliver_refusal.ensures)

pub attempt-requires : goal.attempt-requires
attempt-requires g c = deliver_clear (state_of c.in_ok-t.t.now) c.args.s c.args.o (sym c.in_ok-deliver_refusal.ensures)

pub returns : goal.returns
unfolding Bytes
returns g c =
    let a = c.args in
    let w = c.attempt in
    let u = c.in_ok-t.t.now in
    let r = try_runs (g.E.EngineValue.engine a.engine) (state_of u) a.s a.o in
    let same : a.t.now ≡ u = search rules in
    let b : Bytes a.t.now = λ i. search rules in
    serves_run (g.E.EngineValue.engine a.engine) u (Deliver a.s a.o) _ w.new.t (search rules) (λ i. omega (arith, c.type_inv.t i)) (search rules)
    (subst Bytes same b) (w.ensures.0 ∙ ap (λ (o : Outcome). o.answer) r) (w.ensures.1 ∙ ap (λ (o : Outcome). o.after) r)
    ∙ ap (λ (t : List ℕ). serve (g.E.EngineValue.engine a.engine) t (Deliver a.s a.o)) (sym same)
