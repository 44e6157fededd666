use Rattle.std.proofs.Common.{◌≡◌, ◌∙◌, sym, ap, length, None, arith, rules}
use Rattle.layout.specs.State.{state_of}
use Rattle.rules.specs.Steps.{Numbers}
use Rattle.rules.specs.Drain.{Drained, drain}
use Rattle.answers.proofs.Codes.{served_zero, unserved_not}
use Rattle.drain.proofs.Draining.{drain_starts, drain_ended, drain_stopped, drain_accepted, drain_refused}
use Rattle.drain.proofs.passes.Goals as goal

-- the answer of a drain that has come to its end
abbrev answered : Drained → Numbers
answered d = record { code = d.code; key = 0; site = 0; clock = length d.made; value = d.tries }

pub loop-turn-init : goal.loop-turn-init
loop-turn-init g c =
    let a = c.args in
    drain_starts (g.E.EngineValue.engine a.engine) (state_of a.t.now) a.n a.s a.budget _ c.requires c.next_turn-turn.ensures

pub returns-then-tries-budget : goal.returns-then-tries-budget
unfolding drain
returns-then-tries-budget g c =
    let l = c.loop-turn in
    let D = rw c.in-Some.is at l.invariant in
    let r = drain_stopped D c.if-tries-budget.true in
    ((λ i. record { code = 11; key = 0; site = 0; clock = sym D.count i; value = l.tries }) ∙ sym (ap answered r), sym (ap (λ (w : Drained). w.after) r))

pub loop-turn-preserved-then-is_ok : goal.loop-turn-preserved-then-is_ok
loop-turn-preserved-then-is_ok g c =
    let w = c.attempt in
    let D = rw c.in-Some.is at c.loop-turn.invariant in
    drain_accepted D (state_of w.new.t) w.ensures.1 (omega arith) (sym (ap (λ (r : Numbers). r.code) w.ensures.0) ∙ served_zero w.result c.if-is_ok.ensures.value)

pub loop-turn-preserved : goal.loop-turn-preserved
loop-turn-preserved g c =
    let w = c.attempt in
    let D = rw c.in-Some.is at c.loop-turn.invariant in
    drain_refused D (state_of w.new.t) w.ensures.1 (omega arith)
    (λ z. unserved_not w.result c.if-is_ok.ensures.value (ap (λ (r : Numbers). r.code) w.ensures.0 ∙ z)) _ c.next_turn-turn-else-is_ok.ensures

pub returns : goal.returns
unfolding drain
returns g c =
    let l = c.loop-turn in
    let e : l.turn ≡ None = search rules in
    let D = rw e at l.invariant in
    let r = drain_ended D in
    ((λ i. record { code = 0; key = 0; site = 0; clock = sym D.count i; value = l.tries }) ∙ sym (ap answered r), sym (ap (λ (w : Drained). w.after) r))
