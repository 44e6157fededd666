use Rattle.std.proofs.Common.{sym, ap, ◌∙◌}
use Rattle.layout.specs.State.{Fields, to_entry, state_of}
use Rattle.layout.specs.Records.{entry_of}
use Rattle.rows.proofs.Stores.{learn_none, learn_some}
use Rattle.table.proofs.get_step.Goals as goal

pub returns-then-e-eq0-clause-after : goal.returns-then-e-eq0-clause-after
returns-then-e-eq0-clause-after g c =
    let a = c.args in
    learn_none (state_of a.t.now) (g.E.EngineValue.engine a.engine) a.s a.x (sym (ap (λ (p : Fields). (to_entry p).clock) c.record_at-e.ensures) ∙ c.if-e-eq0.true)

pub returns-clause-after : goal.returns-clause-after
returns-clause-after g c =
    let a = c.args in
    let e = c.record_at-e in
    c.learn_row.ensures ∙ learn_some (state_of a.t.now) (g.E.EngineValue.engine a.engine) a.s a.x (entry_of e.result) (ap to_entry e.ensures) c.if-e-eq0.false
