use Rattle.layout.specs.State.{state_of}
use Rattle.rows.proofs.Stores.{next_is, put_stores}
use Rattle.table.proofs.put_step.Goals as goal

pub returns-clause-after : goal.returns-clause-after
returns-clause-after g c =
    let a = c.args in
    let S = state_of a.t.now in
    put_stores S (g.E.EngineValue.engine a.engine) (state_of c.send.new.t) (state_of c.store_own.new.t) (state_of c.set.new.t) (state_of c.leave_row.new.t) a.s a.x a.v c.after-c.result
    c.send.ensures c.store_own.ensures c.set.ensures c.leave_row.ensures (next_is S a.s a.s c.after-c.ensures c.at.ensures) c.requires.taken
