use Rattle.layout.specs.State.{state_of}
use Rattle.layout.specs.Records.{update_of}
use Rattle.rows.proofs.Stores.{deliver_stores}
use Rattle.deliver.proofs.deliver_step.Goals as goal

pub returns : goal.returns
returns g c =
    let a = c.args in
    deliver_stores (state_of a.t.now) (g.E.EngineValue.engine a.engine) (state_of c.replace.new.t) (state_of c.set.new.t) a.s a.o a.c (update_of a.u)
    c.replace.ensures c.set.ensures c.requires.update c.requires.clock
