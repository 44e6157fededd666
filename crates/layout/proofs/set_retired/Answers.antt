use Rattle.layout.specs.State.{state_of}
use Rattle.layout.proofs.Fields.{write_at}
use Rattle.layout.proofs.Places.{retired}
use Rattle.layout.proofs.set_retired.Goals as goal

pub returns : goal.returns
unfolding state_of
returns c = write_at retired c.args.t.now c.args.retired c.told-t
