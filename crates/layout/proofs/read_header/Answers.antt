use Rattle.layout.specs.State.{state_of}
use Rattle.layout.proofs.Fields.{read_byte}
use Rattle.layout.proofs.Places.{n_byte, k_byte, retired, byte3}
use Rattle.layout.proofs.read_header.Goals as goal

pub returns : goal.returns
unfolding state_of
returns c =
    let t = c.args.t.now in
    record { n = read_byte n_byte t; k = read_byte k_byte t; retired = read_byte retired t; byte3 = read_byte byte3 t }
