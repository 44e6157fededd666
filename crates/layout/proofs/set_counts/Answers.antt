use Rattle.std.proofs.Common.{◌∙◌, ap, rules}
use Rattle.layout.specs.State.{State, to_state, of_state, state_of}
use Rattle.layout.proofs.Fields.{write_at}
use Rattle.layout.proofs.Places.{n_byte, k_byte}
use Rattle.layout.proofs.set_counts.Goals as goal

pub returns : goal.returns
unfolding state_of
returns c =
    let a = c.args in
    write_at k_byte _ a.k (search rules) ∙ ap (λ (S : State). to_state (S.n, (a.k, (of_state S).1.1))) (write_at n_byte a.t.now a.n c.told-t)
