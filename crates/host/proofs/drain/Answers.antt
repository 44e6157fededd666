use Rattle.std.proofs.Common.{ℕ, min, ap, ◌∙◌, rules}
use Rattle.rules.specs.Calls.{Drain, serve}
use Rattle.host.specs.Host.{most_tries}
use Rattle.host.proofs.Hosts.{hosts_nothing, hosts_call}
use Rattle.host.proofs.drain.Goals as goal

pub returns-in_default : goal.returns-in_default
returns-in_default g c =
    let a = c.args in
    hosts_nothing (g.E.EngineValue.engine a.engine) a.table.now a.reply.now (Drain a.site (min a.budget most_tries)) (search rules)

pub returns : goal.returns
returns g c =
    let a = c.args in
    let E = g.E.EngineValue.engine a.engine in
    hosts_call E a.table.now a.reply.now (Drain a.site (min a.budget most_tries)) c.drain-a.result (search rules)
    (c.drain-a.ensures ∙ ap (λ (b : ℕ). serve E a.table.now (Drain a.site b)) c.tries_allowed.ensures) c.answer.ensures
