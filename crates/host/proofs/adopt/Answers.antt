use Rattle.std.proofs.Common.{rules}
use Rattle.rules.specs.Calls.{Adopt}
use Rattle.host.proofs.Hosts.{hosts_nothing, hosts_call}
use Rattle.host.proofs.adopt.Goals as goal

pub returns-in_default : goal.returns-in_default
returns-in_default g c =
    let a = c.args in
    hosts_nothing (g.E.EngineValue.engine a.engine) a.table.now a.reply.now (Adopt a.site a.key a.origin a.clock) (search rules)

pub returns : goal.returns
returns g c =
    let a = c.args in
    hosts_call (g.E.EngineValue.engine a.engine) a.table.now a.reply.now (Adopt a.site a.key a.origin a.clock) c.adopt-a.result (search rules) c.adopt-a.ensures c.answer.ensures
