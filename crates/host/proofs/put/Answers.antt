use Rattle.std.proofs.Common.{rules}
use Rattle.rules.specs.Calls.{Put}
use Rattle.host.proofs.Hosts.{hosts_nothing, hosts_call}
use Rattle.host.proofs.put.Goals as goal

pub returns-in_default : goal.returns-in_default
returns-in_default g c =
    let a = c.args in
    hosts_nothing (g.E.EngineValue.engine a.engine) a.table.now a.reply.now (Put a.site a.key a.value) (search rules)

pub returns : goal.returns
returns g c =
    let a = c.args in
    hosts_call (g.E.EngineValue.engine a.engine) a.table.now a.reply.now (Put a.site a.key a.value) c.put-a.result (search rules) c.put-a.ensures c.answer.ensures
