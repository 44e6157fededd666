use Rattle.std.proofs.Common.{rules}
use Rattle.rules.specs.Engine.{ours}
use Rattle.rules.specs.Calls.{Retire}
use Rattle.host.proofs.Hosts.{hosts_nothing, hosts_call}
use Rattle.both.proofs.retire.Goals as goal

pub returns-in_default : goal.returns-in_default
returns-in_default c =
    let a = c.args in
    hosts_nothing ours a.table.now a.reply.now (Retire a.site) (search rules)

pub returns : goal.returns
returns c =
    let a = c.args in
    hosts_call ours a.table.now a.reply.now (Retire a.site) c.retire-a.result (search rules) c.retire-a.ensures c.answer.ensures
