use Rattle.std.proofs.Common.{rules}
use Rattle.rules.specs.Engine.{ours}
use Rattle.rules.specs.Calls.{Look}
use Rattle.host.proofs.Hosts.{hosts_nothing, hosts_call}
use Rattle.both.proofs.look.Goals as goal

pub returns-in_default : goal.returns-in_default
returns-in_default c =
    let a = c.args in
    hosts_nothing ours a.table.now a.reply.now (Look a.site a.key) (search rules)

pub returns : goal.returns
returns c =
    let a = c.args in
    hosts_call ours a.table.now a.reply.now (Look a.site a.key) c.look-a.result (search rules) c.look-a.ensures c.answer.ensures
