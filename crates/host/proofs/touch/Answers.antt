use Rattle.std.proofs.Common.{ap, ◌∙◌, rules, arith}
use Rattle.rules.specs.Refusals.{touch_words}
use Rattle.rules.specs.Calls.{Touch}
use Rattle.reply.specs.Told.{behind}
use Rattle.host.specs.Host.{left}
use Rattle.host.proofs.Hosts.{behind_words, hosts_nothing, hosts_call}
use Rattle.host.proofs.touch.Goals as goal

pub returns-in_default : goal.returns-in_default
returns-in_default g c =
    let a = c.args in
    let code = c.wrong_size.ensures ∙ ap behind c.new.ensures.refusal ∙ behind_words (touch_words a.hour a.toucher a.tier) (omega arith) in
    (λ i. left (code i) a.table.now a.reply.now)
    ∙ hosts_nothing (g.E.EngineValue.engine a.engine) a.table.now a.reply.now (Touch a.site a.key a.hour a.toucher a.tier) (search rules)

pub returns : goal.returns
returns g c =
    let a = c.args in
    hosts_call (g.E.EngineValue.engine a.engine) a.table.now a.reply.now (Touch a.site a.key a.hour a.toucher a.tier) c.touch-a.result (search rules) c.touch-a.ensures c.answer.ensures
