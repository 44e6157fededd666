use Rattle.std.proofs.Common.{length, ap, ◌∙◌, rules, arith}
use Rattle.rules.specs.Refusals.{cold_words}
use Rattle.reply.specs.Told.{behind}
use Rattle.host.proofs.Hosts.{behind_words}
use Rattle.both.specs.ColdHost.{left}
use Rattle.both.proofs.Lists.{lists_nothing, lists_call}
use Rattle.both.proofs.cold_list.cold.Goals as goal

pub returns-in_default : goal.returns-in_default
returns-in_default c =
    let a = c.args in
    let code = c.wrong_size.ensures ∙ ap behind c.words_refusal.ensures ∙ behind_words (cold_words a.hour a.threshold (length a.list.now)) (omega arith) in
    (λ i. left (code i) a.table.now a.list.now a.reply.now) ∙ lists_nothing a.table.now a.list.now a.reply.now a.site a.hour a.threshold (search rules)

pub returns : goal.returns
returns c =
    let a = c.args in
    lists_call a.table.now a.list.now a.reply.now a.site a.hour a.threshold c.cold-a.result (search rules) c.cold-a.ensures c.answer.ensures
