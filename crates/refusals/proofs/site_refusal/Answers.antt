use Rattle.std.proofs.Common.{rules, refl}
use Rattle.rules.specs.Calls.{Drain}
use Rattle.refusals.proofs.Lent.{size_asked, inside_asked}
use Rattle.refusals.proofs.site_refusal.Goals as goal

pub returns-in_err-ok_or-clause-refusal : goal.returns-in_err-ok_or-clause-refusal
returns-in_err-ok_or-clause-refusal c = size_asked c.args.t.now (Drain c.args.s 0) _ (search rules) (search rules) refl

pub returns-clause-refusal : goal.returns-clause-refusal
returns-clause-refusal c = inside_asked c.args.t.now (Drain c.args.s 0) _ (search rules) (search rules) _ c.site_refusal.ensures.refusal
