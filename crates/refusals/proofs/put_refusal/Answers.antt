use Rattle.std.proofs.Common.{rules, refl}
use Rattle.rules.specs.Calls.{Put}
use Rattle.refusals.proofs.Lent.{size_asked, inside_asked}
use Rattle.refusals.proofs.put_refusal.Goals as goal

pub returns-in_err-ok_or : goal.returns-in_err-ok_or
returns-in_err-ok_or c = size_asked c.args.t.now (Put c.args.s c.args.x 0) _ (search rules) (search rules) refl

pub returns : goal.returns
returns c = inside_asked c.args.t.now (Put c.args.s c.args.x 0) _ (search rules) (search rules) _ c.put_refusal.ensures
