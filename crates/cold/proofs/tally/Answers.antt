use Rattle.std.proofs.Common.{sym, refl, ap, ◌∙◌, add-one, arith}
use Rattle.layout.specs.State.{to_entry}
use Rattle.rules.specs.Touch.{chosen, kind}
use Rattle.cold.proofs.Counting.{tally_small}
use Rattle.cold.proofs.tally.Goals as goal

pub loop-x-init : goal.loop-x-init
unfolding chosen
loop-x-init c = record { list = refl; listed = refl; ahead = refl; malformed = refl }

pub count-c-requires : goal.count-c-requires
count-c-requires c =
    let n = tally_small c.loop-x.invariant in
    omega (arith, c.loop-x-test.true, c.args.counts.few_keys, n.0, n.1, n.2)

pub loop-x-preserved : goal.loop-x-preserved
loop-x-preserved c =
    let l = c.loop-x in
    rw (add-one l.x) (c.count-c.ensures _ (sym (c.kind_at.ensures ∙ ap (kind _ _) (ap to_entry c.record_at-e.ensures))) l.invariant)
