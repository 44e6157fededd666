use Rattle.std.proofs.Common.{◌≡◌, true, false, refl, ◌∙◌, rules, arith}
use Rattle.layout.specs.State.{with_counts}
use Rattle.layout.specs.Ranges.{Bytes}
use Rattle.rules.specs.Engine.{ours}
use Rattle.rules.specs.Steps.{opened}
use Rattle.rules.specs.Refusals.{open_refusals}
use Rattle.rules.specs.Calls.{Open, step, refusals}
use Rattle.answers.specs.declared.Refusal.TheVariants.{Counts}
use Rattle.answers.proofs.Serves.{other_size, refused_inside, step_taken}
use Rattle.sound.specs.Checks.{range_in}
use Rattle.table.proofs.open.Goals as goal

pub returns-in_err-t : goal.returns-in_err-t
returns-in_err-t c = other_size ours _ (Open c.args.n c.args.k) _ (search rules) (search rules) refl

pub returns-in_err-counts : goal.returns-in_err-counts
unfolding refusals open_refusals
returns-in_err-counts c =
    let e : range_in c.args.n c.args.k ≡ false = search rules in
    refused_inside ours _ (Open c.args.n c.args.k) _ (search rules) (search rules) _ Counts (search rules) (rw e)

pub returns : goal.returns
unfolding Bytes step refusals open_refusals opened
returns c =
    let a = c.args in
    let e : range_in a.n a.k ≡ true = search rules in
    let counts = c.in_ok-counts.counts in
    let sites : counts.sites ≡ a.n = search rules in
    let keys : counts.keys ≡ a.k = search rules in
    step_taken ours a.t.now (Open a.n a.k) c.in_ok-t.t.now (search rules) (search rules) _ _ (search rules) (λ i. omega (arith, c.type_inv.t i)) (rw e) refl
    (c.set_counts.ensures ∙ (λ i. with_counts (c.clear.ensures i) (sites i) (keys i)))
