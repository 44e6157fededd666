use Rattle.std.proofs.Common.{◌≡◌, ◌≢◌, length, refl, sym, ap, ◌∙◌, rules, arith}
use Rattle.layout.specs.State.{state_of, table}
use Rattle.layout.specs.Ranges.{Bytes}
use Rattle.rules.specs.Engine.{ours}
use Rattle.rules.specs.Touch.{kinds_at, cold_list}
use Rattle.rules.specs.Steps.{done, cold}
use Rattle.rules.specs.Refusals.{first, cold_words}
use Rattle.rules.specs.Calls.{Call, Cold, step, refusals}
use Rattle.laws.proofs.Ready.{drain_ready}
use Rattle.answers.specs.declared.Refusal.TheVariants.{Size, OutOfRange}
use Rattle.answers.proofs.Serves.{other_size, refused_words, size_behind, inside_behind, refused_inside, step_taken}
use Rattle.cold.specs.Tally.{Tally}
use Rattle.cold.proofs.Listing.{lists_refused, lists_step}
use Rattle.cold.proofs.cold.Goals as goal

pub returns-in_err-list : goal.returns-in_err-list
returns-in_err-list c =
    let a = c.args in
    let l = a.list.now in
    let h : length a.list.now ≢ 64 = search rules in
    let z : 14 ≡ first (cold_words a.hour a.threshold (length l)) = grind (arith, h) in
    lists_refused a.t.now l a.s a.hour a.threshold _ OutOfRange (search rules)
    (refused_words ours _ (Cold a.s a.hour a.threshold (length l)) _ OutOfRange (search rules) z)

pub returns-in_err-hours : goal.returns-in_err-hours
returns-in_err-hours c =
    let a = c.args in
    let l = c.in_ok-list.list.now in
    let w = c.in_err-hours in
    let e : a.list.now ≡ c.in_ok-list.list.now = search rules in
    let n : length c.in_ok-list.list.now ≡ 64 = search rules in
    rw e (lists_refused a.t.now l a.s a.hour a.threshold _ w.field-0.0 (search rules)
    (refused_words ours _ (Cold a.s a.hour a.threshold (length l)) _ w.field-0.0 (search rules) (rw n w.ensures.refusal)))

pub returns-in_err-t : goal.returns-in_err-t
returns-in_err-t c =
    let a = c.args in
    let l = c.in_ok-list.list.now in
    let e : a.list.now ≡ c.in_ok-list.list.now = search rules in
    let n : length c.in_ok-list.list.now ≡ 64 = search rules in
    let call : Call = Cold a.s a.hour a.threshold (length l) in
    let z : 0 ≡ first (cold_words a.hour a.threshold (length l)) = rw n c.in_ok-hours.ensures.refusal in
    rw e (lists_refused a.t.now l a.s a.hour a.threshold _ Size (search rules)
    (other_size ours _ call _ (search rules) (search rules) (size_behind ours a.t.now call z)))

pub returns-in_err-counts : goal.returns-in_err-counts
unfolding refusals
returns-in_err-counts c =
    let a = c.args in
    let l = c.in_ok-list.list.now in
    let w = c.in_err-counts in
    let e : a.list.now ≡ c.in_ok-list.list.now = search rules in
    let n : length c.in_ok-list.list.now ≡ 64 = search rules in
    let same : a.t.now ≡ c.in_ok-t.t.now = search rules in
    let size : length c.in_ok-t.t.now ≡ table.width = search rules in
    let call : Call = Cold a.s a.hour a.threshold (length l) in
    let S = state_of c.in_ok-t.t.now in
    let z : 0 ≡ first (cold_words a.hour a.threshold (length l)) = rw n c.in_ok-hours.ensures.refusal in
    rw (e, same) (lists_refused c.in_ok-t.t.now l a.s a.hour a.threshold _ w.field-0.0 (search rules)
    (refused_inside ours _ call _ refl size _ w.field-0.0 (search rules) (w.ensures.refusal ∙ inside_behind ours c.in_ok-t.t.now call S z)))

pub tally-c-requires : goal.tally-c-requires
unfolding refusals
tally-c-requires c =
    let R = (drain_ready (state_of c.in_ok-t.t.now) c.args.s).0 (sym c.in_ok-counts.ensures.refusal) in
    omega (arith, R.site, R.sound.sites)

pub returns : goal.returns
unfolding Bytes step refusals cold cold_list
returns c =
    let a = c.args in
    let l = c.in_ok-list.list.now in
    let e : a.list.now ≡ c.in_ok-list.list.now = search rules in
    let n : length c.in_ok-list.list.now ≡ 64 = search rules in
    let same : a.t.now ≡ c.in_ok-t.t.now = search rules in
    let size : length c.in_ok-t.t.now ≡ table.width = search rules in
    let call : Call = Cold a.s a.hour a.threshold (length l) in
    let S = state_of c.in_ok-t.t.now in
    let h = c.in_ok-hours.ensures in
    let k = c.in_ok-counts.ensures in
    let z : 0 ≡ first (cold_words a.hour a.threshold (length l)) = rw n h.refusal in
    let w = c.tally-c in
    let T : Tally (kinds_at S a.s a.hour a.threshold) S.k w.new.list w.result = rw (h.hours.0, h.hours.1, k.counts.keys) at w.ensures in
    let m = c.from.ensures ∙ T.malformed in
    rw e (lists_step a.t.now l a.s a.hour a.threshold _ w.new.list refl
    (step_taken ours _ call _ same size _ a.t.now (rw same size) (λ i. omega (arith, c.type_inv.t i)) (k.refusal ∙ inside_behind ours a.t.now call S z)
    (λ i. done (T.listed i) (T.ahead i) (m i) 0) (ap state_of same))
    (T.list ∙ (λ i. cold_list (state_of (sym same i)) a.s a.hour a.threshold)))
