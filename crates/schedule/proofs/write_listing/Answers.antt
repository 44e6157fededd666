use Rattle.std.proofs.Common.{◌≡◌, ◌∙◌, ap, get_or, get_or-take, rules, arith}
use Rattle.laws.proofs.Outcomes.{outcome}
use Rattle.layout.specs.State.{all_zero}
use Rattle.rules.specs.Engine.{ours}
use Rattle.rules.specs.Calls.{Open, run}
use Rattle.answers.specs.Answers.{served}
use Rattle.answers.proofs.Codes.{served_zero, unserved_not}
use Rattle.schedule.specs.Text.{end_line, cut_line}
use Rattle.schedule.proofs.Going.{listing_cut, listing_refused, listing_opened}
use Rattle.schedule.proofs.Playing.{open_zeros}
use Rattle.schedule.proofs.Writing.{adds_then}
use Rattle.schedule.proofs.write_listing.Goals.{then-is_ok, else-is_ok}
use Rattle.schedule.proofs.write_listing.Goals as goal

pub returns-in_default-clause-written : goal.returns-in_default-clause-written
unfolding cut_line
returns-in_default-clause-written c = rw (listing_cut c.args.input.now (search rules)) c.last_line.ensures.text_written

opens : (c : goal.Joined-is_ok) → outcome (served c.open-opened.result c.open-opened.new.t) ≡ run ours all_zero (Open (get_or c.args.input.now 0 0) (get_or c.args.input.now 1 0))
opens c =
    let l = c.args.input.now in
    let header = c.in-Some.ensures.cases.0 in
    let n : c.from.result ≡ get_or l 0 0 = c.from.ensures ∙ ap (λ h. get_or h 0 0) header ∙ get_or-take 2 l 0 0 (omega arith) in
    let k : c.from-2.result ≡ get_or l 1 0 = c.from-2.ensures ∙ ap (λ h. get_or h 1 0) header ∙ get_or-take 2 l 1 0 (omega arith) in
    ap outcome c.open-opened.ensures
    ∙ open_zeros _ _
    ∙ (λ i. run ours all_zero (Open (n i) (k i)))

pub returns-clause-written : goal.returns-clause-written
unfolding end_line
returns-clause-written c =
    elim c.if-is_ok.branch [
      | then-is_ok w ↦
          rw (listing_opened c.args.input.now _ (opens c) (search rules) (served_zero c.open-opened.result w.if-is_ok.ensures.value), w.output-is)
          (adds_then c.line.ensures.written (rw c.in-Some.ensures.cases.1 at w.steps.ensures)).text_written
      | else-is_ok w ↦
          rw (listing_refused c.args.input.now _ (opens c) (search rules) (unserved_not c.open-opened.result w.if-is_ok.ensures.value), w.output-is)
          (adds_then c.line.ensures.written w.last_line-else-is_ok.ensures).text_written
    ]
