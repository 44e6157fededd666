use Rattle.std.proofs.Common.{◌≡◌, ◌≢◌, ◌∙◌, sym, ap, ◌+◌, Err, rules}
use Rattle.layout.specs.State.{to_update, state_of}
use Rattle.rules.specs.Steps.{Outcome, refused, done, deliver}
use Rattle.clock.proofs.Compares.{found_within, found_beyond}
use Rattle.answers.specs.Answers.{numbers_of}
use Rattle.deliver.proofs.Tries.{try_nine, try_ten, try_done, differ, next_update, compared, deliver_fits}
use Rattle.deliver.proofs.attempt.Goals as goal

pub returns-then-here-at : goal.returns-then-here-at
returns-then-here-at g c =
    let a = c.args in
    let h = c.requires in
    let r = try_nine (g.E.EngineValue.engine a.engine) (state_of a.t.now) a.s a.o h.sound h.site h.origin h.others h.live (sym c.at-here.ensures ∙ c.if-here-at.true ∙ c.at.ensures) in
    let e : numbers_of (Err c.into.result) ≡ refused 9 = search rules in
    (e ∙ sym (ap (λ (w : Outcome). w.answer) r), sym (ap (λ (w : Outcome). w.after) r))

pub deliver_step-requires : goal.deliver_step-requires
deliver_step-requires g c =
    let a = c.args in
    let u = c.record_at-u in
    let here = c.at-here.ensures in
    deliver_fits (state_of a.t.now) a.s a.o c.requires (differ here c.at.ensures c.if-here-at.false) u.result _ (ap to_update u.ensures)
    (c.from.ensures ∙ here) _ (c.after-c.ensures ∙ ap (λ m. m + 1) here)

pub returns-in_err-causes : goal.returns-in_err-causes
returns-in_err-causes g c =
    let a = c.args in
    let h = c.requires in
    let u = c.record_at-u in
    let here = c.at-here.ensures in
    let behind : (state_of a.t.now).applied a.s a.o ≢ (state_of a.t.now).applied a.o a.o = differ here c.at.ensures c.if-here-at.false in
    let e = compared (state_of a.t.now) a.s a.o h behind u.result _ (ap to_update u.ensures) (c.from.ensures ∙ here) _ c.in_err-causes.ensures in
    let b = found_beyond _ _ _ e in
    let r = try_ten (g.E.EngineValue.engine a.engine) (state_of a.t.now) a.s a.o h.sound h.site h.origin h.others h.live behind b.0 in
    let e : numbers_of c.from_residual.result ≡ record { code = 10; key = 0; site = c.in_err-causes.field-0.0.column; clock = c.in_err-causes.field-0.0.number; value = c.in_err-causes.field-0.0.mask } = search rules in (
      e ∙ (λ i. record { code = 10; key = 0; site = (b.1 i).column; clock = (b.1 i).number; value = (b.1 i).mask }) ∙ sym (ap (λ (w : Outcome). w.answer) r),
      sym (ap (λ (w : Outcome). w.after) r),
    )

pub returns : goal.returns
unfolding deliver
returns g c =
    let a = c.args in
    let h = c.requires in
    let u = c.record_at-u in
    let here = c.at-here.ensures in
    let behind : (state_of a.t.now).applied a.s a.o ≢ (state_of a.t.now).applied a.o a.o = differ here c.at.ensures c.if-here-at.false in
    let place = c.from.ensures ∙ here in
    let found = ap to_update u.ensures in
    let nu = next_update (state_of a.t.now) a.s a.o h behind u.result _ found place in
    let e = compared (state_of a.t.now) a.s a.o h behind u.result _ found place _ c.in_ok-causes.ensures in
    let fits = deliver_fits (state_of a.t.now) a.s a.o h behind u.result _ found place _ (c.after-c.ensures ∙ ap (λ m. m + 1) here) in
    let r = try_done (g.E.EngineValue.engine a.engine) (state_of a.t.now) a.s a.o h.sound h.site h.origin h.others h.live behind (found_within _ _ e) in (
      (λ i. done (nu i).key a.o (fits.clock i) (nu i).value) ∙ sym (ap (λ (w : Outcome). w.answer) r),
      c.deliver_step.ensures ∙ sym (ap (λ (w : Outcome). w.after) r),
    )
