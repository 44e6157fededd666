use Rattle.std.proofs.Common.{◌≡◌, ◌&&◌, ℕ, Bool, sym, ap, ◌∙◌, rules, arith}
use mathlib.Core.Bool.{and-true}
use Rattle.clock.specs.Map.{all}
use Rattle.clock.proofs.Below.{all_none, all_more, all_done, all_fails}
use Rattle.layout.specs.State.{state_of}
use Rattle.layout.proofs.Places.{clock_read, tag_read}
use Rattle.sound.specs.Checks.{none_in, written_in}
use Rattle.sound.proofs.Bytes.{blank_here, put_here, all_next}
use Rattle.sound.proofs.entries_sound.Goals as goal
use Rattle.sound.proofs.entries_sound.Goals.{then-clock-eq0, else-clock-eq0+else-not-applied_here}

pub loop-s-init : goal.loop-s-init
loop-s-init c = all_none _

pub loop-x-init : goal.loop-x-init
loop-x-init c = all_none _ ∙ sym c.none-stray.ensures

pub and-stray-requires : goal.and-stray-requires
and-stray-requires c = (search rules, sym (c.read_clock-clock.ensures ∙ clock_read _) ∙ c.if-clock-eq0.true)

pub loop-x-preserved : goal.loop-x-preserved
loop-x-preserved c =
    let a = c.args in
    let s = c.loop-s.s in
    let l = c.loop-x in
    let row = (state_of a.t.now).applied s in
    let clock = c.read_clock-clock.ensures ∙ clock_read _ in
    elim c.if-clock-eq0.branch [
      | then-clock-eq0 w ↦
          let blank = blank_here a.t.now s l.x (omega arith) (omega arith) c.record_place-at.ensures a.counts.sites row (sym clock ∙ w.if-clock-eq0.true) in
          all_next _ l.x ∙ (λ i. l.invariant i && blank i) ∙ sym w.and-stray.ensures ∙ ap none_in (sym w.stray-is)
      | else-clock-eq0+else-not-applied_here w ↦
          let put = put_here a.t.now s l.x (omega arith) (omega arith) c.record_place-at.ensures a.counts.sites row (w.from.ensures ∙ tag_read _) clock w.if-clock-eq0.false in
          all_next _ l.x ∙ (λ i. l.invariant i && (put ∙ sym w.applied_here.ensures ∙ w.if-not-applied_here.false) i) ∙ and-true (none_in l.stray) ∙ ap none_in (sym w.stray-is)
    ]

pub loop-s-preserved : goal.loop-s-preserved
loop-s-preserved c =
    let l = c.loop-x in
    all_more _ _ c.loop-s.invariant (all_done _ _ _ (omega arith) (omega arith) (l.invariant ∙ sym c.is_none.ensures ∙ c.if-not-is_none.false))

pub returns-then-not-applied_here : goal.returns-then-not-applied_here
returns-then-not-applied_here c =
    let a = c.args in
    let s = c.loop-s.s in
    let x = c.loop-x.x in
    let put = put_here a.t.now s x (omega arith) (omega arith) c.record_place-at.ensures a.counts.sites ((state_of a.t.now).applied s) (c.from.ensures ∙ tag_read _) (c.read_clock-clock.ensures ∙ clock_read _) c.if-clock-eq0.false in
    sym (all_fails _ _ s (omega arith) (all_fails _ _ x (omega arith) (put ∙ sym c.applied_here.ensures ∙ c.if-not-applied_here.true)))

pub returns-then-not-is_none : goal.returns-then-not-is_none
returns-then-not-is_none c =
    let a = c.args in
    let S = state_of a.t.now in
    let s = c.loop-s.s in
    let e : c.loop-x.x ≡ a.counts.keys = omega arith in
    let row : ℕ → Bool = λ m. all m (λ x. written_in a.counts.sites (S.applied s) (S.store s x)) in
    sym (all_fails _ _ s (omega arith) (ap row (sym e) ∙ c.loop-x.invariant ∙ sym c.is_none.ensures ∙ c.if-not-is_none.true))
