use Rattle.std.proofs.Common.{◌≡◌, ℕ, min, sym, ap, ◌∙◌, arith, add-one, nat_le, le-leb}
use mathlib.Core.Bool.{and-false}
use borrow.Author.Tests.{lt-leb}
use Rattle.clock.specs.Map.{when◌then◌else◌, all, bit}
use Rattle.clock.proofs.Below.{all_none, all_more, all_fails}
use Rattle.layout.specs.State.{state_of}
use Rattle.rules.specs.Sound.{smallest}
use Rattle.sound.specs.Checks.{origin_in}
use Rattle.sound.proofs.Origins.{lag_is}
use Rattle.sound.proofs.origins_sound.Goals as goal

pub loop-o-init : goal.loop-o-init
loop-o-init c = all_none _

pub loop-s-init : goal.loop-s-init
unfolding smallest
loop-s-init c = (c.from-top.ensures ∙ c.at.ensures, omega arith, all_none _)

pub loop-s-preserved : goal.loop-s-preserved
unfolding smallest
loop-s-preserved c =
    let l = c.loop-s in
    let o = c.loop-o.o in
    let f = (state_of c.args.t.now).applied in
    let is = c.from-here.ensures ∙ c.at-in-loop-s.ensures in
    let own = c.from-top.ensures ∙ c.at.ensures in
    let count = c.count.ensures ∙ (λ i. when bit (c.requires i) l.s then own i else is i) in (
      rw add-one (c.min-low.ensures ∙ (λ i. min (l.invariant.0 i) (count i))),
      omega (arith, c.min-low.ensures),
      all_more _ _ l.invariant.2 (le-leb (f l.s o) (f o o) (omega (arith, is, own, c.if-top-here.false))),
    )

pub returns-then-top-here : goal.returns-then-top-here
returns-then-top-here c =
    let a = c.args in
    let s = c.loop-s.s in
    let o = c.loop-o.o in
    let f = (state_of a.t.now).applied in
    let above = lt-leb (f s o) (f o o) (omega (arith, c.from-here.ensures ∙ c.at-in-loop-s.ensures, c.from-top.ensures ∙ c.at.ensures, c.if-top-here.true)) in
    sym (all_fails (origin_in (state_of a.t.now) a.counts.sites a.counts.keys) a.counts.sites o (omega arith) (rw (all_fails (λ s. nat_le (f s o) (f o o)) a.counts.sites s (omega arith) above)))

pub loop-o-preserved : goal.loop-o-preserved
loop-o-preserved c =
    let a = c.args in
    let l = c.loop-s in
    let lag = lag_is (state_of a.t.now) a.counts.sites a.counts.keys c.loop-o.o l.s c.lag_sound.ensures l.invariant.0 (omega arith) (c.from-top.ensures ∙ c.at.ensures) in
    let e : l.s ≡ a.counts.sites = omega arith in
    let below = ap (λ (m : ℕ). all m (λ s. nat_le ((state_of a.t.now).applied s c.loop-o.o) ((state_of a.t.now).applied c.loop-o.o c.loop-o.o))) (sym e) ∙ l.invariant.2 in
    all_more _ _ c.loop-o.invariant (rw below (sym lag ∙ c.if-not-lag_sound.false))

pub returns-then-not-lag_sound : goal.returns-then-not-lag_sound
returns-then-not-lag_sound c =
    let a = c.args in
    let l = c.loop-s in
    let o = c.loop-o.o in
    let S = state_of a.t.now in
    let lag = lag_is S a.counts.sites a.counts.keys o l.s c.lag_sound.ensures l.invariant.0 (omega arith) (c.from-top.ensures ∙ c.at.ensures) in
    sym (all_fails (origin_in S a.counts.sites a.counts.keys) a.counts.sites o (omega arith)
    (rw (sym lag ∙ c.if-not-lag_sound.true) (and-false (all a.counts.sites (λ s. nat_le (S.applied s o) (S.applied o o))))))
