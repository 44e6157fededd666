use Rattle.std.proofs.Common.{arith}
use Rattle.clock.proofs.Compares.{down_start, down_doubles, down_takes, down_leaves, is_within, is_beyond}
use Rattle.clock.proofs.Clock.compare.Goals as goal

pub loop-i-init : goal.loop-i-init
loop-i-init c = down_start _ _

pub overflow_add-mask : goal.overflow_add-mask
overflow_add-mask c = omega (arith, down_doubles _ _ _ _ _ _ (omega arith) c.loop-i.invariant)

pub overflow_add-mask-then-other-i : goal.overflow_add-mask-then-other-i
overflow_add-mask-then-other-i c = omega (arith, down_doubles _ _ _ _ _ _ (omega arith) c.loop-i.invariant)

pub loop-i-preserved-then-other-i : goal.loop-i-preserved-then-other-i
loop-i-preserved-then-other-i c = down_takes _ _ _ _ _ _ _ (omega arith) c.loop-i.invariant c.if-other-i.true

pub loop-i-preserved : goal.loop-i-preserved
loop-i-preserved c = down_leaves _ _ _ _ _ _ _ (omega arith) c.loop-i.invariant c.if-other-i.false

pub returns-then-mask-eq0 : goal.returns-then-mask-eq0
returns-then-mask-eq0 c = is_within _ _ _ _ _ _ (omega arith) c.loop-i.invariant c.if-mask-eq0.true

pub returns : goal.returns
returns c = is_beyond _ _ _ _ _ _ (omega arith) c.loop-i.invariant c.if-mask-eq0.false
