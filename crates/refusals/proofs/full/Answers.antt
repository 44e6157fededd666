use Rattle.std.proofs.Common.{◌≡◌, ℕ, ◌+◌, ◌==◌, ◌&&◌, not, sym, ap, ◌∙◌, arith}
use Rattle.clock.proofs.Below.{any_nil, any_more, any_found}
use Rattle.layout.specs.State.{state_of}
use Rattle.rules.specs.Live.{gone}
use Rattle.refusals.proofs.full.Goals as goal
use Rattle.refusals.proofs.full.Goals.{After-lags}

pub loop-i-init : goal.loop-i-init
loop-i-init c = any_nil _

-- a site as the loop tests it
tested : (c : After-lags) → let S = state_of c.args.t.now in c.lags.result ≡ (not (gone S c.loop-i.i) && (S.applied c.loop-i.i c.args.s + 16 == S.applied c.args.s c.args.s))
tested c =
    let S = state_of c.args.t.now in
    c.lags.ensures ∙ ap (λ (m : ℕ). not (gone S c.loop-i.i) && (S.applied c.loop-i.i c.args.s + 16 == m)) (c.from-top.ensures ∙ c.at.ensures)

pub returns-then-lags : goal.returns-then-lags
returns-then-lags c = sym (any_found _ c.args.n c.loop-i.i (omega arith) (sym (tested (goal.at.returns-then-lags c).After-lags) ∙ c.if-lags.true))

pub loop-i-preserved : goal.loop-i-preserved
loop-i-preserved c = any_more _ _ c.loop-i.invariant (sym (tested (goal.at.loop-i-preserved c).After-lags) ∙ c.if-lags.false)
