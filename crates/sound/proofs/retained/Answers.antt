use Rattle.std.proofs.Common.{◌≡◌, ℕ, Bool, suc, ◌+◌, ◌-◌, ap, ◌∙◌, rules, arith}
use Rattle.clock.specs.Map.{all}
use Rattle.clock.proofs.Below.{all_ran}
use Rattle.layout.specs.State.{state_of}
use Rattle.rules.specs.Sound.{place}
use Rattle.sound.specs.Checks.{held_in}
use Rattle.sound.proofs.retained.Goals as goal

pub returns : goal.returns
returns c =
    let a = c.args in
    let p : ℕ → Bool = λ c. held_in a.k c ((state_of a.t.now).updates a.o (place c)) in
    let next : (i : ℕ) → suc (a.low + i) ≡ a.low + suc i = λ i. omega arith in
    let ran : c.all.result ≡ all (a.top - a.low) (λ i. p (suc (a.low + i))) = all_ran (λ c. p (suc c)) c.all.ensures.ran (λ i b q k. search rules) in
    ran ∙ ap (all (a.top - a.low)) (λ j i. p (next i j))
