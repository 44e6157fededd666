-- What the steps of a touch may rely on, where no condition of it holds. Assumes nothing.
use mathlib.Core.Path.{◌≡◌, sym, subst, ◌∙◌}
use Prim.Native.Nat.{ℕ}
use native.Mathlib.Omega.{arith}
use Rattle.layout.specs.State.{State}
use Rattle.rules.specs.Engine.{Engine}
use Rattle.rules.specs.Steps.{learn}
use Rattle.rules.specs.Refusals.{first, touch_words, touch_refusals}
use Rattle.rules.specs.Calls.{Touch, refusals}
use Rattle.laws.specs.Taken.{Takes}
use Rattle.laws.proofs.Ready.{PutReady, gets_too, TouchReady, touch_ready}
use Rattle.laws.proofs.Touching.{learn_apart, apart_ready}
use Rattle.answers.proofs.Codes.{first_then}
use Rattle.rows.specs.Rows.{GetFits}
use Rattle.rows.proofs.Fits.{get_fits}
use Rattle.rows.proofs.Sending.{learn_taken}
use Rattle.table.specs.Fits.{PutFits}

-- what the get has taken on is taken on
pub put_fits : (E : Engine) → Takes E → (S T : State) (s x : ℕ) → PutReady S s x → T ≡ learn E S s x → PutFits E T s x
put_fits E K S T s x R e =
    let f : GetFits S s x = get_fits S s x (gets_too R) in
    subst (λ (T : State). PutFits E T s x) (sym e)
    (record { site = f.site; key = f.key; clock = (apart_ready (learn_apart E S s x) R).clock; taken = learn_taken S s x E K })

-- neither the call's own numbers nor the table are refused, for a toucher of that number
module _ (S : State) (s x hour u r : ℕ) {v : ℕ} (words : 0 ≡ first (touch_words hour u r)) (toucher : v ≡ u) (table : 0 ≡ first (touch_refusals S s x v)) where
  pub clear : 0 ≡ first (refusals S (Touch s x hour u r))
  unfolding refusals
  clear = table ∙ (λ i. first (touch_refusals S s x (toucher i))) ∙ first_then (touch_words hour u r) (touch_refusals S s x u) (omega arith) (sym words)

  pub ready : TouchReady S s x hour u r
  ready = touch_ready S s x hour u r (sym clear)
