-- A site is retired where another is live: byte 2 with its bit tells. Assumes nothing.
use mathlib.Core.Path.{◌≡◌, sym, ap, ◌∙◌}
use mathlib.Core.Bool.{Bool, not}
use mathlib.Core.List.{[], ◌∷◌}
use mathlib.Core.Logic.{◌≢◌}
use Prim.Native.Nat.{ℕ, suc, ◌+◌, ◌^◌, ◌<◌}
use native.Mathlib.Omega.{arith}
use lib.Dec.{ltb}
use Rattle.clock.specs.Map.{bit}
use Rattle.clock.proofs.Maps.{both}
use Rattle.clock.proofs.Says.{says_same, says_lt, says_not}
use Rattle.layout.specs.State.{State}
use Rattle.rules.specs.Refusals.{first, last, site_refusals, retire_refusals}
use Rattle.laws.proofs.Bits.{bit_own, bit_other, bit_below, clear_below, clear_found, two_most}
use Rattle.laws.proofs.Ready.{DrainReady, last_denies, retire_ready}
use Rattle.retire.specs.Fits.{RetireFits}
use Rattle.answers.proofs.Codes.{first_then}

module _ (S : State) (s : ℕ) (R : DrainReady S s) where
  room : S.retired + 2 ^ s < 2 ^ S.n
  room = bit_below S.n s S.retired R.sound.retired R.site R.live

  pub another : not (last S s) ≡ ltb (suc (S.retired + 2 ^ s)) (2 ^ S.n)
  another =
      says_same (says_not (last_denies S s)) (says_lt (suc (S.retired + 2 ^ s)) (2 ^ S.n)) (
        (λ (t, (h, live), other). clear_below S.n t (S.retired + 2 ^ s) room h (bit_other S.retired s t R.live (λ e. other (sym e)) ∙ live)),
        λ z.
            let (t, h, clear) = clear_found S.n (S.retired + 2 ^ s) z in
            let other : s ≢ t = λ e. both (ap (bit (S.retired + 2 ^ s)) (sym e) ∙ bit_own S.retired s R.live) clear in
            (t, (h, sym (bit_other S.retired s t R.live other) ∙ clear), λ e. other (sym e)),
      )

  pub site_fits : RetireFits S s
  site_fits = let n = R.sound.sites in record { site = omega (arith, R.site, n); room = omega (arith, room, two_most S.n 8 n.1) }

-- neither 2, 4 nor 16: 17 is left to ask
pub retire_asks : (S : State) (s : ℕ) (b : Bool) → last S s ≡ b → first (site_refusals S s) ≡ 0 → first ((17, b) ∷ []) ≡ first (retire_refusals S s)
unfolding site_refusals retire_refusals
retire_asks S s b e z = rw e (first_then (site_refusals S s) ((17, b) ∷ []) (omega arith) z)

pub retire_fits : (S : State) (s : ℕ) → first (retire_refusals S s) ≡ 0 → RetireFits S s
retire_fits S s z = let R = (retire_ready S s).0 z in site_fits S s (record { sound = R.sound; site = R.site; live = R.live })
