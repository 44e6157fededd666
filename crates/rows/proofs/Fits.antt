-- What the stores of a get, an adopt and a put rely on, of the entry at hand. Assumes nothing.
use Prim.Native.Nat.{ℕ}
use native.Mathlib.Omega.{arith}
use Rattle.layout.specs.State.{State}
use Rattle.laws.proofs.Ready.{GetReady}
use Rattle.laws.proofs.Keeps.{get_origin}
use Rattle.rows.specs.Rows.{GetFits}

pub get_fits : (S : State) (s x : ℕ) → GetReady S s x → GetFits S s x
get_fits S s x R =
    let n = R.sound.sites in
    record { site = omega (arith, R.site, n); key = omega (arith, R.key, R.sound.keys); origin = omega (arith, get_origin S s x R, n) }
