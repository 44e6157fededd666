-- Both engines keep what they have taken on. Assumes nothing.
use mathlib.Core.Path.{◌≡◌, refl, fun_ext}
use mathlib.Core.Bool.{Bool, true, false}
use Prim.Native.Nat.{ℕ, max}
use native.Mathlib.Omega.{arith}
use lib.Dec.{eqb}
use Rattle.clock.specs.Map.{when◌then◌else◌}
use Rattle.clock.specs.Vector.{Vector, join}
use Rattle.clock.proofs.Maps.{choice, at_same}
use Rattle.layout.specs.State.{Entry}
use Rattle.rules.specs.Engine.{taken_on, ranked, short}
use Rattle.laws.specs.Taken.{Takes}

taken_again : (d : Vector) (e : Entry) → taken_on (taken_on d e) e ≡ taken_on d e
taken_again d e = fun_ext λ j. go j (eqb e.origin j)
  where
    go : (j : ℕ) (t : Bool)
        → (when t then max (max (taken_on d e e.origin) (e.depends e.origin)) e.clock else max (when t then max (join d e.depends e.origin) e.clock else join d e.depends j) (e.depends j))
        ≡ (when t then max (join d e.depends e.origin) e.clock else join d e.depends j)
    go j true = rw (at_same (join d e.depends) e.origin (max (join d e.depends e.origin) e.clock)) (omega arith)
    go j false = omega arith

pub ranked_takes : Takes ranked
ranked_takes =
    record {
      again = λ d e. choice (eqb e.clock 0) (λ (v : Vector). ranked.sent v e ≡ v) (λ z. rw z) (λ z. rw z (taken_again d e));
      got = λ d e. choice (eqb e.clock 0) (λ (v : Vector). v ≡ taken_on d e) (λ z. refl) (λ z. taken_again d e);
      never = λ d e h. rw h;
    }

pub short_takes : Takes short
short_takes = record { again = λ d e. refl; got = λ d e. refl; never = λ d e h. refl }
