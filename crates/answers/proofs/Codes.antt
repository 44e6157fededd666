-- Refusals that are asked in turn: where none of the first holds the next are asked, else the answer stands. Assumes nothing.
use mathlib.Core.Path.{◌≡◌, refl, ◌∙◌}
use mathlib.Core.Bool.{Bool, true, false}
use mathlib.Core.List.{[], ◌∷◌, ◌++◌}
use mathlib.Core.Logic.{◌≢◌}
use Rattle.std.specs.Prelude.{Ok, Err}
use Rattle.std.specs.Result.{is_ok}
use native.Mathlib.Omega.{arith}
use Rattle.clock.specs.Map.{when◌then◌else◌}
use Rattle.rules.specs.Refusals.{Refusals, first}
use Rattle.laws.proofs.Given.{Avoids}
use Rattle.answers.specs.declared.Refusal.{Refusal}
use Rattle.answers.specs.declared.Refusal.TheVariants.{Size, Unsound, Counts, Site, Same, Key, Spent, Full, NoNext, Unused, NoRecord, OutOfRange, Changed, Retired, LastLive}
use Rattle.answers.specs.declared.Unserved.TheVariants.{Refused, Missing, Stopped}
use Rattle.answers.specs.declared.Done.TheVariants.{Call, Drain}
use Rattle.answers.specs.Answers.{Answer, code_of, numbers_of}

pub first_then : (ps qs : Refusals) → Avoids 0 ps → first ps ≡ 0 → first qs ≡ first (ps ++ qs)
first_then [] qs h e = refl
first_then (p ∷ ps) qs h e = go p.1 refl e (first_then ps qs h.1)
  where
    go : (t : Bool) → p.1 ≡ t → (when t then p.0 else first ps) ≡ 0 → (first ps ≡ 0 → first qs ≡ first (ps ++ qs)) → first qs ≡ (when p.1 then p.0 else first (ps ++ qs))
    go true f z r = absurd (h.0 z)
    go false f z r = rw f (r z)

pub first_stop : (ps qs : Refusals) → first ps ≢ 0 → first ps ≡ first (ps ++ qs)
first_stop [] qs h = absurd (h refl)
first_stop (p ∷ ps) qs h = go p.1 refl h (first_stop ps qs)
  where
    go : (t : Bool) → p.1 ≡ t → (when t then p.0 else first ps) ≢ 0 → (first ps ≢ 0 → first ps ≡ first (ps ++ qs))
        → (when p.1 then p.0 else first ps) ≡ (when p.1 then p.0 else first (ps ++ qs))
    go true f z r = rw f
    go false f z r = rw f (r z)

-- no refusal's code is 0
pub refusing : (r : Refusal) → code_of r ≢ 0
refusing Size h = omega arith
refusing Unsound h = omega arith
refusing Counts h = omega arith
refusing Site h = omega arith
refusing Same h = omega arith
refusing Key h = omega arith
refusing Spent h = omega arith
refusing Full h = omega arith
refusing NoNext h = omega arith
refusing Unused h = omega arith
refusing NoRecord h = omega arith
refusing OutOfRange h = omega arith
refusing Changed h = omega arith
refusing Retired h = omega arith
refusing LastLive h = omega arith

-- the code of an answer is 0 exactly where the call is served
pub served_zero : (r : Answer) → true ≡ is_ok r → (numbers_of r).code ≡ 0
served_zero (Ok (Call x s c v)) e = refl
served_zero (Ok (Drain d t)) e = refl
served_zero (Err u) e = cc

pub unserved_not : (r : Answer) → false ≡ is_ok r → (numbers_of r).code ≢ 0
unserved_not (Ok d) e h = cc
unserved_not (Err (Refused r)) e h = refusing r h
unserved_not (Err (Missing j c b)) e h = omega arith
unserved_not (Err (Stopped d t)) e h = omega arith

-- `f(..)?; g(..)`: what f finds stands, whatever g would ask
module _ (ps qs : Refusals) where
  pub asked_stop : (r : Refusal) → code_of r ≡ first ps → code_of r ≡ first (ps ++ qs)
  asked_stop r e = e ∙ first_stop ps qs (λ z. refusing r (e ∙ z))
