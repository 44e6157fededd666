-- Which calls do not depend on the engine. Assumes nothing.
use mathlib.Core.Path.{refl}
use Rattle.rules.specs.Calls.{step, serve}
use Rattle.laws.specs.Agreement.{EngineFree}

pub engine_free : EngineFree
unfolding serve step
engine_free = record { opens = λ E F t n k. refl; looks = λ E F t s x. refl; lists = λ E F t s now T m. refl; retires = λ E F t s. refl }
