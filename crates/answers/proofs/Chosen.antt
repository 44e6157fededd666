-- The engine that a value chooses, and its law: what a site has taken on once is taken on. Assumes nothing.
use mathlib.Core.Path.{refl}
use Rattle.laws.specs.Taken.{Takes}
use Rattle.laws.proofs.Taken.{ranked_takes, short_takes}
use Rattle.answers.specs.declared.Engine.{Engine}
use Rattle.answers.specs.declared.Engine.TheVariants.{Ranked, Short}
use Rattle.answers.specs.Answers.{engine_of, Chosen}

pub chosen : Chosen
chosen = (refl, refl)

pub engine_takes : (e : Engine) → Takes (engine_of e)
engine_takes Ranked = ranked_takes
engine_takes Short = short_takes
