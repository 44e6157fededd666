-- What the code's kinds stand for. Assumes nothing.
use Rattle.rules.specs.Touch as kinds
use Rattle.cold.specs.declared.Kind.{Kind}
use Rattle.cold.specs.declared.Kind.TheVariants.{Never, Malformed, Fresh, Cold, Ahead}

abbrev pub meant : Kind → kinds.Kind
meant Never = kinds.never
meant Malformed = kinds.malformed
meant Fresh = kinds.fresh
meant Cold = kinds.cold
meant Ahead = kinds.ahead
