-- The five numbers of an answer. Assumes nothing.
use Rattle.rules.specs.Steps.{Numbers}
use Rattle.numbers.specs.declared.Five.{Five}

abbrev pub five_of : Five → Numbers
five_of x = record { code = x.code; key = x.key; site = x.site; clock = x.clock; value = x.value }
