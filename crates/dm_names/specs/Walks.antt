-- What the code has on its way through a unit.
--     source_in walk      the tokens and the numbers of the declarators
use Rattle.dm_names.specs.declared.walk.Walk.{Walk}
use Rattle.dm_names.specs.Seen.{Source}

abbrev pub source_in : Walk → Source
source_in walk = record { tokens = walk.tokens.now; numbers = walk.numbers.now }
