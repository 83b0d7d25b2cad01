-- The place of the number that is found.
use Rattle.std.proofs.Common.{◌∙◌}
use Rattle.dm_beside.proofs.places.place_of.Goals as goal

pub returns-in-Some : goal.returns-in-Some
returns-in-Some c types = c.get.ensures types ∙ c.in-Some.ensures types
