-- What stands there.
use Rattle.std.proofs.Common.{not, ap, ◌∙◌}
use Rattle.dm_sites.specs.Links.{passes}
use Rattle.dm_beside.specs.Places.{is_read}
use Rattle.dm_beside.proofs.places.is_read.Goals as goal

pub returns-in-Some : goal.returns-in-Some
returns-in-Some c types = ap not (c.is_lvalue.ensures types) ∙ ap (passes is_read) (c.in-Some.ensures types)
