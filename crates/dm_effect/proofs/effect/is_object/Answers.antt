-- By the object that is named.
use Rattle.std.proofs.Common.{ap}
use Rattle.dm_effect.specs.Entities.{is_this}
use Rattle.dm_effect.proofs.effect.is_object.Goals as goal

pub returns-in-Some : goal.returns-in-Some
returns-in-Some c types rest = ap (is_this c.args.object) (c.in-Some.ensures types rest)

pub returns-in-None : goal.returns-in-None
returns-in-None c types rest = ap (is_this c.args.object) (c.in-None.ensures types rest)
