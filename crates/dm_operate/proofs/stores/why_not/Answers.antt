-- What is made has a cause, or the place can't be accessed.
use Rattle.std.proofs.Common.{◌∙◌}
use Rattle.dm_value.specs.Sooner.{joined}
use Rattle.dm_operate.proofs.stores.why_not.Goals as goal

pub returns : goal.returns
returns c = λ causes is. c.sooner.ensures ∙ joined _ _ _ _ is c.to_update-accessed.ensures
