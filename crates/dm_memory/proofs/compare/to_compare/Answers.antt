-- One of them can't be used.
use Rattle.std.proofs.Common.{◌∙◌}
use Rattle.dm_value.specs.Sooner.{joined}
use Rattle.dm_memory.proofs.compare.to_compare.Goals as goal

pub returns : goal.returns
returns c = λ types. c.sooner.ensures ∙ joined _ _ _ _ (c.to_use-first.ensures types) (c.to_use-second.ensures types)
