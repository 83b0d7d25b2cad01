-- What the first steps stand for are the first of what the steps stand for.
use Rattle.std.proofs.Common.{sym}
use Rattle.std.proofs.lemmas.List.{take-map}
use Rattle.dm_value.specs.Parts.{view_of_part}
use Rattle.dm_memory.proofs.pointers.first.Goals as goal

pub returns-then-count-steps : goal.returns-then-count-steps
returns-then-count-steps c = sym (take-map view_of_part c.args.count c.args.steps.now)
