-- The table of objects is that of the unit.
use Rattle.std.proofs.Common.{ap, ◌∙◌}
use Rattle.dm_tree.specs.declared.unit.CoreUnit.{CoreUnit}
use Rattle.dm_effect.specs.Entities.{is_addressed}
use Rattle.dm_beside.specs.Amid.{unit_at}
use Rattle.dm_beside.proofs.amid.NotedArguments.is_addressed.Goals as goal

pub returns : goal.returns
returns c =
    let it = c.args.self.now in
    c.is_addressed.ensures it.types.now ∙ ap (λ (one : CoreUnit). is_addressed (unit_at it.types.now one) c.args.object) it.noted
