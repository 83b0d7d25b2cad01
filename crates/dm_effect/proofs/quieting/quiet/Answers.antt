-- The table is that of the unit.
use Rattle.std.proofs.Common.{ap, ◌∙◌}
use Rattle.dm_tree.specs.declared.unit.CoreUnit.{CoreUnit}
use Rattle.dm_tree.specs.Views.{view, view_of_unit}
use Rattle.dm_effect.specs.Quiet.{is_quiet}
use Rattle.dm_effect.proofs.quieting.quiet.Goals as goal

pub returns : goal.returns
returns c types =
    c.is_quiet.ensures types
    ∙ ap (λ (unit : CoreUnit). is_quiet (view_of_unit types unit) (view types c.args.tree.now)) (c.in_ok-functions.ensures)
