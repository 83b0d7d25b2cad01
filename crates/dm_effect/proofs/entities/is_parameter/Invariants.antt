-- The answer is that at the external declarations that are left.
use Rattle.std.proofs.Common.{◌≡◌, map, length}
use Rattle.std.specs.List.{list_any}
use Rattle.dm_type.specs.Tables.{Table}
use Rattle.dm_tree.specs.Units.{External}
use Rattle.dm_tree.specs.Views.{view_of_external}
use Rattle.dm_effect.specs.Safe.{has_parameter}
use Rattle.dm_effect.proofs.entities.is_parameter.Given as goal

abbrev pub invariant-loop-external : goal.invariant-loop-external
invariant-loop-external l =
    (types : Table)
    → list_any (λ (external : External). has_parameter l.object external.form) (map (view_of_external types) l.left)
    ≡ list_any (λ (external : External). has_parameter l.object external.form) (map (view_of_external types) l.unit.externals)

abbrev pub decreases-loop-external : goal.decreases-loop-external
decreases-loop-external l = length l.left
