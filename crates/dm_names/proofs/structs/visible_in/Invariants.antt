-- Those so far and those of the rest are those of all.
use Rattle.std.proofs.Common.{◌≡◌, ◌++◌, drop, length}
use Rattle.dm_tree.specs.Views.{view_of_unit}
use Rattle.dm_names.specs.Declarations as declarations
use Rattle.dm_names.specs.Indexes as indexes
use Rattle.dm_names.proofs.structs.visible_in.Given as goal

abbrev pub invariant-loop-shown : goal.invariant-loop-shown
invariant-loop-shown l =
    (l.structs ++ declarations.structs_in (view_of_unit l.types l.unit) (drop l.shown-index l.all) ≡ declarations.structs_in (view_of_unit l.types l.unit) l.all)
    × (l.ends ++ indexes.ends_from (view_of_unit l.types l.unit) (length l.structs) (drop l.shown-index l.all) ≡ indexes.ends_from (view_of_unit l.types l.unit) 0 l.all)
