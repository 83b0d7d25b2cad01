-- Those so far and those of the rest are those of all.
use Rattle.std.proofs.Common.{◌≡◌, ◌++◌, drop}
use Rattle.std.specs.Prelude.{filter_map}
use Rattle.dm_tree.specs.Views.{view_of_unit}
use Rattle.dm_names.specs.Declarations as declarations
use Rattle.dm_names.proofs.structs.structs_shown.Given as goal

abbrev pub invariant-loop-one : goal.invariant-loop-one
invariant-loop-one l =
    l.structs ++ filter_map (declarations.struct_of (view_of_unit l.types l.unit)) (drop l.one-index l.entered)
    ≡ l.fn.structs ++ filter_map (declarations.struct_of (view_of_unit l.types l.unit)) l.entered
