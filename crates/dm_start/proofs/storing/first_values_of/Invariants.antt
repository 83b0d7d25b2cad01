-- The values so far, and those of the objects that are left, are all.
use Rattle.std.proofs.Common.{◌≡◌, ◌++◌, map, drop}
use Rattle.dm_program.specs.Statics.{view_of_static}
use Rattle.dm_start.specs.Scenes.{types_in}
use Rattle.dm_start.specs.Storing.{kept_all, view_of_kept}
use Rattle.dm_start.proofs.storing.first_values_of.Given as goal

abbrev pub invariant-loop-one : goal.invariant-loop-one
invariant-loop-one l =
    map view_of_kept l.all.items ++ kept_all l.scene (map (view_of_static (types_in l.scene)) (drop l.one-index l.statics))
    ≡ kept_all l.scene (map (view_of_static (types_in l.scene)) l.statics)
