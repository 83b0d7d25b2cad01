-- The causes of an access to what a place is.
use Rattle.std.proofs.Common.{ℕ, List, map, ◌++◌}
use Rattle.dm_type.specs.Tables.{Table, type_of}
use Rattle.dm_meaning.specs.declared.cause.Cause.{Cause}
use Rattle.dm_meaning.specs.declared.cause.Cause.TheVariants.{Conflict, Bounds, OtherType}
use Rattle.dm_meaning.specs.Causes.{when, is_outside, is_other, absence_causes}
use Rattle.dm_meaning.specs.Objects.{Reached}
use Rattle.dm_meaning.specs.Values.{overlaps_any}
use Rattle.dm_memory.specs.declared.blocks.Block.{Block}
use Rattle.dm_value.specs.declared.place.At.{At}
use Rattle.dm_memory.specs.Blocks.{view_of_blocks}
use Rattle.dm_value.specs.Places.{view_of_at, view_of_name}

abbrev pub access_by : Table → List Block → List At → ℕ → At → Reached → List Cause
access_by table blocks locks access at reached =
    when Conflict (overlaps_any (view_of_at at) (map view_of_at locks)) ++ when Bounds (is_outside reached)
    ++ absence_causes (view_of_blocks table blocks) (view_of_name at.name) ++ when OtherType (is_other (type_of table access) reached)
