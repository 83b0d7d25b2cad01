-- All places are those that were found, and those in the external declarations that are left.
use Rattle.std.proofs.Common.{◌≡◌, ◌++◌, [], map, flat_map, length}
use Rattle.dm_type.specs.Tables.{Table}
use Rattle.dm_tree.specs.Views.{entries_of, view_of_external, view_of_unit}
use Rattle.dm_sites.specs.Seen.{seen}
use Rattle.dm_sites.specs.Sites.{all_sites, external_sites, sites_of_unit}
use Rattle.dm_sites.proofs.walk.walk.Given as goal

abbrev pub invariant-loop-external : goal.invariant-loop-external
invariant-loop-external l =
    (l.row.items ≡ []) × (l.waiting.items ≡ [])
    × ((types : Table) → let all = sites_of_unit (view_of_unit types l.unit) in let declared = entries_of types l.unit.declared in
    all ≡ map (seen types all) l.found.items ++ all_sites declared (flat_map (external_sites declared) (map (view_of_external types) l.left)))

abbrev pub decreases-loop-external : goal.decreases-loop-external
decreases-loop-external l = length l.left
