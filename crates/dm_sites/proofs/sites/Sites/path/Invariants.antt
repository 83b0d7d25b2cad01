-- The way so far, and what is left of it.
use Rattle.std.proofs.Common.{◌≡◌, ◌++◌, length, reverse}
use Rattle.dm_type.specs.Tables.{Table, no_type}
use Rattle.dm_tree.specs.Views.{view_of_unit}
use Rattle.dm_sites.specs.Seen.{path_at}
use Rattle.dm_sites.specs.Sites.{sites_of_unit}
use Rattle.dm_sites.proofs.sites.Sites.path.Given as goal

abbrev pub invariant-loop-above : goal.invariant-loop-above
invariant-loop-above l = (types : Table) →
    let all = sites_of_unit (view_of_unit types l.self-inside.unit.now) in path_at all l.number ≡ path_at all l.at ++ reverse l.parts.items

abbrev pub decreases-loop-above : goal.decreases-loop-above
decreases-loop-above l = length (path_at (sites_of_unit (view_of_unit no_type l.self-inside.unit.now)) l.at)
