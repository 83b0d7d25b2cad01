-- The places before those that are left aren't sought.
use Rattle.std.proofs.Common.{length}
use Rattle.dm_type.specs.Tables.{Table}
use Rattle.dm_tree.specs.Views.{view_of_unit}
use Rattle.dm_sites.specs.Sites.{sites_of_unit}
use Rattle.dm_sites.proofs.SiteLemmas.{IsSought, places_left}
use Rattle.dm_sites.proofs.sites.Sites.find.Given as goal

abbrev pub invariant-loop-at : goal.invariant-loop-at
invariant-loop-at l = (types : Table) → IsSought (sites_of_unit (view_of_unit types l.self-inside.unit.now)) l.span l.at

abbrev pub decreases-loop-at : goal.decreases-loop-at
decreases-loop-at l = places_left (length l.self-inside.found.items) l.at
