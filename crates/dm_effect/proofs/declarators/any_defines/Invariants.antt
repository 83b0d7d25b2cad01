-- One of the declarators does where one of those that are left does.
use Rattle.std.proofs.Common.{◌≡◌, map, length}
use Rattle.std.specs.List.{list_any}
use Rattle.dm_type.specs.Tables.{Table}
use Rattle.dm_tree.specs.Views.{view_of_local}
use Rattle.dm_effect.specs.Questions.{as_local}
use Rattle.dm_effect.specs.Safe.{defines_here}
use Rattle.dm_effect.proofs.declarators.any_defines.Given as goal

abbrev pub invariant-loop-local : goal.invariant-loop-local
invariant-loop-local l = (types : Table) → list_any (defines_here l.object) (map as_local (map (view_of_local types) l.left)) ≡ list_any (defines_here l.object) (map as_local (map (view_of_local types) l.fn.locals))

abbrev pub decreases-loop-local : goal.decreases-loop-local
decreases-loop-local l = length l.left
