-- What was pushed, and what is left.
use Rattle.std.proofs.Common.{◌≡◌, ◌++◌, [], List, map, reverse, length}
use Rattle.dm_type.specs.Tables.{Table}
use Rattle.dm_tree.specs.Views.{entries_of, view_of_local}
use Rattle.dm_effect.specs.Questions.{as_local}
use Rattle.dm_sites.specs.Seen.{seen}
use Rattle.dm_sites.specs.Sites.{Site, declarator_sites}
use Rattle.dm_sites.proofs.waiting.push_locals.Given as goal

abbrev pub invariant-loop-local : goal.invariant-loop-local
invariant-loop-local l =
    (l.row.items ≡ [])
    × ((types : Table) (all : List Site) →
    map (seen types all) l.waiting.items ++ reverse (declarator_sites (entries_of types l.declared) (map as_local (map (view_of_local types) l.left)))
    ≡ map (seen types all) l.fn.waiting.items ++ reverse (declarator_sites (entries_of types l.declared) (map as_local (map (view_of_local types) l.fn.locals))))

abbrev pub decreases-loop-local : goal.decreases-loop-local
decreases-loop-local l = length l.left
