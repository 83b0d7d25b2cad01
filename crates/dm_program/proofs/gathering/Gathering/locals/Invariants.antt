-- What the declarators that are left add to the objects so far is what all add.
use Rattle.std.proofs.Common.{length, map}
use Rattle.std.specs.List.{list_all}
use Rattle.dm_tree.specs.TypeNumbers.{are_known_in_local}
use Rattle.dm_tree.specs.Views.{view_of_local}
use Rattle.dm_program.specs.declared.gathering.Gathering.{Gathering}
use Rattle.dm_program.specs.Gathering.{as_local, Gathers}
use Rattle.dm_program.proofs.gathering.Gathering.locals.Given as goal

abbrev pub invariant-loop-local : goal.invariant-loop-local
invariant-loop-local l =
    (made : Gathering) → Gathers l.self (λ n. list_all (are_known_in_local n) l.left) (λ table. map as_local (map (view_of_local table) l.left)) made
    → Gathers l.fn.self (λ n. list_all (are_known_in_local n) l.fn.locals) (λ table. map as_local (map (view_of_local table) l.fn.locals)) made

abbrev pub decreases-loop-local : goal.decreases-loop-local
decreases-loop-local l = length l.left
