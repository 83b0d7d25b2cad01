-- The names have the declarations so far besides.
use Rattle.std.proofs.Common.{◌≡◌, take, reverse}
use Rattle.dm_pexpr.specs.Scoping.{known_with, all_declared}
use Rattle.dm_pexpr.proofs.scope.Scope.settle.Given as goal

abbrev pub invariant-loop-entry : goal.invariant-loop-entry
invariant-loop-entry l = l.names ≡ known_with l.initial.names (all_declared (reverse (take l.entry-index l.entry-items)))
