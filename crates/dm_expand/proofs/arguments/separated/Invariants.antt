use Rattle.std.proofs.Common.{◌≡◌, ◌++◌, length}
use Rattle.dm_expand.specs.Arguments as arguments
use Rattle.dm_expand.proofs.arguments.separated.Given as goal

abbrev pub invariant-arguments : goal.invariant-arguments
invariant-arguments l = arguments.separated l.commas 0 l.fn.inside ≡ l.given ++ arguments.separated l.left 0 l.rest

abbrev pub decreases-arguments : goal.decreases-arguments
decreases-arguments l = length l.rest
