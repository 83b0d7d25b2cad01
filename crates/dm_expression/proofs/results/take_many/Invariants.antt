-- So many results were taken, the last one first.
use Rattle.std.proofs.Common.{reverse}
use Rattle.dm_expression.specs.Taken.{IsOperands}
use Rattle.dm_expression.proofs.results.take_many.Given as goal

abbrev pub invariant-loop : goal.invariant-loop
invariant-loop g l = IsOperands l.counter l.fn.row l.row (reverse l.all.items)
