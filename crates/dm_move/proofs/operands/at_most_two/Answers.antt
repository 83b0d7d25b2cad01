-- They are those of the list.
use Rattle.std.proofs.Common.{sym, subst}
use Rattle.dm_operate.specs.declared.evaluation.Operand.{Operand}
use Rattle.dm_expression.specs.declared.results.Results.{Results}
use Rattle.dm_expression.specs.Taken.{results_of}
use Rattle.dm_move.specs.Operands.{AreKnownResults}
use Rattle.dm_move.proofs.operands.at_most_two.Goals as goal

pub returns-in-Many-clause-known : goal.returns-in-Many-clause-known
returns-in-Many-clause-known c = λ table known.
    c.two_of.ensures.known table (subst (AreKnownResults table) (sym c.as_slice.ensures.value) (subst (λ (all : Results Operand). AreKnownResults table (results_of all)) c.in-Many.is known))
