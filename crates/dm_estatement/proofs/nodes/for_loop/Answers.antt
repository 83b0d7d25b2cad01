-- The parts of the node are those that were given.
use Rattle.std.proofs.Common.{◌∙◌}
use Rattle.dm_type.specs.Tables.{type_of}
use Rattle.dm_typing.specs.Views.{source_of}
use Rattle.dm_estatement.proofs.NodeLemmas.{for-parts}
use Rattle.dm_estatement.proofs.nodes.for_loop.Goals as goal

pub returns-clause-view : goal.returns-clause-view
returns-clause-view c = λ types.
    let clauses = c.args.clauses in
    c.for_boxed.ensures.view types
    ∙ for-parts types (source_of c.args.typer.now) c.args.span (type_of types c.args.kind) clauses.first clauses.condition clauses.step c.in_ok-first.first c.in_ok-condition.condition c.in_ok-step.step c.args.body c.in_ok-body.body
    c.in_ok-first.ensures c.in_ok-condition.ensures c.in_ok-step.ensures c.in_ok-body.ensures
