use Rattle.dm_pexpr.proofs.DeclaratorNodeLemmas.{function-made}
use Rattle.dm_pexpr.proofs.reader.Reader.function_node.Goals as goal

pub returns : goal.returns
returns c before within start at read wanted inner next parameters passes =
    function-made _ before _ within start at c.args.direct read c.args.parameters wanted inner next parameters c.args.after c.above-height.result c.in_ok-direct.direct c.checked.result
    passes c.in_ok-direct.ensures c.above-height.ensures c.checked.ensures
