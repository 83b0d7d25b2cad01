use Rattle.std.proofs.Common.{max, ap, ◌∙◌}
use Rattle.dm_pstmt.proofs.NodeLemmas.{clauses-made}
use Rattle.dm_pstmt.proofs.nodes.clauses_node.Goals as goal

pub returns : goal.returns
returns c source before one two three at begun tested stepped start condition step end within =
    clauses-made source before one two three at c.args.start begun c.args.condition tested c.args.step stepped start condition step c.max-height.result c.args.after c.into_inner.result c.in_ok-tree.tree c.into_inner.ensures c.in_ok-tree.ensures
    (c.max-height.ensures ∙ ap (λ n. max n c.args.step.height) c.max.ensures) end within
