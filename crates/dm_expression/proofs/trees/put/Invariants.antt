-- What is left to be put, and what was put, is the tree.
use Rattle.std.proofs.Common.{length, map}
use Rattle.dm_tree.specs.Views.{view}
use Rattle.dm_expression.specs.Waiting.{items_all, IsUnfolding}
use Rattle.dm_expression.proofs.PutLemmas.{no_types}
use Rattle.dm_expression.proofs.trees.put.Given as goal

abbrev pub invariant-loop-node : goal.invariant-loop-node
invariant-loop-node g l = IsUnfolding l.tree (map (λ one. one.now) l.parts.items) l.fn.row l.row

abbrev pub decreases-loop-node : goal.decreases-loop-node
decreases-loop-node g l = length (items_all (map (λ one. view no_types one.now) l.parts.items))
