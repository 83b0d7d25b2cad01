use Rattle.std.proofs.Common.{length, ◌∙◌}
use Rattle.std.proofs.lemmas.Bool.{and_from, lt-ltb}
use Rattle.dm_tree.proofs.ViewLemmas.{are_known-Number}
use Rattle.layer_tests.proofs.tree.number.Goals as goal

pub returns : goal.returns
returns c = c.node.ensures (length c.args.types.now.shapes) ∙ and_from _ _ (lt-ltb _ _ c.requires) (are_known-Number _ _)
