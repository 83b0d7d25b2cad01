-- The parts of a tree are those of its form.
use Rattle.std.proofs.Common.{ap, sym, ◌∙◌}
use Rattle.dm_tree.specs.Paths.{tree_in}
use Rattle.dm_tree.specs.Trees.{trees, trees_of}
use Rattle.dm_tree.proofs.ViewLemmas.{view-core}
use Rattle.dm_effect.proofs.parts.part.Goals as goal

pub returns : goal.returns
returns c types =
    c.nth.ensures types
    ∙ (ap (λ all. tree_in (trees all) c.args.number) (c.parts_of.ensures.same types) ∙ sym (ap (λ tree. tree_in (trees_of tree) c.args.number) (view-core types c.args.core.now)))
