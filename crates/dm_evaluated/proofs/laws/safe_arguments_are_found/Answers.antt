use Rattle.std.specs.Prelude.{◌≡◌, refl}
use Rattle.dm_tree.specs.Trees.{Spans, spans_of, Tree, Trees, node, no_trees, more_trees}
use Rattle.dm_late.specs.Settled.{all_erased, erased, spot}
use Rattle.dm_spans.specs.SameTrees.{AreSame, IsSame}
use Rattle.dm_in_place.specs.InPlace.{tokens_of}
use Rattle.dm_evaluated.proofs.laws.safe_arguments_are_found.Goals as goal

all_erased_same : (at : Spans) (trees : Trees) → AreSame trees (all_erased at trees)
all_erased_same at no_trees = tt
all_erased_same at (more_trees (node label kind spans parts) rest) = ((refl, refl, all_erased_same at parts), all_erased_same at rest)

erased_same : (at : Spans) (tree : Tree) → IsSame tree (erased at tree)
erased_same at (node label kind spans parts) = (refl, refl, all_erased_same at parts)

-- the place tells the tokens
erased_tokens : (spans : Spans) (tree : Tree) → tokens_of (erased (spot spans) tree) ≡ spans.inner
erased_tokens spans (node label kind own parts) = refl

pub returns : goal.returns
returns c types one typed scoped laid once span argument found pure safe =
    c.safe_arguments_are_safe_in_place.ensures types one typed scoped laid once span argument found pure safe (erased (spot (spans_of argument.full)) argument.tree)
    (erased_same (spot (spans_of argument.full)) argument.tree) (erased_tokens (spans_of argument.full) argument.tree)
