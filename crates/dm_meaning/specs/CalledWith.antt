-- Trees that name an added function (6.5.1p2).
--     IsNamed change tree      the tree is its name and nothing else
use Rattle.std.specs.Prelude.{◌≡◌}
use Rattle.dm_type.specs.CTypes.{CType}
use Rattle.dm_tree.specs.Trees.{function, Spans, Tree, node, no_trees}
use Rattle.dm_meaning.specs.Called.{Called}

-- ---- trees

-- the added function is named
pub record IsNamed (change : Called) (tree : Tree) : Type 0 where
  pub kind : CType
  pub spans : Spans
  pub is : tree ≡ node (function change.added.function) kind spans no_trees
