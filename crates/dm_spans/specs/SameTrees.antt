-- Trees that are the same but for where their nodes stand.
--     IsSame tree other      the same forms, types and parts
use Rattle.std.specs.Prelude.{◌≡◌}
use Rattle.dm_tree.specs.Trees.{Tree, Trees, node, no_trees, more_trees, label_of, kind_of, trees_of}

abbrev mutual
  pub IsSame : Tree → Tree → Type 0
  IsSame (node label kind spans parts) other = (label_of other ≡ label) × (kind_of other ≡ kind) × AreSame parts (trees_of other)

  pub AreSame : Trees → Trees → Type 0
  AreSame no_trees no_trees = Unit {0}
  AreSame (more_trees first rest) (more_trees other others) = IsSame first other × AreSame rest others
  AreSame trees others = ⊥
