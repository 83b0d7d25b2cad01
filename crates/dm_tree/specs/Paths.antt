-- The trees inside a tree, and the way to them: a path is a list of part numbers, from the whole downwards, each counted from 0.
use Rattle.std.specs.Prelude.{ℕ, zero, suc, ◌+◌, List, [], ◌∷◌, ◌++◌, Option, Some, None, option_and_then}
use Rattle.dm_tree.specs.Trees.{Tree, Trees, node, no_trees, more_trees, trees_of}

-- a path, as `tree_at` follows it
abbrev pub Path : Type 0
Path = List ℕ

-- the tree at a place in a list of trees
abbrev pub tree_in : Trees → ℕ → Option Tree
tree_in no_trees n = None
tree_in (more_trees first rest) zero = Some first
tree_in (more_trees first rest) (suc n) = tree_in rest n

-- the tree to which a path leads, if it leads to one
abbrev pub tree_at : Path → Tree → Option Tree
tree_at [] whole = Some whole
tree_at (n ∷ path) whole = option_and_then (tree_at path) (tree_in (trees_of whole) n)

-- the list with what a change makes of the tree at a place
abbrev pub changed_in : ℕ → (Tree → Tree) → Trees → Trees
changed_in n change no_trees = no_trees
changed_in zero change (more_trees first rest) = more_trees (change first) rest
changed_in (suc n) change (more_trees first rest) = more_trees first (changed_in n change rest)

-- the node with other parts
abbrev pub with_trees : Tree → Trees → Tree
with_trees (node label kind spans parts) others = node label kind spans others

-- the tree with another one plugged in where the path leads
abbrev pub plugged : Path → Tree → Tree → Tree
plugged [] part whole = part
plugged (n ∷ path) part whole = with_trees whole (changed_in n (plugged path part) (trees_of whole))

abbrev mutual
  -- all trees in a tree, itself first, then those of its parts from the left
  pub all_in : Tree → List Tree
  all_in (node label kind spans parts) = node label kind spans parts ∷ all_in_trees parts

  pub all_in_trees : Trees → List Tree
  all_in_trees no_trees = []
  all_in_trees (more_trees first rest) = all_in first ++ all_in_trees rest

abbrev mutual
  -- how many nodes a tree has
  pub nodes_in : Tree → ℕ
  nodes_in (node label kind spans parts) = 1 + nodes_in_trees parts

  pub nodes_in_trees : Trees → ℕ
  nodes_in_trees no_trees = 0
  nodes_in_trees (more_trees first rest) = nodes_in first + nodes_in_trees rest

-- what a tree without parts gives, and what another gives by its parts
abbrev pub at_leaf : Tree → Trees → List Tree → List Tree
at_leaf whole no_trees below = whole ∷ []
at_leaf whole (more_trees first rest) below = below

abbrev mutual
  -- the leaves, from the left: the trees without parts
  pub leaves : Tree → List Tree
  leaves (node label kind spans parts) = at_leaf (node label kind spans parts) parts (leaves_of_trees parts)

  pub leaves_of_trees : Trees → List Tree
  leaves_of_trees no_trees = []
  leaves_of_trees (more_trees first rest) = leaves first ++ leaves_of_trees rest
