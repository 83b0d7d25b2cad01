-- What holds of a statement's beginning, whatever parts it has, where it has as many as its form.
use Rattle.std.specs.Prelude.{Bool, true, false, List, [], ◌∷◌, Option, Some, None}
use Rattle.dm_tree.specs.Trees.{Tree}
use Rattle.dm_meaning.specs.Statements.{Turned, on_one_tree, on_first_tree, on_option_tree, on_tree_if}

module _ (P : Turned → Type 0) where
  pub one_tree_has : (trees : List Tree) (following : Tree → Turned) (otherwise : Turned) → ((x : Tree) → P (following x)) → P otherwise → P (on_one_tree trees following otherwise)
  one_tree_has [] following otherwise h k = k
  one_tree_has (x ∷ []) following otherwise h k = h x
  one_tree_has (x ∷ y ∷ rest) following otherwise h k = k

  pub first_tree_has : (trees : List Tree) (following : Tree → List Tree → Turned) (otherwise : Turned) → ((x : Tree) (xs : List Tree) → P (following x xs)) → P otherwise
      → P (on_first_tree trees following otherwise)
  first_tree_has [] following otherwise h k = k
  first_tree_has (x ∷ rest) following otherwise h k = h x rest

  pub option_tree_has : (trees : List Tree) (following : Option Tree → Turned) (otherwise : Turned) → ((x : Option Tree) → P (following x)) → P otherwise → P (on_option_tree trees following otherwise)
  option_tree_has [] following otherwise h k = h None
  option_tree_has (x ∷ []) following otherwise h k = h (Some x)
  option_tree_has (x ∷ y ∷ rest) following otherwise h k = k

  pub if_tree_has : (there : Bool) (trees : List Tree) (following : Option Tree → List Tree → Turned) (otherwise : Turned) → ((x : Option Tree) (xs : List Tree) → P (following x xs)) → P otherwise
      → P (on_tree_if there trees following otherwise)
  if_tree_has false trees following otherwise h k = h None trees
  if_tree_has true [] following otherwise h k = k
  if_tree_has true (x ∷ rest) following otherwise h k = h (Some x) rest
