-- A walk over a tree, as the code has it, which looks for automatic objects that type names name.
--     names_local automatic inside tree      a node in a type name names such an object, where the tree itself stands in one or not
--     waits automatic types waiting      so does one in a tree that waits
use Rattle.std.specs.Prelude.{ℕ, Bool, true, false, ◌&&◌, ◌||◌, List, [], ◌∷◌, map, sum_by}
use Rattle.std.specs.Borrow.{Bor}
use Rattle.std.specs.List.{list_any}
use Rattle.dm_type.specs.Tables.{Table, no_type}
use Rattle.dm_tree.specs.declared.tree.Core.{Core}
use Rattle.dm_tree.specs.Paths.{nodes_in}
use Rattle.dm_tree.specs.Trees.{Label, object, convert, sizeof_kind, Tree, Trees, node, no_trees, more_trees}
use Rattle.dm_tree.specs.Views.{view}
use Rattle.dm_plain.specs.declared.plain.Waiting.{Waiting}

abbrev pub is_local : (ℕ → Bool) → Label → Bool
is_local automatic (object d) = automatic d
is_local automatic label = false

-- whether the first part stands in a type name, and whether the others do
abbrev pub is_first_inside : Label → Bool
is_first_inside (sizeof_kind type) = true
is_first_inside label = false

abbrev pub are_others_inside : Label → Bool
are_others_inside convert = true
are_others_inside (sizeof_kind type) = true
are_others_inside label = false

abbrev mutual
  pub names_local : (ℕ → Bool) → Bool → Tree → Bool
  names_local automatic inside (node label kind spans parts) =
      (inside && is_local automatic label) || names_below automatic (inside || is_first_inside label) (inside || are_others_inside label) parts

  pub names_below : (ℕ → Bool) → Bool → Bool → Trees → Bool
  names_below automatic first others no_trees = false
  names_below automatic first others (more_trees tree rest) = names_local automatic first tree || any_names automatic others rest

  pub any_names : (ℕ → Bool) → Bool → Trees → Bool
  any_names automatic inside no_trees = false
  any_names automatic inside (more_trees tree rest) = names_local automatic inside tree || any_names automatic inside rest

-- so does one below the tree
abbrev pub names_inside : (ℕ → Bool) → Bool → Tree → Bool
names_inside automatic inside (node label kind spans parts) =
    names_below automatic (inside || is_first_inside label) (inside || are_others_inside label) parts

-- ---- trees that wait

abbrev pub waits : (ℕ → Bool) → Table → List Waiting → Bool
waits automatic types waiting = list_any (λ (one : Waiting). names_local automatic one.inside (view types one.tree.now)) waiting

abbrev pub waiting_of : Bool → Bor Core → Waiting
waiting_of inside tree = record { tree = tree; inside = inside }

-- the parts of a node
abbrev pub waiting_parts : Bool → Bool → List (Bor Core) → List Waiting
waiting_parts first others [] = []
waiting_parts first others (part ∷ parts) = waiting_of first part ∷ map (waiting_of others) parts

abbrev pub nodes_left : List Waiting → ℕ
nodes_left waiting = sum_by (λ (one : Waiting). nodes_in (view no_type one.tree.now)) waiting
