-- Where calls of an added function stand, and how its expression reads a parameter.
--     AreOthersEvaluated f put new      no operand of sizeof names the function, in any declaration but the one that is put in
--     IsReadOnceFirst body p      the expression reads the parameter once, and first
use Rattle.std.specs.Prelude.{◌≡◌, ℕ, Bool, false, ◌||◌, ◌==◌, Some}
use Rattle.std.specs.List.{AllByRecursion}
use Rattle.dm_tree.specs.Trees.{Label, function, sizeof_tree, Tree, Trees, node, no_trees, more_trees}
use Rattle.dm_tree.specs.Units.{External, TypedUnit}
use Rattle.dm_meaning.specs.CalledWithAll.{times_named}
use Rattle.dm_effect.specs.Entities.{trees_in_form}
use Rattle.dm_central.specs.Arguments.{ReadsFirst}
use Rattle.dm_align.specs.Units.{Insertion, other_externals}

-- ---- operands of sizeof

abbrev pub is_name_of : ℕ → Label → Bool
is_name_of f (function d) = d == f
is_name_of f label = false

abbrev mutual
  -- the tree names the function
  pub names : ℕ → Tree → Bool
  names f (node label kind spans parts) = is_name_of f label || any_names f parts

  pub any_names : ℕ → Trees → Bool
  any_names f no_trees = false
  any_names f (more_trees first rest) = names f first || any_names f rest

abbrev pub NotInSizeof : Label → Bool → Type 0
NotInSizeof sizeof_tree named = named ≡ false
NotInSizeof label named = Unit {0}

abbrev mutual
  pub IsEvaluated : ℕ → Tree → Type 0
  IsEvaluated f (node label kind spans parts) = NotInSizeof label (any_names f parts) × AreEvaluated f parts

  pub AreEvaluated : ℕ → Trees → Type 0
  AreEvaluated f no_trees = Unit {0}
  AreEvaluated f (more_trees first rest) = IsEvaluated f first × AreEvaluated f rest

abbrev pub AreOthersEvaluated : ℕ → Insertion → TypedUnit → Type 0
AreOthersEvaluated f put new = AllByRecursion (λ (external : External). AllByRecursion (IsEvaluated f) (trees_in_form external.form)) (other_externals (Some put) new.externals)

-- ---- arguments

-- The parameter is read once, in a part that may be evaluated as soon as the whole is: &&, ||, ?: and the comma don't choose whether it is
-- (6.5.13p4, 6.5.14p4, 6.5.15p4, 6.5.17p2), and no sizeof has it. So its argument is evaluated once, as it is for a call (6.5.2.2p10).
abbrev pub IsReadOnceFirst : Tree → ℕ → Type 0
IsReadOnceFirst body p = (times_named p body ≡ 1) × ReadsFirst p body
