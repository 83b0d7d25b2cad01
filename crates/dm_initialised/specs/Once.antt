-- Units in which each object of automatic storage duration has one declaration, and no item of a `switch` is a declaration.
--     numbers_of_form form      the parameters of a function that is defined, and what the declarators in its body declare, in order
--     IsDeclaredOnce unit      so a unit is
use Rattle.std.specs.Prelude.{◌≡◌, ℕ, List, [], ◌++◌, flat_map}
use Rattle.std.specs.List.{AllByRecursion}
use Rattle.dm_tree.specs.Trees.{Label, switch, Tree, Trees, node, no_trees, more_trees}
use Rattle.dm_tree.specs.Units.{External, ExternalForm, declares, defines_function, TypedUnit}
use Rattle.dm_effect.specs.Scoped.{is_automatic}
use Rattle.dm_initialised.specs.Settled.{declared_in_parts}
use Rattle.dm_initialised.specs.Units.{numbers_below, AreOnce}

-- ---- what functions declare

abbrev pub numbers_of_form : ExternalForm → List ℕ
numbers_of_form (declares declarators trees) = []
numbers_of_form (defines_function f parameters body) = parameters ++ numbers_below body

abbrev pub numbers_of_functions : List External → List ℕ
numbers_of_functions externals = flat_map (λ (one : External). numbers_of_form one.form) externals

-- ---- items of a `switch` (6.8.4.2)

abbrev pub ItemsDeclareNothing : Label → Trees → Type 0
ItemsDeclareNothing switch parts = declared_in_parts parts ≡ []
ItemsDeclareNothing label parts = Unit {0}

abbrev mutual
  pub SwitchesDeclareNothing : Tree → Type 0
  SwitchesDeclareNothing (node label kind spans parts) = ItemsDeclareNothing label parts × AllSwitchesDeclareNothing parts

  pub AllSwitchesDeclareNothing : Trees → Type 0
  AllSwitchesDeclareNothing no_trees = Unit {0}
  AllSwitchesDeclareNothing (more_trees first rest) = SwitchesDeclareNothing first × AllSwitchesDeclareNothing rest

abbrev pub FormSwitchesDeclareNothing : ExternalForm → Type 0
FormSwitchesDeclareNothing (declares declarators trees) = Unit {0}
FormSwitchesDeclareNothing (defines_function f parameters body) = SwitchesDeclareNothing body

-- ---- units

pub record IsDeclaredOnce (one : TypedUnit) : Type 0 where
  pub once : AreOnce (is_automatic one.declared) (numbers_of_functions one.externals)
  pub items : AllByRecursion (λ (external : External). FormSwitchesDeclareNothing external.form) one.externals
