-- Initialisers in which no expression takes the object for set whose first value they give, where the place of its full expression tells what an
-- expression takes for set.
--     IsApart needs sets d full      no expression that stands at the place of this full expression takes the object of the declaration for set
--     IsApartTree needs sets tree      so it is of each declarator in a tree and each expression of its initialiser
use Rattle.std.specs.Prelude.{◌≡◌, ℕ, Bool, true, not, IsTrue, MatchBool, List, [], ◌∷◌, drop}
use Rattle.dm_tree.specs.Trees.{Label, declare, is_statement, Tree, Trees, node, no_trees, more_trees, label_of, listed, spans_of}
use Rattle.dm_meaning.specs.Statements.{Local, with_expressions}
use Rattle.dm_meaning.specs.Wholes.{are_expressions}
use Rattle.dm_late.specs.Settled.{spot}

module _ (needs : ℕ → Bool) (sets : Tree → ℕ → Bool) where
  abbrev pub IsApart : ℕ → Tree → Type 0
  IsApart d full =
      IsTrue (not (is_statement (label_of full)))
      × (needs d ≡ true → (tree : Tree) → sets tree d ≡ true → (spans_of tree).place ≡ (spot (spans_of full)).place → ⊥)

  abbrev pub AllApart : ℕ → List Tree → Type 0
  AllApart d [] = Unit {0}
  AllApart d (tree ∷ trees) = IsApart d tree × AllApart d trees

  abbrev pub LocalsApart : List Local → Type 0
  LocalsApart [] = Unit {0}
  LocalsApart (local ∷ locals) = AllApart local.declarator.declared local.expressions × LocalsApart locals

  abbrev pub LabelApart : Label → List Tree → Type 0
  LabelApart (declare lengths declarators) parts = LocalsApart (with_expressions declarators (drop lengths parts))
  LabelApart label parts = Unit {0}

  -- below an expression are expressions
  abbrev mutual
    pub IsApartTree : Tree → Type 0
    IsApartTree (node label kind spans parts) = MatchBool (is_statement label) (LabelApart label (listed parts) × AreApartTrees parts) (IsTrue (are_expressions parts))

    pub AreApartTrees : Trees → Type 0
    AreApartTrees no_trees = Unit {0}
    AreApartTrees (more_trees first rest) = IsApartTree first × AreApartTrees rest
