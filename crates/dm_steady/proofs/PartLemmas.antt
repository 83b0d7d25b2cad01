-- Trees inside trees, by the ways to them.
--     IsPartOf part whole      a way leads from a tree to another one
--     inherited      what a tree hands down to the trees below it holds of each of its parts
--     IsTyped tree      a tree is well typed in some scene
use Rattle.std.specs.Prelude.{◌≡◌, refl, ℕ, zero, suc, [], ◌∷◌, ◌++◌, Option, Some, None, option_and_then}
use Rattle.std.specs.List.{AllByRecursion}
use Rattle.std.proofs.Common.{ap, subst}
use Rattle.dm_tree.specs.Paths.{Path, tree_in, tree_at}
use Rattle.dm_tree.specs.Scenes.{Scene}
use Rattle.dm_tree.specs.Trees.{Tree, Trees, node, no_trees, more_trees, trees_of, listed}
use Rattle.dm_tree.specs.Typing.{inside, IsWellTyped, AreWellTyped}
use Rattle.dm_meaning.proofs.OptionLemmas.{none_is_some, some_is_some}

-- ---- ways

pub at_behind : (path way : Path) (whole tree : Tree) → tree_at path whole ≡ Some tree → tree_at (path ++ way) whole ≡ tree_at way tree
at_behind [] way whole tree e = ap (tree_at way) (some_is_some whole tree e)
at_behind (n ∷ path) way whole tree e = by_part (tree_in (trees_of whole) n) e (λ part. at_behind path way part tree)
  where
    by_part : (found : Option Tree) → option_and_then (tree_at path) found ≡ Some tree
        → ((part : Tree) → tree_at path part ≡ Some tree → tree_at (path ++ way) part ≡ tree_at way tree)
        → option_and_then (tree_at (path ++ way)) found ≡ tree_at way tree
    by_part None e rest = absurd (none_is_some tree e)
    by_part (Some part) e rest = rest part e

pub record IsPartOf (part whole : Tree) : Type 0 where
  pub way : Path
  pub leads : tree_at way whole ≡ Some part

pub itself : (tree : Tree) → IsPartOf tree tree
itself tree = record { way = []; leads = refl }

pub part_below : (n : ℕ) (part whole : Tree) → tree_in (trees_of whole) n ≡ Some part → IsPartOf part whole
part_below n part whole e = record { way = n ∷ []; leads = ap (option_and_then (tree_at [])) e }

-- ---- the parts of a node, by their numbers

-- these are the parts from a number on
abbrev pub AreFrom : Trees → ℕ → Trees → Type 0
AreFrom parts from no_trees = Unit {0}
AreFrom parts from (more_trees first rest) = (tree_in parts from ≡ Some first) × AreFrom parts (suc from) rest

one_later : (front : Tree) (parts : Trees) (from : ℕ) (trees : Trees) → AreFrom parts from trees → AreFrom (more_trees front parts) (suc from) trees
one_later front parts from no_trees h = tt
one_later front parts from (more_trees first rest) h = (h.0, one_later front parts (suc from) rest h.1)

pub all_from : (parts : Trees) → AreFrom parts 0 parts
all_from no_trees = tt
all_from (more_trees first rest) = (refl, one_later first rest 0 rest (all_from rest))

pub parts_from : (whole : Tree) (from : ℕ) (trees : Trees) → AreFrom (trees_of whole) from trees → AllByRecursion (λ (part : Tree). IsPartOf part whole) (listed trees)
parts_from whole from no_trees h = tt
parts_from whole from (more_trees first rest) h = (part_below from first whole h.0, parts_from whole (suc from) rest h.1)

-- ---- what trees hand down

module _ (P : Tree → Type 0) (All : Trees → Type 0) (split : (first : Tree) (rest : Trees) → All (more_trees first rest) → P first × All rest) (opens : (tree : Tree) → P tree → All (trees_of tree)) where
  nth : (parts : Trees) (n : ℕ) (part : Tree) → tree_in parts n ≡ Some part → All parts → P part
  nth no_trees n part e h = absurd (none_is_some part e)
  nth (more_trees first rest) zero part e h = subst P (some_is_some first part e) (split first rest h).0
  nth (more_trees first rest) (suc n) part e h = nth rest n part e (split first rest h).1

  along : (way : Path) (whole part : Tree) → tree_at way whole ≡ Some part → P whole → P part
  along [] whole part e h = subst P (some_is_some whole part e) h
  along (n ∷ way) whole part e h = by_part (tree_in (trees_of whole) n) refl e (λ below. along way below part)
    where
      by_part : (found : Option Tree) → tree_in (trees_of whole) n ≡ found → option_and_then (tree_at way) found ≡ Some part
          → ((below : Tree) → tree_at way below ≡ Some part → P below → P part) → P part
      by_part None is e rest = absurd (none_is_some part e)
      by_part (Some below) is e rest = rest below e (nth (trees_of whole) n below is (opens whole h))

  pub inherited : (part whole : Tree) → IsPartOf part whole → P whole → P part
  inherited part whole h = along h.way whole part h.leads

-- ---- types

abbrev pub IsTyped : Tree → Type 0
IsTyped tree = (scene : Scene) × IsWellTyped scene tree

abbrev AreTyped : Trees → Type 0
AreTyped trees = (scene : Scene) × AreWellTyped scene trees

types_open : (tree : Tree) → IsTyped tree → AreTyped (trees_of tree)
types_open (node label kind spans parts) h = (inside h.0 label (listed parts), h.1.1)

pub typed_part : (part whole : Tree) → IsPartOf part whole → IsTyped whole → IsTyped part
typed_part = inherited IsTyped AreTyped (λ first rest h. ((h.0, h.1.0), (h.0, h.1.1))) types_open
