-- Whether a way leads to what comes first, step by step.
use Rattle.std.proofs.Common.{◌≡◌, ℕ, true, false, ◌&&◌, [], ◌∷◌, Some, None, length, ap, refl, ◌∙◌, arith}
use Rattle.dm_type.specs.Tables.{Table}
use Rattle.dm_tree.specs.declared.tree.Core.{Core, out-Core}
use Rattle.dm_tree.specs.Paths.{Path, tree_in}
use Rattle.dm_tree.specs.Trees.{Tree, label_of, trees_of}
use Rattle.dm_tree.specs.Views.{opened_form, view}
use Rattle.dm_tree.proofs.ViewLemmas.{view-core}
use Rattle.dm_effect.specs.Entities.{passes}
use Rattle.dm_effect.specs.Sequencing.{comes_first, is_first}

module _ (types : Table) (core : Core) (way : Path) (n : ℕ) (path : Path) (is : way ≡ n ∷ path) where
  here : is_first way (view types core) ≡ (comes_first (opened_form types (out-Core core).form).label n && passes (is_first path) (tree_in (trees_of (view types core)) n))
  here =
      ap (λ them. is_first them (view types core)) is
      ∙ ap (λ (tree : Tree). comes_first (label_of tree) n && passes (is_first path) (tree_in (trees_of (view types core)) n)) (view-core types core)

  pub picked-fails : comes_first (opened_form types (out-Core core).form).label n ≡ false → is_first way (view types core) ≡ false
  picked-fails picked = here ∙ ap (λ b. b && passes (is_first path) (tree_in (trees_of (view types core)) n)) picked

  pub absent-fails : comes_first (opened_form types (out-Core core).form).label n ≡ true → tree_in (trees_of (view types core)) n ≡ None → is_first way (view types core) ≡ false
  absent-fails comes none = here ∙ (ap (λ b. b && passes (is_first path) (tree_in (trees_of (view types core)) n)) comes ∙ ap (passes (is_first path)) none)

  pub goes-on : (tree : Tree) → comes_first (opened_form types (out-Core core).form).label n ≡ true → tree_in (trees_of (view types core)) n ≡ Some tree → is_first way (view types core) ≡ is_first path tree
  goes-on tree comes some = here ∙ (ap (λ b. b && passes (is_first path) (tree_in (trees_of (view types core)) n)) comes ∙ ap (passes (is_first path)) some)

pub ends-first : (way : Path) (tree : Tree) → length way ≡ 0 → is_first way tree ≡ true
ends-first [] tree h = refl
ends-first (n ∷ way) tree h = absurd (omega arith)
