-- Where a part with a number stands: among the trees of a list, or behind them.
use Rattle.std.proofs.Common.{◌≡◌, ℕ, ◌-◌, zero, suc, List, [], ◌∷◌, ◌++◌, map, length, Option, Some, None, slice_get, append_assoc, ap, refl, ◌∙◌, arith}
use Rattle.dm_type.specs.Tables.{Table}
use Rattle.dm_tree.specs.declared.tree.Core.{Core}
use Rattle.dm_tree.specs.declared.tree.Form.{Form}
use Rattle.dm_tree.specs.declared.tree.Form.TheOpen as layer
use Rattle.dm_tree.specs.declared.tree.Form.TheFolds as folds
use Rattle.dm_tree.specs.declared.tree.Initial.{Initial}
use Rattle.dm_tree.specs.declared.tree.Local.{Local, out-Local}
use Rattle.dm_tree.specs.Paths.{tree_in}
use Rattle.dm_tree.specs.Trees.{Tree, trees}
use Rattle.dm_tree.specs.Views.{Opened, OpenedInitial, OpenedLocal, opened_form, view, view_of_local, form_layer, initial_layer, core_layer, local_layer, expressions_of_locals, expressions_of_items}
use Rattle.dm_meaning.specs.Wholes.{view_of_initial}

pub found-here : (all rest : List Tree) (n : ℕ) (tree : Tree) → slice_get all n ≡ Some tree → tree_in (trees (all ++ rest)) n ≡ Some tree
found-here [] rest n tree h = absurd (cc)
found-here (first ∷ all) rest zero tree h = h
found-here (first ∷ all) rest (suc n) tree h = found-here all rest n tree h

pub found-behind : (types : Table) (all : List Core) (rest : List Tree) (n : ℕ) → slice_get all n ≡ None
    → tree_in (trees (map (view types) all ++ rest)) n ≡ tree_in (trees rest) (n - length all)
found-behind types [] rest n h = ap (tree_in (trees rest)) (omega arith)
found-behind types (first ∷ all) rest zero h = absurd (cc)
found-behind types (first ∷ all) rest (suc n) h = found-behind types all rest n h ∙ ap (tree_in (trees rest)) (omega arith)

-- ---- declarators and initialisers

module _ (types : Table) where
  abbrev local_seen : layer.Local-F Form Initial Core Local → OpenedLocal
  local_seen y = local_layer (folds.map-Local Form Initial Core Local Opened OpenedInitial Tree OpenedLocal (opened_form types) (view_of_initial types) (view types) (view_of_local types) y)

  local-seen : (local : Local) → view_of_local types local ≡ local_seen (out-Local local)
  local-seen local = folds.fold_out-Local Opened OpenedInitial Tree OpenedLocal (form_layer types) initial_layer (core_layer types) local_layer local

  pub local-without : (local : Local) → (out-Local local).initial ≡ None → (view_of_local types local).expressions ≡ []
  local-without local is =
      ap (λ (one : OpenedLocal). one.expressions) (local-seen local)
      ∙ ap (λ (initial : Option Initial). (local_seen (record { declared = (out-Local local).declared; defines = (out-Local local).defines; initial = initial })).expressions) is

  pub local-with : (local : Local) (initial : Initial) → (out-Local local).initial ≡ Some initial → (view_of_local types local).expressions ≡ (view_of_initial types initial).expressions
  local-with local initial is =
      ap (λ (one : OpenedLocal). one.expressions) (local-seen local)
      ∙ ap (λ (initial : Option Initial). (local_seen (record { declared = (out-Local local).declared; defines = (out-Local local).defines; initial = initial })).expressions) is

  -- the first of some declarators has no expressions, or others
  pub locals-without : (all : List Local) (local : Local) (others : List Local) (rest : List Tree) (n : ℕ) → all ≡ local ∷ others → (out-Local local).initial ≡ None
      → tree_in (trees (expressions_of_locals (map (view_of_local types) all) ++ rest)) n ≡ tree_in (trees (expressions_of_locals (map (view_of_local types) others) ++ rest)) n
  locals-without all local others rest n is none =
      ap (λ them. tree_in (trees (expressions_of_locals (map (view_of_local types) them) ++ rest)) n) is
      ∙ ap (λ expressions. tree_in (trees ((expressions ++ expressions_of_locals (map (view_of_local types) others)) ++ rest)) n) (local-without local none)

  pub locals-with : (all : List Local) (local : Local) (others : List Local) (rest : List Tree) (n : ℕ) (initial : Initial) → all ≡ local ∷ others → (out-Local local).initial ≡ Some initial
      → tree_in (trees (expressions_of_locals (map (view_of_local types) all) ++ rest)) n
      ≡ tree_in (trees ((view_of_initial types initial).expressions ++ (expressions_of_locals (map (view_of_local types) others) ++ rest))) n
  locals-with all local others rest n initial is some =
      ap (λ them. tree_in (trees (expressions_of_locals (map (view_of_local types) them) ++ rest)) n) is
      ∙ (ap (λ expressions. tree_in (trees ((expressions ++ expressions_of_locals (map (view_of_local types) others)) ++ rest)) n) (local-with local initial some)
      ∙ ap (λ them. tree_in (trees them) n) (append_assoc (view_of_initial types initial).expressions (expressions_of_locals (map (view_of_local types) others)) rest))

  pub initials-first : (all : List Initial) (initial : Initial) (others : List Initial) (rest : List Tree) (n : ℕ) → all ≡ initial ∷ others
      → tree_in (trees (expressions_of_items (map (view_of_initial types) all) ++ rest)) n
      ≡ tree_in (trees ((view_of_initial types initial).expressions ++ (expressions_of_items (map (view_of_initial types) others) ++ rest))) n
  initials-first all initial others rest n is =
      ap (λ them. tree_in (trees (expressions_of_items (map (view_of_initial types) them) ++ rest)) n) is
      ∙ ap (λ them. tree_in (trees them) n) (append_assoc (view_of_initial types initial).expressions (expressions_of_items (map (view_of_initial types) others)) rest)

  -- there are no more
  pub locals-none : (all : List Local) (rest : List Tree) (n : ℕ) → length all ≡ 0
      → tree_in (trees (expressions_of_locals (map (view_of_local types) all) ++ rest)) n ≡ tree_in (trees rest) n
  locals-none [] rest n h = refl
  locals-none (local ∷ all) rest n h = absurd (omega arith)

  pub initials-none : (all : List Initial) (rest : List Tree) (n : ℕ) → length all ≡ 0
      → tree_in (trees (expressions_of_items (map (view_of_initial types) all) ++ rest)) n ≡ tree_in (trees rest) n
  initials-none [] rest n h = refl
  initials-none (initial ∷ all) rest n h = absurd (omega arith)
