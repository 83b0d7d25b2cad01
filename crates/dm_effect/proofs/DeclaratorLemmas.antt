-- The declarators of the code, with the expressions of their initialisers.
use Rattle.std.proofs.Common.{◌≡◌, ℕ, ◌+◌, Bool, ◌&&◌, ◌==◌, not, List, [], ◌∷◌, ◌++◌, map, length, take, drop, Option, Some, None, length-append, refl, ap, ap₂, sym, subst, ◌∙◌}
use Rattle.std.specs.List.{list_any}
use Rattle.std.proofs.Common.{rules}
use Rattle.std.proofs.Math.Seq.{drop-append_seam, take-append_seam}
use Rattle.dm_type.specs.Tables.{Table}
use Rattle.dm_tree.proofs.ListLemmas.{listed-trees}
use Rattle.dm_tree.specs.declared.tree.Core.{Core, out-Core}
use Rattle.dm_tree.specs.declared.tree.Core as q
use Rattle.dm_tree.specs.declared.tree.Form.{Form}
use Rattle.dm_tree.specs.declared.tree.Form.TheOpen as layer
use Rattle.dm_tree.specs.declared.tree.Form.TheFolds as folds
use Rattle.dm_tree.specs.declared.tree.Form.TheVariants as form
use Rattle.dm_tree.specs.declared.tree.Initial.{Initial, roll-Initial}
use Rattle.dm_tree.specs.declared.tree.Initial.TheVariants as initials
use Rattle.dm_tree.specs.declared.tree.Local.{Local, out-Local}
use Rattle.dm_tree.specs.Trees as label
use Rattle.dm_tree.specs.Trees.{Tree, expressions_in, expressions_in_items, listed, trees}
use Rattle.dm_tree.specs.Views.{Opened, OpenedInitial, OpenedLocal, opened, opened_form, view, view_of_local, form_layer, initial_layer, core_layer, local_layer, items_of, expressions_of_items, declarators_of, expressions_of_locals}
use Rattle.dm_meaning.specs.Statements.{expressions_of, with_expressions}
use Rattle.dm_meaning.specs.Statements as statements
use Rattle.dm_meaning.specs.Wholes.{view_of_initial}
use Rattle.dm_effect.specs.Entities.{locals_here}
use Rattle.dm_effect.specs.Questions.{as_local}
use Rattle.dm_effect.specs.Safe.{holds, initialises_apart}
use Rattle.dm_effect.proofs.EffectLemmas.{seen-as}

-- ---- an initialiser has as many expressions as its form says

abbrev Counted : OpenedInitial → Type 0
Counted initial = length initial.expressions ≡ expressions_in initial.initialiser

module _ (types : Table) where
  abbrev Any : Type 0 → Type 0
  Any A = A × Unit {0}

  abbrev Initials : Type 0
  Initials = (x : Initial) × Counted (view_of_initial types x)

  abbrev stripped : layer.Initial-F (Any Form) Initials (Any Core) (Any Local) → layer.Initial-F Form Initial Core Local
  stripped y = folds.map-Initial (Any Form) Initials (Any Core) (Any Local) Form Initial Core Local (λ e. e.0) (λ e. e.0) (λ e. e.0) (λ e. e.0) y

  abbrev seen_in : layer.Initial-F (Any Form) Initials (Any Core) (Any Local) → OpenedInitial
  seen_in y = initial_layer (folds.map-Initial Form Initial Core Local Opened OpenedInitial Tree OpenedLocal (opened_form types) (view_of_initial types) (view types) (view_of_local types) (stripped y))

  items-counted : (items : List Initials)
      → length (expressions_of_items (map (view_of_initial types) (map (λ (e : Initials). e.0) items))) ≡ expressions_in_items (items_of (map (view_of_initial types) (map (λ (e : Initials). e.0) items)))
  items-counted [] = refl
  items-counted (e ∷ items) =
      length-append (view_of_initial types e.0).expressions _
      ∙ (ap (λ n. n + length (expressions_of_items (map (view_of_initial types) (map (λ (e : Initials). e.0) items)))) e.1
      ∙ ap (λ n. expressions_in (view_of_initial types e.0).initialiser + n) (items-counted items))

  step : (y : layer.Initial-F (Any Form) Initials (Any Core) (Any Local)) → Counted (seen_in y)
  step (layer.Value a) = refl
  step (layer.Parts items) = items-counted items

  whole : (y : layer.Initial-F (Any Form) Initials (Any Core) (Any Local)) → Counted (view_of_initial types (roll-Initial (stripped y)))
  whole y =
      let here : view_of_initial types (roll-Initial (stripped y)) ≡ seen_in y = folds.fold-roll-Initial Opened OpenedInitial Tree OpenedLocal (form_layer types) initial_layer (core_layer types) local_layer (stripped y) in
      subst Counted (sym here) (step y)

  initial-counted : (initial : Initial) → Counted (view_of_initial types initial)
  initial-counted = folds.ind-Initial (λ x. Unit {0}) (λ x. Counted (view_of_initial types x)) (λ x. Unit {0}) (λ x. Unit {0})
      (λ x y is. tt) (λ x y is. subst (λ z. Counted (view_of_initial types (roll-Initial z))) is (whole y)) (λ x y is. tt) (λ x y is. tt)

  -- ---- and so have declarators

  abbrev CountedLocal : OpenedLocal → Type 0
  CountedLocal local = length local.expressions ≡ expressions_of local.declarator.initialiser

  abbrev local_seen : ℕ → Bool → Option Initial → OpenedLocal
  local_seen declared defines initial = local_layer (folds.map-Local Form Initial Core Local Opened OpenedInitial Tree OpenedLocal (opened_form types) (view_of_initial types) (view types) (view_of_local types) (record { declared = declared; defines = defines; initial = initial }))

  local-seen : (local : Local) → view_of_local types local ≡ local_seen (out-Local local).declared (out-Local local).defines (out-Local local).initial
  local-seen local = folds.fold_out-Local Opened OpenedInitial Tree OpenedLocal (form_layer types) initial_layer (core_layer types) local_layer local

  by-initial : (declared : ℕ) (defines : Bool) (initial : Option Initial) → CountedLocal (local_seen declared defines initial)
  by-initial declared defines None = refl
  by-initial declared defines (Some initial) = initial-counted initial

  local-counted : (local : Local) → CountedLocal (view_of_local types local)
  local-counted local = subst CountedLocal (sym (local-seen local)) (by-initial (out-Local local).declared (out-Local local).defines (out-Local local).initial)

  -- declarators with their expressions, one after another
  pub locals-with : (locals : List Local) → with_expressions (declarators_of (map (view_of_local types) locals)) (expressions_of_locals (map (view_of_local types) locals)) ≡ map as_local (map (view_of_local types) locals)
  locals-with [] = refl
  locals-with (local ∷ locals) =
      let one = view_of_local types local in
      let others = expressions_of_locals (map (view_of_local types) locals) in
      let count = local-counted local in
      let front : take (expressions_of one.declarator.initialiser) (one.expressions ++ others) ≡ one.expressions = ap (λ n. take n (one.expressions ++ others)) (sym count) ∙ take-append_seam one.expressions others in
      let back : drop (expressions_of one.declarator.initialiser) (one.expressions ++ others) ≡ others = ap (λ n. drop n (one.expressions ++ others)) (sym count) ∙ drop-append_seam one.expressions others in
      ap₂ (λ (expressions : List Tree) (rest : List statements.Local). record { declarator = one.declarator; expressions = expressions } ∷ rest) front
      (ap (with_expressions (declarators_of (map (view_of_local types) locals))) back ∙ locals-with locals)

  opened-Declare : (lengths : List Core) (locals : List Local) → opened_form types (form.Declare lengths locals)
      ≡ opened (label.declare (length (map (view types) lengths)) (declarators_of (map (view_of_local types) locals))) (map (view types) lengths ++ expressions_of_locals (map (view_of_local types) locals))
  opened-Declare lengths locals = search (rules, q.the_lemmas)

  -- those of a declaration
  pub locals-are : (core : Core) (lengths : List Core) (locals : List Local) → (out-Core core).form ≡ form.Declare lengths locals → locals_here (view types core) ≡ map as_local (map (view_of_local types) locals)
  locals-are core lengths locals is =
      let before = map (view types) lengths in
      let behind = expressions_of_locals (map (view_of_local types) locals) in
      let declarators = declarators_of (map (view_of_local types) locals) in
      seen-as types core locals_here (form.Declare lengths locals) (opened (label.declare (length before) declarators) (before ++ behind)) is (opened-Declare lengths locals)
      ∙ ap (with_expressions declarators) (ap (drop (length before)) (listed-trees (before ++ behind)) ∙ drop-append_seam before behind)
      ∙ locals-with locals

  pub locals-Declare : (test : statements.Local → Bool) (core : Core) (lengths : List Core) (locals : List Local) → (out-Core core).form ≡ form.Declare lengths locals
      → list_any test (locals_here (view types core)) ≡ list_any test (map as_local (map (view_of_local types) locals))
  locals-Declare test core lengths locals is = ap (list_any test) (locals-are core lengths locals is)

  -- a declarator with an initialiser
  pub local-initialises : (token d : ℕ) (local : Local) (initial : Initial) → (out-Local local).initial ≡ Some initial
      → initialises_apart token d (as_local (view_of_local types local)) ≡ ((out-Local local).declared == d && not (list_any (holds token) (view_of_initial types initial).expressions))
  local-initialises token d local initial is =
      ap (λ (one : OpenedLocal). initialises_apart token d (as_local one)) (local-seen local)
      ∙ ap (λ (found : Option Initial). initialises_apart token d (as_local (local_seen (out-Local local).declared (out-Local local).defines found))) is

  -- ---- initialisers

  opened-Value : (tree : Core) → (view_of_initial types (initials.Value tree)).expressions ≡ view types tree ∷ []
  opened-Value tree = search (rules, q.the_lemmas)

  opened-Parts : (list : List Initial) → (view_of_initial types (initials.Parts list)).expressions ≡ expressions_of_items (map (view_of_initial types) list)
  opened-Parts list = search (rules, q.the_lemmas)

  pub value-expressions : (initial : Initial) (tree : Core) → initial ≡ initials.Value tree → (view_of_initial types initial).expressions ≡ view types tree ∷ []
  value-expressions initial tree is = ap (λ (one : Initial). (view_of_initial types one).expressions) is ∙ opened-Value tree

  pub parts-expressions : (initial : Initial) (list : List Initial) → initial ≡ initials.Parts list → (view_of_initial types initial).expressions ≡ expressions_of_items (map (view_of_initial types) list)
  parts-expressions initial list is = ap (λ (one : Initial). (view_of_initial types one).expressions) is ∙ opened-Parts list
