-- Constants and addresses are the same whatever numbers come.
use Rattle.std.specs.Prelude.{◌≡◌, false, ◌&&◌, not, if◌then◌else◌, is_some, List, [], ◌∷◌, None, slice_get, refl}
use Rattle.std.proofs.Common.{sym, ap, ap₂, ◌∙◌}
use Rattle.dm_type.specs.declared.shape.Shape.{Shape}
use Rattle.dm_type.specs.CTypes.{CType}
use Rattle.dm_type.specs.Tables.{Table, type_of}
use Rattle.dm_int.specs.declared.Op.TheVariants.{Add}
use Rattle.dm_tree.specs.declared.tree.Core.{Core, out-Core}
use Rattle.dm_tree.specs.Constants.{is_constant_form, constant_value}
use Rattle.dm_tree.specs.Initialisers.{Reach, nowhere, start, element_address, reach_of_object, reach_at, reach, reaches}
use Rattle.dm_tree.specs.Scenes.{Scene, constant_of}
use Rattle.dm_tree.specs.Trees.{Label, Spans, Tree, Trees, node, no_trees, more_trees, object, binary, address, listed}
use Rattle.dm_tree.specs.Views.{Opened, opened, opened_form, node_of, view, entries_of}
use Rattle.dm_typing.specs.declared.known.Known.{Known as Held}
use Rattle.dm_typing.specs.Known.{Known}
use Rattle.dm_typing.specs.Fitting.{IsNumbered}
use Rattle.dm_typing.specs.Sound.{scene_of}
use Rattle.dm_typing.specs.Views.{Begins, table_over, view_over, known_over, seen}
use Rattle.dm_typing.proofs.LaterLemmas.{view-later}
use Rattle.dm_typing.proofs.ValueLemmas.{entries-later, value-alone, shapes-alone}
use Rattle.dm_edecl.specs.Initialising.{has_comma, is_constant_expression, is_place, is_start, is_address_constant}
use Rattle.dm_einitial.specs.Steps.{is_address}
use Rattle.dm_tree.proofs.ViewLemmas.{view-core}
use Rattle.dm_einitial.proofs.ConstantLemmas.{comma-same}

-- ---- values

-- a tree is the same
tree-stays : (held : Held) (later : List Shape) (core : Core) → Begins held.types.shapes later → IsNumbered held.types core → view_over later core ≡ view held.types core
tree-stays held later core begins known =
    view-later held.types.shapes later core begins known ∙ shapes-alone held.types core known

module _ (held : Held) (later : List Shape) (begins : Begins held.types.shapes later) where
  values-same : (tree : Tree) → constant_value (known_over later held).types (known_over later held).declared tree ≡ constant_value (seen held).types (seen held).declared tree
  values-same tree =
      ap (λ entries. constant_value (table_over later held.types) entries tree) (entries-later held.types later held.declared begins held.entries)
      ∙ value-alone held.types later (entries_of held.types held.declared) tree

  pub comma-later : (core : Core) → IsNumbered held.types core → has_comma (known_over later held) (view_over later core) ≡ has_comma (seen held) (view held.types core)
  comma-later core known = comma-same (known_over later held) (seen held) values-same (view_over later core) ∙ ap (has_comma (seen held)) (tree-stays held later core begins known)

  pub form-later : (core : Core) → IsNumbered held.types core → is_constant_form (view_over later core) ≡ is_constant_form (view held.types core)
  form-later core known = ap is_constant_form (tree-stays held later core begins known)

  -- ---- addresses

  abbrev there : Scene
  there = scene_of (known_over later held)

  abbrev here : Scene
  here = scene_of (seen held)

  constants-same : (tree : Tree) → constant_of there tree ≡ constant_of here tree
  constants-same tree = ap (λ v. if is_constant_form tree then v else None) (values-same tree)

  reach-at-same : (label : Label) (spans : Spans) (parts : List Tree) (all : List Reach) → reach_at there label spans parts all ≡ reach_at here label spans parts all
  reach-at-same (object at) spans parts all = ap (λ entries. reach_of_object (slice_get entries at)) (entries-later held.types later held.declared begins held.entries)
  reach-at-same (binary Add) spans (left ∷ right ∷ []) (start ∷ rest) = ap (λ found. if is_some found then element_address else nowhere) (constants-same right)
  reach-at-same (binary Add) spans (left ∷ right ∷ []) (first ∷ start ∷ rest) = by-first first
    where
      by-first : (first : Reach) → reach_at there (binary Add) spans (left ∷ right ∷ []) (first ∷ start ∷ rest) ≡ reach_at here (binary Add) spans (left ∷ right ∷ []) (first ∷ start ∷ rest)
      by-first start = ap (λ found. if is_some found then element_address else nowhere) (constants-same right)
      by-first other = ap (λ found. if is_some found then element_address else nowhere) (constants-same left)
  reach-at-same label spans parts all = refl

  mutual
    reach-same : (tree : Tree) → reach there tree ≡ reach here tree
    reach-same (node label kind spans parts) = ap (reach_at there label spans (listed parts)) (reaches-same parts) ∙ reach-at-same label spans (listed parts) (reaches here parts)

    reaches-same : (parts : Trees) → reaches there parts ≡ reaches here parts
    reaches-same no_trees = refl
    reaches-same (more_trees first rest) = ap₂ (λ r rs. r ∷ rs) (reach-same first) (reaches-same rest)

  address-same : (tree : Tree) → is_address_constant (known_over later held) tree ≡ is_address_constant (seen held) tree
  address-same (node address kind spans (more_trees operand no_trees)) = ap is_place (reach-same operand)
  address-same tree = ap is_start (reach-same tree)

  pub address-later : (core : Core) → IsNumbered held.types core → is_address_constant (known_over later held) (view_over later core) ≡ is_address_constant (seen held) (view held.types core)
  address-later core known = address-same (view_over later core) ∙ ap (is_address_constant (seen held)) (tree-stays held later core begins known)

-- by the form of a tree
address-plain : (known : Known) (label : Label) (kind : CType) (spans : Spans) (parts : Trees) → is_address label ≡ false
    → is_address_constant known (node label kind spans parts) ≡ is_start (reach (scene_of known) (node label kind spans parts))
address-plain known address kind spans parts h = absurd (cc)
address-plain known label kind spans parts h = refl

module _ (known : Known) (types : Table) (core : Core) where
  abbrev seen_as : Opened → Tree
  seen_as o = node_of o (type_of types (out-Core core).kind) (out-Core core).inner (out-Core core).outer (out-Core core).place

  pub address-of : (operand : Tree) → opened_form types (out-Core core).form ≡ opened address (operand ∷ []) → is_address_constant known (view types core) ≡ is_place (reach (scene_of known) operand)
  address-of operand is = ap (is_address_constant known) (view-core types core ∙ ap seen_as is)

  pub no-address : is_address (opened_form types (out-Core core).form).label ≡ false → is_address_constant known (view types core) ≡ is_start (reach (scene_of known) (view types core))
  no-address h =
      ap (is_address_constant known) (view-core types core)
      ∙ address-plain known _ _ _ _ h
      ∙ ap (λ tree. is_start (reach (scene_of known) tree)) (sym (view-core types core))

module _ (held : Held) (later : List Shape) (begins : Begins held.types.shapes later) (core : Core) (known : IsNumbered held.types core) where
  pub expression-later : is_constant_expression (known_over later held) (view_over later core) ≡ (is_constant_form (view held.types core) && not (has_comma (seen held) (view held.types core)))
  expression-later = ap₂ (λ f c. f && not c) (form-later held later begins core known) (comma-later held later begins core known)
