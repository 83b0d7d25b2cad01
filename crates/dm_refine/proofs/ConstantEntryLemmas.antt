-- The const object that is put in (6.7.9).
--     IsConstantPut types new put d value external      its declaration, with its type and its value
use Rattle.std.specs.Prelude.{◌≡◌, refl, ℕ, true, IfSome, ℤ, List, [], ◌∷◌, map, Option, Some, None, slice_get}
use Rattle.std.specs.Option.{IsSomeAnd}
use Rattle.std.proofs.Common.{ap, sym, ◌∙◌, subst}
use Rattle.std.proofs.lemmas.Bool.{false≢true}
use Rattle.std.proofs.lemmas.List.Elements.{All-head}
use Rattle.dm_int.specs.declared.Kind.{Kind}
use Rattle.dm_int.specs.Kinds.{convert}
use Rattle.dm_int.specs.Ranges.{convert-in_range}
use Rattle.dm_type.specs.CTypes.{CType, void, integer, pointer, array, struct, function as function_type, const, is_const}
use Rattle.dm_type.specs.Tables.{Table}
use Rattle.dm_tree.specs.declared.unit.Linkage.TheVariants.{Internal}
use Rattle.dm_tree.specs.declared.unit.Sort.TheVariants.{Object}
use Rattle.dm_tree.specs.Composites.{covers}
use Rattle.dm_tree.specs.Constants.{integer_kind, constant}
use Rattle.dm_tree.specs.Initialisers.{is_fixed, Initialises, FitsEntry}
use Rattle.dm_tree.specs.Scenes.{Scene}
use Rattle.dm_tree.specs.Trees.{Declarator, one_expression, Tree, kind_of}
use Rattle.dm_tree.specs.Typing.{IsWellTyped, FormFits, ExternalFits, IsWellTypedUnit, file_scene}
use Rattle.dm_tree.specs.Units.{Declaration, External, ExternalForm, declares, defines_function, TypedUnit}
use Rattle.dm_meaning.specs.Units.{program_of}
use Rattle.dm_meaning.proofs.ConstantLemmas.{constant_parts}
use Rattle.dm_meaning.proofs.OptionLemmas.{none_is_some}
use Rattle.dm_sound.specs.TypedTrees.{IsSoundTable}
use Rattle.dm_sound.proofs.ValueLemmas.{number_same}
use Rattle.dm_align.specs.Units.{Insertion, IsPut, DeclaresConstant}
use Rattle.dm_refine.proofs.RangeLemmas.{form_kind, constant_in_range}

-- the declarator of the object
abbrev pub declarator_of : ℕ → Declarator
declarator_of d = record { declared = d; defines = true; initialiser = Some one_expression }

pub record IsConstantPut (types : Table) (new : TypedUnit) (put : Insertion) (d : ℕ) (value : ℤ) (external : External) : Type 0 where
  pub inside : IsPut put d
  pub tree : Tree
  pub form : external.form ≡ declares (declarator_of d ∷ []) (tree ∷ [])
  pub entry : Declaration
  pub found : slice_get new.declared d ≡ Some entry
  pub sort : entry.sort ≡ Object true
  pub kind : Kind
  pub typed : entry.kind ≡ const (integer kind)
  pub constant : constant types new.declared tree ≡ Some value
  pub range : convert kind value ≡ value

-- ---- its type

-- a const object with an integer constant expression as its initialiser is of that type
by_covers : (type kind : CType) (j : Kind) → integer_kind kind ≡ Some j → covers type kind ≡ true → (k : Kind) → type ≡ integer k → kind ≡ integer k
by_covers type (integer other) j e h k is = ap integer (sym (number_same k other (ap (λ t. covers t (integer other)) (sym is) ∙ h)))
by_covers type (const kind) j e h k is = absurd (false≢true (ap (λ t. covers t (const kind)) (sym is) ∙ h))
by_covers type void j e h k is = absurd (none_is_some j e)
by_covers type (pointer kind) j e h k is = absurd (none_is_some j e)
by_covers type (array kind n) j e h k is = absurd (none_is_some j e)
by_covers type (struct n) j e h k is = absurd (none_is_some j e)
by_covers type (function_type result parameters) j e h k is = absurd (none_is_some j e)

pointer_covers_none : (type kind : CType) (j : Kind) → integer_kind kind ≡ Some j → covers (pointer type) kind ≡ true → ⊥
pointer_covers_none type (pointer kind) j e h = none_is_some j e
pointer_covers_none type (integer other) j e h = false≢true h
pointer_covers_none type (const kind) j e h = false≢true h
pointer_covers_none type void j e h = false≢true h
pointer_covers_none type (array kind n) j e h = false≢true h
pointer_covers_none type (struct n) j e h = false≢true h
pointer_covers_none type (function_type result parameters) j e h = false≢true h

const_integer : (scene : Scene) (type : CType) (tree : Tree) (j : Kind) → is_const type ≡ true → integer_kind (kind_of tree) ≡ Some j → Initialises scene true type tree
    → (kind : Kind) × (type ≡ const (integer kind)) × (kind_of tree ≡ integer kind)
const_integer scene (const (integer kind)) tree j e known h = (kind, refl, by_covers (integer kind) (kind_of tree) j known h.2 kind refl)
const_integer scene (const (pointer type)) tree j e known h = absurd (pointer_covers_none type (kind_of tree) j known h.2)
const_integer scene (const void) tree j e known h = absurd (false≢true h.1)
const_integer scene (const (array type n)) tree j e known h = absurd (false≢true h.1)
const_integer scene (const (struct n)) tree j e known h = absurd (false≢true h.1)
const_integer scene (const (function_type result parameters)) tree j e known h = absurd (false≢true h.1)
const_integer scene (const (const type)) tree j e known h = absurd (false≢true h.1)
const_integer scene void tree j e known h = absurd (false≢true e)
const_integer scene (integer kind) tree j e known h = absurd (false≢true e)
const_integer scene (pointer type) tree j e known h = absurd (false≢true e)
const_integer scene (array type n) tree j e known h = absurd (false≢true e)
const_integer scene (struct n) tree j e known h = absurd (false≢true e)
const_integer scene (function_type result parameters) tree j e known h = absurd (false≢true e)

-- ---- its declaration

-- one tree has a value, where all of some have this one
single_value : (f : Tree → Option ℤ) (trees : List Tree) (value : ℤ) → map f trees ≡ Some value ∷ [] → (tree : Tree) × (trees ≡ tree ∷ []) × (f tree ≡ Some value)
single_value f [] value e = absurd (cc)
single_value f (tree ∷ []) value e = (tree, refl, cc)
single_value f (tree ∷ second ∷ rest) value e = absurd (cc)

module _ (types : Table) (sound : IsSoundTable types) (new : TypedUnit) (typed : IsWellTypedUnit types new) (put : Insertion) (d : ℕ) (value : ℤ) where
  abbrev scene : Scene
  scene = file_scene types new.declared

  of_entry : (external : External) (tree : Tree) → external.form ≡ declares (declarator_of d ∷ []) (tree ∷ []) → constant types new.declared tree ≡ Some value → IsPut put d
      → IsWellTyped scene tree → (found : Option Declaration) → slice_get new.declared d ≡ found
      → IsSomeAnd found (λ entry. (entry.name ≡ put.name) × ((entry.sort ≡ Object true) × (entry.linkage ≡ Internal) × (is_const entry.kind ≡ true)))
      → IfSome found (FitsEntry scene (declarator_of d) (tree ∷ [])) → IsConstantPut types new put d value external
  of_entry external tree form constant inside tree_typed None e names fits = absurd names
  of_entry external tree form constant inside tree_typed (Some entry) e names fits =
      let parts = constant_parts (program_of types new) tree value constant in
      let known = form_kind types sound new.declared typed.entries tree parts.0 in
      let initial = subst (λ (fixed : _). Initialises scene fixed entry.kind tree) (ap is_fixed names.1.0) fits.1.1.0 in
      let type = const_integer scene entry.kind tree known.0 names.1.2 known.1 initial in
      record {
        inside = inside;
        tree = tree;
        form = form;
        entry = entry;
        found = e;
        sort = names.1.0;
        kind = type.0;
        typed = type.1;
        constant = constant;
        range = convert-in_range type.0 value (constant_in_range types sound new.declared typed.entries scene tree tree_typed parts.0 value parts.1 type.0 type.2);
      }

  of_form : (external : External) (form : ExternalForm) → external.form ≡ form → FormFits scene form → DeclaresConstant types new put d value form → IsConstantPut types new put d value external
  of_form external (defines_function f parameters body) is fits h = absurd h
  of_form external (declares declarators trees) is fits h =
      let one = single_value (constant types new.declared) trees value h.1 in
      let whole = ap (λ (ds : List Declarator). declares ds trees) h.0 ∙ ap (declares (declarator_of d ∷ [])) one.1 in
      let fits_one = subst (FormFits scene) whole fits in
      of_entry external one.0 (is ∙ whole) one.2 h.2.0 (All-head (IsWellTyped scene) one.0 [] fits_one.0) (slice_get new.declared d) refl h.2.1 fits_one.1.0.0

  pub constant_put : (external : External) → ExternalFits scene external → DeclaresConstant types new put d value external.form → IsConstantPut types new put d value external
  constant_put external fits h = of_form external external.form refl fits.2 h
