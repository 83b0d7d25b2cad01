-- Assignments, as the code types them.
use Rattle.std.specs.Prelude.{◌≡◌, ℕ, Bool, true, false, ◌&&◌, ◌||◌, if◌then◌else◌, is_some, List, [], Option, Some, None, option_and_then, refl}
use Rattle.std.proofs.Common.{sym, ap, ◌∙◌}
use Rattle.dm_int.specs.declared.Kind.{Kind}
use Rattle.dm_int.specs.declared.Kind.TheVariants as k
use Rattle.dm_int.specs.declared.Op.{Op}
use Rattle.dm_int.specs.declared.Op.TheVariants as o
use Rattle.dm_type.specs.declared.shape.Shape.{Shape}
use Rattle.dm_type.specs.declared.shape.Shape.TheVariants.{Void, Integer, Pointer, Array, Struct, Function, Const}
use Rattle.dm_type.specs.CTypes.{CType, integer, struct, bare}
use Rattle.dm_type.specs.Tables.{type_of, as_is, IsId, Has}
use Rattle.dm_syn.specs.declared.symbol.Symbol.{Symbol}
use Rattle.dm_syn.specs.declared.symbol.Symbol.TheVariants as symbol
use Rattle.dm_tree.specs.declared.tree.Core.{Core, out-Core}
use Rattle.dm_tree.specs.Constants.{integer_kind}
use Rattle.dm_tree.specs.Scenes.{target, is_integer}
use Rattle.dm_tree.specs.Trees.{Tree, kind_of}
use Rattle.dm_typing.specs.declared.extent.Extent.{Extent}
use Rattle.dm_typing.specs.declared.known.Known.{Known as Held}
use Rattle.dm_typing.specs.Conversions.{is_same, is_null, as_kind}
use Rattle.dm_typing.specs.Fitting.{IsNumbered}
use Rattle.dm_typing.specs.Known.{Known, Setting}
use Rattle.dm_typing.specs.Operators.{row_at, operator_of_assignment}
use Rattle.dm_typing.specs.Rules.{is_modifiable, pointer_assignable, assignable_to, is_assignable, moves, points_to_complete, updated_integer, updated_by, updated}
use Rattle.dm_typing.specs.Typing.{typed_update, typed_assignment}
use Rattle.dm_typing.specs.Views.{Begins, type_over, view_over, known_over, seen}
use Rattle.dm_ebinary.specs.declared.ways.Sides.{Sides}
use Rattle.dm_ebinary.specs.Pairs.{sides, both_kinds, sides_of}
use Rattle.dm_ebinary.specs.Stores.{fits_kind, may_point, may_move}
use Rattle.dm_typing.proofs.GivesLemmas.{complete-alone}
use Rattle.dm_typing.proofs.LaterLemmas.{type-later}
use Rattle.dm_typing.proofs.ValueLemmas.{kind-later, kind-view, bare-later}

-- ---- symbols

-- an assignment other than = is compound
pub assignment-other : (setting : Setting) (known : Known) (extent : Extent) (operator : ℕ) (object value : Tree) (it : Symbol) → (it ≡ symbol.Equals → ⊥)
    → typed_assignment setting known extent operator object value it ≡ typed_update setting known extent object value (option_and_then operator_of_assignment (row_at setting.source operator))
assignment-other setting known extent operator object value symbol.Equals unlike = absurd (unlike refl)
assignment-other setting known extent operator object value it unlike = refl

-- ---- what may be assigned

kinds-fit : (known : Known) (tree : Tree) (kind : Kind) → assignable_to known tree (integer kind) ≡ fits_kind kind (kind_of tree)
kinds-fit known tree k.Bool = refl
kinds-fit known tree k.Char = refl
kinds-fit known tree k.SChar = refl
kinds-fit known tree k.UChar = refl
kinds-fit known tree k.Short = refl
kinds-fit known tree k.UShort = refl
kinds-fit known tree k.Int = refl
kinds-fit known tree k.UInt = refl
kinds-fit known tree k.Long = refl
kinds-fit known tree k.ULong = refl
kinds-fit known tree k.LLong = refl
kinds-fit known tree k.ULLong = refl

-- nothing is assigned to an object of another type
pub never-assignable : (known : Known) (tree : Tree) (types : List CType) (shape : Shape) → ((kind : Kind) → shape ≡ Integer kind → ⊥) → ((to : ℕ) → shape ≡ Pointer to → ⊥)
    → ((n : ℕ) → shape ≡ Struct n → ⊥) → assignable_to known tree (as_is types shape) ≡ false
never-assignable known tree types Void one two three = refl
never-assignable known tree types (Integer kind) one two three = absurd (one kind refl)
never-assignable known tree types (Pointer to) one two three = absurd (two to refl)
never-assignable known tree types (Array id n) one two three = refl
never-assignable known tree types (Struct n) one two three = absurd (three n refl)
never-assignable known tree types (Function result parameters) one two three = refl
never-assignable known tree types (Const id) one two three = refl

module _ (held : Held) (later : List Shape) (value : Core) (begins : Begins held.types.shapes later) (numbered : IsNumbered held.types value) where
  abbrev tree : Tree
  tree = view_over later value

  abbrev now : Known
  now = known_over later held

  -- what a value points to
  value-target : (found : Option CType) → found ≡ target (type_of held.types (out-Core value).kind) → target (kind_of tree) ≡ found
  value-target found is = ap target (kind-later held.types.shapes later value begins numbered) ∙ sym is

  pub assigned-pointing : (to from : CType) → Some from ≡ target (type_of held.types (out-Core value).kind) → (test : Bool) → test ≡ may_point to from
      → pointer_assignable now tree to (target (kind_of tree)) ≡ (test || is_null now tree)
  assigned-pointing to from is test h =
      ap (pointer_assignable now tree to) (value-target (Some from) is) ∙ ap (λ t. t || is_null now tree) (sym h)

  pub assigned-null : (to : CType) → None ≡ target (type_of held.types (out-Core value).kind) → pointer_assignable now tree to (target (kind_of tree)) ≡ is_null now tree
  assigned-null to is = ap (pointer_assignable now tree to) (value-target None is)

  module _ (kind plain : ℕ) (inside : IsId held.types kind) (has : Has held.types plain (bare (type_of held.types kind))) where
    -- by the type without its const
    pub assigned-by : (type : CType) → type_of held.types plain ≡ type → is_assignable now tree (type_over later kind) ≡ assignable_to now tree type
    assigned-by type is =
        ap (assignable_to now tree) (sym (bare-later held.types later kind plain begins inside has) ∙ type-later held.types.shapes later plain begins has.0 ∙ is)

    pub assigned-integer : (it : Kind) (test : Bool) → type_of held.types plain ≡ integer it → test ≡ fits_kind it (type_of held.types (out-Core value).kind)
        → test ≡ is_assignable now tree (type_over later kind)
    assigned-integer it test is h =
        h ∙ sym (assigned-by (integer it) is ∙ kinds-fit now tree it ∙ ap (fits_kind it) (kind-later held.types.shapes later value begins numbered))

    pub assigned-struct : (n : ℕ) (test : Bool) → type_of held.types plain ≡ struct n → test ≡ is_same (type_of held.types (out-Core value).kind) (type_of held.types plain)
        → test ≡ is_assignable now tree (type_over later kind)
    assigned-struct n test is h =
        h ∙ sym (assigned-by (struct n) is ∙ ap (λ t. is_same t (struct n)) (kind-later held.types.shapes later value begins numbered)
        ∙ ap (is_same (type_of held.types (out-Core value).kind)) (sym is))

-- ---- compound assignments

kinds-none : (known : Known) (op : Op) (type : CType) (value : Tree) (left right : Option Kind) → None ≡ both_kinds left right
    → updated_by known op type value left right ≡ (if is_some right && moves op && points_to_complete known type then Some (type, value) else None)
kinds-none known op type value (Some left) (Some right) h = absurd (cc)
kinds-none known op type value None (Some right) h = refl
kinds-none known op type value (Some left) None h = refl
kinds-none known op type value None None h = refl

kinds-both : (known : Known) (op : Op) (type : CType) (value : Tree) (left right : Option Kind) (kinds : Sides) → Some kinds ≡ both_kinds left right
    → updated_by known op type value left right ≡ Some (updated_integer op kinds.left kinds.right value)
kinds-both known op type value (Some left) (Some right) kinds h =
    let same : kinds ≡ sides left right = cc in ap (λ (it : Sides). Some (updated_integer op it.left it.right value)) (sym same)
kinds-both known op type value None (Some right) kinds h = absurd (cc)
kinds-both known op type value (Some left) None kinds h = absurd (cc)
kinds-both known op type value None None kinds h = absurd (cc)

-- the type in which an operator works, and its right operand, by the kinds to which they are brought
abbrev pub brought-kinds : Tree → Sides → CType × Tree
brought-kinds value it = (integer it.left, as_kind it.right value)

-- the kinds to which the operands are brought
pub update-brought : (op : Op) (left right : Kind) (value : Tree)
    → updated_integer op left right value ≡ (integer (sides_of op left right).left, as_kind (sides_of op left right).right value)
update-brought o.Add left right value = refl
update-brought o.Sub left right value = refl
update-brought o.Mul left right value = refl
update-brought o.Div left right value = refl
update-brought o.Rem left right value = refl
update-brought o.Shl left right value = refl
update-brought o.Shr left right value = refl
update-brought o.Less left right value = refl
update-brought o.Greater left right value = refl
update-brought o.LessEq left right value = refl
update-brought o.GreaterEq left right value = refl
update-brought o.Equal left right value = refl
update-brought o.NotEqual left right value = refl
update-brought o.And left right value = refl
update-brought o.Xor left right value = refl
update-brought o.Or left right value = refl

pub two-parts : (one type : CType) (value other : Tree) → one ≡ type → value ≡ other → ◌≡◌ {A = CType × Tree} (one, value) (type, other)
two-parts one type value other p q = ap (λ t. (t, value)) p ∙ ap (λ t. (type, t)) q

module _ (held : Held) (later : List Shape) (op : Op) (object plain : ℕ) (value : Core) (begins : Begins held.types.shapes later) (inside : IsId held.types object)
    (numbered : IsNumbered held.types value) where
  abbrev operand : Tree
  operand = view_over later value

  abbrev known : Known
  known = known_over later held

  -- the kinds of the object and of the value
  kinds-over : both_kinds (integer_kind (type_over later object)) (integer_kind (kind_of operand)) ≡ both_kinds (integer_kind (type_of held.types object)) (integer_kind (type_of held.types (out-Core value).kind))
  kinds-over =
      ap (λ t. both_kinds (integer_kind t) (integer_kind (kind_of operand))) (type-later held.types.shapes later object begins inside)
      ∙ ap (λ t. both_kinds (integer_kind (type_of held.types object)) (integer_kind t)) (kind-later held.types.shapes later value begins numbered)

  pub updated-integers : (kinds : Sides) → Some kinds ≡ both_kinds (integer_kind (type_of held.types object)) (integer_kind (type_of held.types (out-Core value).kind))
      → updated_by known op (bare (type_over later object)) operand (integer_kind (type_over later object)) (integer_kind (kind_of operand)) ≡ Some (updated_integer op kinds.left kinds.right operand)
  updated-integers kinds is =
      kinds-both known op (bare (type_over later object)) operand (integer_kind (type_over later object)) (integer_kind (kind_of operand)) kinds (is ∙ sym kinds-over)

  module _ (has : Has held.types plain (bare (type_of held.types object))) where
    plainly : type_over later plain ≡ bare (type_over later object)
    plainly = bare-later held.types later object plain begins inside has

    abbrev moved_if : Bool → CType → Option (CType × Tree)
    moved_if test type = if test then Some (type, operand) else None

    pub updated-pointer : None ≡ both_kinds (integer_kind (type_of held.types object)) (integer_kind (type_of held.types (out-Core value).kind))
        → (if may_move (seen held) op (type_of held.types plain) (kind_of operand) then Some (type_over later plain, operand) else None)
        ≡ updated_by known op (bare (type_over later object)) operand (integer_kind (type_over later object)) (integer_kind (kind_of operand))
    updated-pointer is =
        sym (kinds-none known op (bare (type_over later object)) operand (integer_kind (type_over later object)) (integer_kind (kind_of operand)) (is ∙ sym kinds-over)
        ∙ ap (λ t. moved_if (is_integer (kind_of operand) && moves op && points_to_complete known t) t) (sym plainly)
        ∙ ap (λ t. moved_if (is_integer (kind_of operand) && moves op && points_to_complete known t) (type_over later plain)) (type-later held.types.shapes later plain begins has.0)
        ∙ ap (λ t. moved_if (is_integer (kind_of operand) && moves op && is_some t) (type_over later plain)) (complete-alone later held (type_of held.types plain)))

-- what moves a pointer, whatever numbers come
pub move-later : (held : Held) (later : List Shape) (op : Op) (to : CType) (value : Core) → Begins held.types.shapes later → IsNumbered held.types value
    → (test : Bool) → test ≡ may_move (seen held) op to (type_of held.types (out-Core value).kind) → may_move (seen held) op to (kind_of (view_over later value)) ≡ test
move-later held later op to value begins numbered test h =
    ap (may_move (seen held) op to) (kind-later held.types.shapes later value begins numbered) ∙ sym h

-- an object that may not be written is not updated
pub not-updated : (known : Known) (op : Op) (object value : Tree) → false ≡ is_modifiable known object → updated known op object value ≡ None
not-updated known op object value h =
    ap (λ t. if t then updated_by known op (bare (kind_of object)) value (integer_kind (kind_of object)) (integer_kind (kind_of value)) else None) (sym h)

pub updated-so : (known : Known) (op : Op) (object value : Tree) → true ≡ is_modifiable known object
    → updated known op object value ≡ updated_by known op (bare (kind_of object)) value (integer_kind (kind_of object)) (integer_kind (kind_of value))
updated-so known op object value h =
    ap (λ t. if t then updated_by known op (bare (kind_of object)) value (integer_kind (kind_of object)) (integer_kind (kind_of value)) else None) (sym h)

-- by the type of the object's number
pub updated-found : (later : List Shape) (known : Known) (op : Op) (object : Core) (value : Tree) (found : Option (CType × Tree)) → true ≡ is_modifiable known (view_over later object)
    → found ≡ updated_by known op (bare (type_over later (out-Core object).kind)) value (integer_kind (type_over later (out-Core object).kind)) (integer_kind (kind_of value))
    → updated known op (view_over later object) value ≡ found
updated-found later known op object value found h is =
    updated-so known op (view_over later object) value h
    ∙ ap (λ t. updated_by known op (bare t) value (integer_kind t) (integer_kind (kind_of value))) (kind-view (record { shapes = later; structs = [] }) object)
    ∙ sym is
