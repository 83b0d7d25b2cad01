-- Values and conversions, as the code makes them.
use Rattle.std.specs.Prelude.{◌≡◌, ℕ, ℤ, pos, ◌<◌, ◌==◌, Bool, true, false, ◌&&◌, nat_lt, IsTrue, List, [], ◌∷◌, length, if◌then◌else◌, Option, Some, None, option_map, refl}
use Rattle.std.proofs.Common.{sym, ap, ◌∙◌, arith}
use Rattle.std.proofs.lemmas.Bool.{and_parts, and_from, ltb-true, lt-ltb}
use Rattle.std.proofs.lemmas.List.Elements.{All-head, All-tail}
use Rattle.dm_int.specs.Kinds.{number_of}
use Rattle.dm_type.specs.declared.shape.Shape.{Shape}
use Rattle.dm_type.specs.CTypes.{CType, CTypes, void, integer, pointer, array, struct, function, const, no_types, more_types, bare}
use Rattle.dm_type.specs.declared.layout.Layout.{Layout}
use Rattle.dm_type.specs.Layouts.{layout_of, size_of, times}
use Rattle.dm_type.specs.Tables.{Table, type_of, IsId, Has, AreDistinct}
use Rattle.dm_tree.specs.declared.tree.Core.{Core, out-Core}
use Rattle.dm_tree.specs.declared.tree.Form.TheVariants as form
use Rattle.dm_tree.specs.declared.unit.Declared.{Declared}
use Rattle.dm_tree.specs.Units.{Declaration}
use Rattle.dm_tree.specs.Constants.{is_constant_form, value_at, kinds_in, constant_value, constant_values, constant}
use Rattle.dm_tree.specs.Scenes.{is_lvalue}
use Rattle.dm_tree.specs.Trees.{Label, Tree, Trees, trees, node, no_trees, more_trees, Spans, read, decay, convert as conversion, sizeof_tree, sizeof_kind, kind_of}
use Rattle.dm_tree.specs.TypeNumbers.{are_known, are_known_in_form}
use Rattle.dm_tree.specs.ViewLaws.{stays}
use Rattle.dm_tree.specs.Views.{Opened, opened, opened_form, node_of, view, entries_of}
use Rattle.dm_typing.specs.declared.known.Known.{Known as Held}
use Rattle.dm_typing.specs.Known.{Known}
use Rattle.dm_typing.specs.Conversions.{is_same, are_same, is_same_length, over, value_of_lvalue, as_value, as_type, constant_of, is_zero, is_null}
use Rattle.dm_typing.specs.Fitting.{HaveTypes, IsNumbered}
use Rattle.dm_typing.specs.Views.{Begins, type_over, table_over, view_over, known_over, elements, is_plain_void_pointer, is_conversion}
use Rattle.dm_typing.proofs.FormLemmas.{view-core, known-core, opened-Member}
use Rattle.dm_typing.proofs.KindLemmas.{same-numbers, numbers-same}
use Rattle.dm_typing.proofs.LaterLemmas.{type-later, view-later}
use Rattle.dm_typing.proofs.TypeLemmas.{both-true, same-types}

-- ---- types

same-length : (n : Option ℕ) → is_same_length n n ≡ true
same-length None = refl
same-length (Some n) = numbers-same n n refl

mutual
  -- a type is one with itself
  pub same-itself : (a : CType) → is_same a a ≡ true
  same-itself void = refl
  same-itself (integer kind) = numbers-same (number_of kind) (number_of kind) refl
  same-itself (pointer a) = same-itself a
  same-itself (array a n) = both-true (is_same_length n n) (is_same a a) (same-length n) (same-itself a)
  same-itself (struct n) = numbers-same n n refl
  same-itself (function a parameters) = both-true (is_same a a) (are_same parameters parameters) (same-itself a) (same-themselves parameters)
  same-itself (const a) = same-itself a

  same-themselves : (types : CTypes) → are_same types types ≡ true
  same-themselves no_types = refl
  same-themselves (more_types a types) = both-true (is_same a a) (are_same types types) (same-itself a) (same-themselves types)

-- equal types have one number
pub same-number : (types : Table) (a b : ℕ) → AreDistinct types → IsId types a → IsId types b → (a == b) ≡ is_same (type_of types a) (type_of types b)
same-number types a b distinct left right = go (is_same (type_of types a) (type_of types b)) refl
  where
    go : (test : Bool) → is_same (type_of types a) (type_of types b) ≡ test → (a == b) ≡ test
    go true h = numbers-same a b (distinct a b left right (same-types (type_of types a) (type_of types b) h))
    go false h = differ (a == b) refl
      where
        differ : (equal : Bool) → (a == b) ≡ equal → (a == b) ≡ false
        differ false e = e
        differ true e =
            let one : a ≡ b = same-numbers a b e in
            let same : is_same (type_of types a) (type_of types b) ≡ true = ap (λ n. is_same (type_of types a) (type_of types n)) (sym one) ∙ same-itself (type_of types a) in
            absurd (cc)

-- ---- nodes

-- the type of a tree is that of its number
pub kind-view : (types : Table) (core : Core) → kind_of (view types core) ≡ type_of types (out-Core core).kind
kind-view types core = ap kind_of (view-core types core)

pub kind-known : (n : ℕ) (core : Core) → IsTrue (are_known n core) → (out-Core core).kind < n
kind-known n core known =
    ltb-true (out-Core core).kind n (and_parts (nat_lt (out-Core core).kind n) (are_known_in_form n (out-Core core).form) (sym (known-core n core) ∙ known)).0

pub form-known : (n : ℕ) (core : Core) → IsTrue (are_known n core) → IsTrue (are_known_in_form n (out-Core core).form)
form-known n core known =
    (and_parts (nat_lt (out-Core core).kind n) (are_known_in_form n (out-Core core).form) (sym (known-core n core) ∙ known)).1

pub node-known : (n kind : ℕ) (made : Core) (rest : Bool) → are_known n made ≡ (nat_lt kind n && rest) → kind < n → IsTrue rest → IsTrue (are_known n made)
node-known n kind made rest is inside others = is ∙ and_from (nat_lt kind n) rest (lt-ltb kind n inside) others

-- ---- values

pub value-is : (tree : Tree) → is_lvalue tree ≡ true → as_value tree ≡ value_of_lvalue (kind_of tree) tree
value-is tree h = ap (λ b. if b then value_of_lvalue (kind_of tree) tree else tree) h

pub value-stays : (tree : Tree) → is_lvalue tree ≡ false → as_value tree ≡ tree
value-stays tree h = ap (λ b. if b then value_of_lvalue (kind_of tree) tree else tree) h

pub value-of-array : (type to : CType) (tree : Tree) → elements type ≡ Some to → value_of_lvalue type tree ≡ over decay (pointer to) tree
value-of-array (array type n) to tree h = let e : type ≡ to = cc in ap (λ t. over decay (pointer t) tree) e
value-of-array type to tree h = absurd (cc)

pub value-of-other : (type : CType) (tree : Tree) → elements type ≡ None → value_of_lvalue type tree ≡ over read (bare type) tree
value-of-other (array type n) tree h = absurd (cc)
value-of-other type tree h = refl

-- ---- conversions

pub converts-not : (kind : CType) (tree : Tree) → is_same (kind_of tree) (bare kind) ≡ true → as_type kind tree ≡ tree
converts-not kind tree h = ap (λ b. if b then tree else over conversion (bare kind) tree) h

pub converts : (kind : CType) (tree : Tree) → is_same (kind_of tree) (bare kind) ≡ false → as_type kind tree ≡ over conversion (bare kind) tree
converts kind tree h = ap (λ b. if b then tree else over conversion (bare kind) tree) h

-- the type of a tree, whatever numbers come
pub kind-later : (shapes later : List Shape) (core : Core) → Begins shapes later → IsTrue (are_known (length shapes) core)
    → kind_of (view_over later core) ≡ type_over shapes (out-Core core).kind
kind-later shapes later core begins known =
    kind-view (record { shapes = later; structs = [] }) core ∙ type-later shapes later (out-Core core).kind begins (kind-known (length shapes) core known)

pub bare-later : (table : Table) (later : List Shape) (kind plain : ℕ) → Begins table.shapes later → IsId table kind → Has table plain (bare (type_of table kind))
    → type_over later plain ≡ bare (type_over later kind)
bare-later table later kind plain begins inside has =
    type-later table.shapes later plain begins has.0 ∙ (has.1 ∙ ap bare (sym (type-later table.shapes later kind begins inside)))

pub same-later : (table : Table) (later : List Shape) (core : Core) (kind plain : ℕ) (same : Bool) → Begins table.shapes later → IsNumbered table core → IsId table kind
    → Has table plain (bare (type_of table kind)) → same ≡ is_same (type_of table (out-Core core).kind) (type_of table plain)
    → is_same (kind_of (view_over later core)) (bare (type_over later kind)) ≡ same
same-later table later core kind plain same begins known inside has is =
    ap (λ t. is_same t (bare (type_over later kind))) (kind-later table.shapes later core begins known)
    ∙ ap (is_same (type_of table (out-Core core).kind)) (ap bare (type-later table.shapes later kind begins inside) ∙ sym has.1)
    ∙ sym is

-- an array's value is the pointer to its first element, and that of another object is read
pub array-value : (table : Table) (later : List Shape) (core : Core) (inner kind : ℕ) → Begins table.shapes later → IsNumbered table core → IsId table inner
    → Some (type_of table inner) ≡ elements (type_of table (out-Core core).kind) → is_lvalue (view_over later core) ≡ true → type_over later kind ≡ pointer (type_over later inner)
    → over decay (type_over later kind) (view_over later core) ≡ as_value (view_over later core)
array-value table later core inner kind begins known inside is lvalue points =
    let tree = view_over later core in
    let type : kind_of tree ≡ type_of table (out-Core core).kind = kind-later table.shapes later core begins known in
    let element : elements (kind_of tree) ≡ Some (type_over later inner) = ap elements type ∙ (sym is ∙ ap Some (sym (type-later table.shapes later inner begins inside))) in
    ap (λ t. over decay t tree) points ∙ sym (value-is tree lvalue ∙ value-of-array (kind_of tree) (type_over later inner) tree element)

pub object-value : (table : Table) (later : List Shape) (core : Core) (plain : ℕ) → Begins table.shapes later → IsNumbered table core
    → Has table plain (bare (type_of table (out-Core core).kind)) → None ≡ elements (type_of table (out-Core core).kind) → is_lvalue (view_over later core) ≡ true
    → over read (type_over later plain) (view_over later core) ≡ as_value (view_over later core)
object-value table later core plain begins known has is lvalue =
    let tree = view_over later core in
    let type : kind_of tree ≡ type_of table (out-Core core).kind = kind-later table.shapes later core begins known in
    let element : elements (kind_of tree) ≡ None = ap elements type ∙ sym is in
    let plainly : type_over later plain ≡ bare (kind_of tree) = type-later table.shapes later plain begins has.0 ∙ (has.1 ∙ ap bare (sym type)) in
    ap (λ t. over read t tree) plainly ∙ sym (value-is tree lvalue ∙ value-of-other (kind_of tree) tree element)

-- an lvalue by its form
pub lvalue-member : (types : Table) (core whole : Core) (k : ℕ) → (out-Core core).form ≡ form.Member whole k → is_lvalue (view types core) ≡ is_lvalue (view types whole)
lvalue-member types core whole k is =
    let seen : Opened → Tree = λ o. node_of o (type_of types (out-Core core).kind) (out-Core core).inner (out-Core core).outer (out-Core core).place in
    ap is_lvalue (view-core types core) ∙ ap (λ f. is_lvalue (seen (opened_form types f))) is ∙ ap (λ o. is_lvalue (seen o)) (opened-Member types whole k)

-- ---- constants

abbrev of_type : Declared → CType → Declaration
of_type entry type = record { name = entry.name; sort = entry.sort; kind = type; linkage = entry.linkage; place = entry.place }

pub entries-later : (old : Table) (later : List Shape) (entries : List Declared) → Begins old.shapes later → HaveTypes old entries
    → entries_of (table_over later old) entries ≡ entries_of old entries
entries-later old later [] begins all = refl
entries-later old later (entry ∷ entries) begins all =
    ap (λ t. of_type entry t ∷ entries_of (table_over later old) entries) (type-later old.shapes later entry.kind begins (All-head (λ (e : Declared). IsId old e.kind) entry entries all))
    ∙ ap (λ es. of_type entry (type_of old entry.kind) ∷ es) (entries-later old later entries begins (All-tail (λ (e : Declared). IsId old e.kind) entry entries all))

-- the structs of a table are all that sizes and constants need of it
module _ (table : Table) (later : List Shape) where
  layout-alone : (type : CType) → layout_of (table_over later table) type ≡ layout_of table type
  layout-alone void = refl
  layout-alone (integer kind) = refl
  layout-alone (pointer type) = refl
  layout-alone (array type n) = ap (times n) (layout-alone type)
  layout-alone (struct number) = refl
  layout-alone (function result parameters) = refl
  layout-alone (const type) = layout-alone type

  pub size-alone : (type : CType) → size_of (table_over later table) type ≡ size_of table type
  size-alone type = ap (option_map (λ (layout : Layout). layout.size)) (layout-alone type)

  module _ (entries : List Declaration) where
    at-alone : (label : Label) (kind : CType) (kinds : List CType) (values : List (Option ℤ)) → value_at (table_over later table) entries label kind kinds values ≡ value_at table entries label kind kinds values
    at-alone sizeof_tree kind (operand ∷ []) values = ap (option_map pos) (size-alone operand)
    at-alone (sizeof_kind type) kind kinds values = ap (option_map pos) (size-alone type)
    at-alone label kind kinds values = refl

    mutual
      pub value-alone : (tree : Tree) → constant_value (table_over later table) entries tree ≡ constant_value table entries tree
      value-alone (node label kind spans parts) =
          at-alone label kind (kinds_in parts) (constant_values (table_over later table) entries parts)
          ∙ ap (value_at table entries label kind (kinds_in parts)) (values-alone parts)

      values-alone : (parts : Trees) → constant_values (table_over later table) entries parts ≡ constant_values table entries parts
      values-alone no_trees = refl
      values-alone (more_trees first rest) =
          ap (λ v. v ∷ constant_values (table_over later table) entries rest) (value-alone first) ∙ ap (λ vs. constant_value table entries first ∷ vs) (values-alone rest)

    structs-alone : (tree : Tree) → constant (table_over later table) entries tree ≡ constant table entries tree
    structs-alone tree = ap (λ v. if is_constant_form tree then v else None) (value-alone tree)

-- the shapes of a table are all that trees need of it
pub shapes-alone : (table : Table) (core : Core) → IsNumbered table core → view_over table.shapes core ≡ view table core
shapes-alone table core known =
    (stays (length table.shapes) (length table.shapes) (omega arith) table (record { shapes = table.shapes; structs = [] }) (λ id inside. refl) core known).0

-- a constant has one value whatever numbers come
pub constant-later : (held : Held) (later : List Shape) (core : Core) → Begins held.types.shapes later → IsNumbered held.types core
    → constant_of (known_over later held) (view_over later core) ≡ constant held.types (entries_of held.types held.declared) (view held.types core)
constant-later held later core begins known =
    ap (λ entries. constant (table_over later held.types) entries (view_over later core)) (entries-later held.types later held.declared begins held.entries)
    ∙ ap (λ tree. constant (table_over later held.types) (entries_of held.types held.declared) tree) (view-later held.types.shapes later core begins known ∙ shapes-alone held.types core known)
    ∙ structs-alone held.types later (entries_of held.types held.declared) (view held.types core)

-- ---- null pointer constants

pub null-cast : (known : Known) (kind : CType) (spans : Spans) (operand : Tree) (rest : Trees) → is_plain_void_pointer kind ≡ true
    → is_null known (node conversion kind spans (more_trees operand rest)) ≡ is_zero known operand
null-cast known (pointer void) spans operand rest h = refl
null-cast known kind spans operand rest h = absurd (cc)

pub null-converted : (known : Known) (kind : CType) (spans : Spans) (parts : Trees) → is_plain_void_pointer kind ≡ false
    → is_null known (node conversion kind spans parts) ≡ is_zero known (node conversion kind spans parts)
null-converted known (pointer void) spans parts h = absurd (cc)
null-converted known kind spans parts h = refl

pub null-other : (known : Known) (label : Label) (kind : CType) (spans : Spans) (parts : Trees) → is_conversion label ≡ false
    → is_null known (node label kind spans parts) ≡ is_zero known (node label kind spans parts)
null-other known conversion kind spans parts h = absurd (cc)
null-other known label kind spans parts h = refl

-- a null pointer constant by the form of a tree
module _ (known : Known) (later : List Shape) (core : Core) where
  abbrev types : Table
  types = record { shapes = later; structs = [] }

  abbrev seen_as : Opened → Tree
  seen_as o = node_of o (type_over later (out-Core core).kind) (out-Core core).inner (out-Core core).outer (out-Core core).place

  pub null-plainly : is_conversion (opened_form types (out-Core core).form).label ≡ false → is_null known (view_over later core) ≡ is_zero known (view_over later core)
  null-plainly h =
      ap (is_null known) (view-core types core) ∙ null-other known _ _ _ _ h ∙ ap (is_zero known) (sym (view-core types core))

  module _ (operand : Tree) (lengths : List Tree) (is : opened_form types (out-Core core).form ≡ opened conversion (operand ∷ lengths)) where
    pub null-through : is_plain_void_pointer (type_over later (out-Core core).kind) ≡ true → is_null known (view_over later core) ≡ is_zero known operand
    null-through h = ap (is_null known) (view-core types core ∙ ap seen_as is) ∙ null-cast known _ _ operand (trees lengths) h

    pub null-unlike : is_plain_void_pointer (type_over later (out-Core core).kind) ≡ false → is_null known (view_over later core) ≡ is_zero known (view_over later core)
    null-unlike h =
        ap (is_null known) (view-core types core ∙ ap seen_as is) ∙ null-converted known _ _ _ h ∙ ap (is_zero known) (sym (view-core types core ∙ ap seen_as is))
