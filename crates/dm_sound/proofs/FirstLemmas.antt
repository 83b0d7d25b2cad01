-- First values of objects have their types, and so have objects that are made, die or are given arguments.
use Rattle.std.specs.Prelude.{◌≡◌, refl, ℕ, zero, suc, ◌<◌, ◌==◌, Bool, true, false, List, [], ◌∷◌, map, length, replicate, Option, Some, None, slice_get, if◌then◌else◌}
use Rattle.std.proofs.Common.{arith, ap, sym, ◌∙◌, subst}
use Rattle.dm_int.specs.declared.Kind.{Kind}
use Rattle.dm_int.specs.Ranges.{zero-in_range}
use Rattle.dm_type.specs.declared.shape.Member.{Member}
use Rattle.dm_type.specs.CTypes.{CType, void, integer, pointer, array, struct, function, const}
use Rattle.dm_type.specs.Layouts.{offsets_of}
use Rattle.dm_type.specs.Tables.{Table, type_of, members_of}
use Rattle.dm_meaning.specs.Values.{Value, unset, values}
use Rattle.dm_meaning.specs.Objects.{Layout, Field, filled, filled_struct, filled_with, all_unset, all_zero, zero_of}
use Rattle.dm_meaning.specs.Memory.{Memory, Block, look_up, changed_block, new_block, killed}
use Rattle.dm_meaning.specs.Programs.{Program, Definition, layout, fields_with, fields_in}
use Rattle.dm_meaning.specs.Statements.{declared_in, type_declared, made_from}
use Rattle.dm_meaning.specs.Steps.{given_from, opened_memory}
use Rattle.dm_tree.specs.Trees.{parts_of}
use Rattle.dm_meaning.proofs.ExtendLemmas.{look_changed}
use Rattle.dm_meaning.proofs.OptionLemmas.{none_is_some, some_is_some, mapped_some}
use Rattle.dm_sound.specs.TypedValues.{HasType, HaveTypes, AreTyped}
use Rattle.dm_sound.specs.TypedTrees.{struct_in, IsSoundTable}
use Rattle.dm_sound.specs.TypedRuns.{ArgumentsFit}
use Rattle.dm_sound.proofs.ValueLemmas.{has_own}

-- ---- first values (6.7.9p10)

-- a value for each type without parts
abbrev pub ScalarsFit : Layout → (CType → Value) → Type 0
ScalarsFit laid scalar =
    HasType laid void (scalar void) × ((kind : Kind) → HasType laid (integer kind) (scalar (integer kind)))
    × ((type : CType) → HasType laid (pointer type) (scalar (pointer type)))

repeated_has : (laid : Layout) (type : CType) (value : Value) (count : ℕ) → HasType laid type value → HaveTypes laid (replicate count type) (values (replicate count value))
repeated_has laid type value zero h = tt
repeated_has laid type value (suc count) h = (h, repeated_has laid type value count h)

filled_has : (laid : Layout) (scalar : CType → Value) (structs : ℕ → Value) → ScalarsFit laid scalar → (type : CType) → ((number : ℕ) → struct_in type ≡ Some number → HasType laid (struct number) (structs number))
    → HasType laid type (filled scalar structs type)
filled_has laid scalar structs fits void h = fits.0
filled_has laid scalar structs fits (integer kind) h = fits.1 kind
filled_has laid scalar structs fits (pointer type) h = fits.2 type
filled_has laid scalar structs fits (array type (Some count)) h = (refl, repeated_has laid type (filled scalar structs type) count (filled_has laid scalar structs fits type h))
filled_has laid scalar structs fits (array type None) h = refl
filled_has laid scalar structs fits (struct number) h = h number refl
filled_has laid scalar structs fits (function result parameters) h = refl
filled_has laid scalar structs fits (const type) h = has_own laid type (const type) refl (filled scalar structs type) (filled_has laid scalar structs fits type h)

-- a field is a member
field_from : (table : Table) (members : List Member) (offsets : List ℕ) (n : ℕ) (field : Field) → slice_get (fields_with table members offsets) n ≡ Some field
    → (one : Member) × (slice_get members n ≡ Some one) × (field.kind ≡ type_of table one.kind)
field_from table [] offsets n field e = absurd (none_is_some field e)
field_from table (member ∷ members) [] n field e = absurd (none_is_some field e)
field_from table (member ∷ members) (offset ∷ offsets) zero field e = (member, refl, ap (λ (f : Field). f.kind) (sym (some_is_some _ field e)))
field_from table (member ∷ members) (offset ∷ offsets) (suc n) field e = field_from table members offsets n field e

mapped_has : (laid : Layout) (value : CType → Value) (fields : List Field) → ((n : ℕ) (field : Field) → slice_get fields n ≡ Some field → HasType laid field.kind (value field.kind))
    → HaveTypes laid (map (λ (field : Field). field.kind) fields) (values (map (λ (field : Field). value field.kind) fields))
mapped_has laid value [] h = tt
mapped_has laid value (field ∷ fields) h = (h zero field refl, mapped_has laid value fields (λ n one e. h (suc n) one e))

module _ (program : Program) (sound : IsSoundTable program.table) (scalar : CType → Value) (fits : ScalarsFit (layout program) scalar) where
  abbrev laid : Layout
  laid = layout program

  -- where a struct's members aren't known it has none
  memberless : (depth number : ℕ) → members_of program.table number ≡ None → HasType laid (struct number) (filled_struct laid scalar depth number)
  memberless zero number e = ap (λ (o : Option (List Member)). map (λ (field : Field). field.kind) (fields_in program.table o)) e
  memberless (suc depth) number e =
      (refl, subst (λ (o : Option (List Member)). HaveTypes laid (map (λ (field : Field). field.kind) (fields_in program.table o)) (values (map (λ (field : Field). filled scalar (filled_struct laid scalar depth) field.kind) (fields_in program.table o)))) (sym e) tt)

  abbrev IsDeepEnough : ℕ → ℕ → Type 0
  IsDeepEnough depth number = (members : List Member) → members_of program.table number ≡ Some members → sound.layered.0 number < depth

  none_deep : (number : ℕ) → IsDeepEnough zero number → (o : Option (List Member)) → members_of program.table number ≡ o → HasType laid (struct number) (filled_struct laid scalar zero number)
  none_deep number h None e = memberless zero number e
  none_deep number h (Some members) e = absurd (let below = h members e in omega arith)

  one_deeper : (depth number : ℕ) → IsDeepEnough (suc depth) number → ((inner : ℕ) → IsDeepEnough depth inner → HasType laid (struct inner) (filled_struct laid scalar depth inner))
      → (o : Option (List Member)) → members_of program.table number ≡ o → HasType laid (struct number) (filled_struct laid scalar (suc depth) number)
  one_deeper depth number h later None e = memberless (suc depth) number e
  one_deeper depth number h later (Some members) e = (
    refl,
    mapped_has laid (λ (type : CType). filled scalar (filled_struct laid scalar depth) type) (laid.fields number)
        (λ n field f.
        let one = field_from program.table members (offsets_of program.table members) n field (ap (λ (o : Option (List Member)). slice_get (fields_in program.table o) n) (sym e) ∙ f) in
        filled_has laid scalar (filled_struct laid scalar depth) fits field.kind
        (λ inner g. later inner (λ others i.
        let below = sound.layered.1 number members n one.0 inner others e one.1 (ap struct_in (sym one.2) ∙ g) i in
        let within = h members e in
        omega arith))),
  )

  -- so many structs are enough
  struct_has : (depth number : ℕ) → IsDeepEnough depth number → HasType laid (struct number) (filled_struct laid scalar depth number)
  struct_has zero number h = none_deep number h (members_of program.table number) refl
  struct_has (suc depth) number h = one_deeper depth number h (λ inner k. struct_has depth inner k) (members_of program.table number) refl

  pub first_has : (type : CType) → HasType laid type (filled_with laid scalar type)
  first_has type = filled_has laid scalar (filled_struct laid scalar laid.structs) fits type (λ number e. struct_has laid.structs number (λ members f. sound.layered.2 number members f))

-- an object of which nothing is set
pub unset_has : (program : Program) → IsSoundTable program.table → (type : CType) → HasType (layout program) type (all_unset (layout program) type)
unset_has program sound type = first_has program sound (λ scalar. unset) (refl, (λ kind. refl), λ other. refl) type

-- and one that is 0 or a null pointer throughout
pub zero_has : (program : Program) → IsSoundTable program.table → (type : CType) → HasType (layout program) type (all_zero (layout program) type)
zero_has program sound type = first_has program sound zero_of (refl, (λ kind. (refl, zero-in_range kind)), λ other. refl) type

-- ---- objects that are made, and that die

if_typed : (lay : Layout) (b : Bool) (one block : Block) (o : Option Block) → HasType lay one.kind one.contents → (o ≡ Some block → HasType lay block.kind block.contents)
    → (if b then Some one else o) ≡ Some block → HasType lay block.kind block.contents
if_typed lay true one block o h k e = subst (λ (x : Block). HasType lay x.kind x.contents) (some_is_some one block e) h
if_typed lay false one block o h k e = k e

pub typed_added : (lay : Layout) (n : ℕ) (one : Block) (memory : Memory) → HasType lay one.kind one.contents → AreTyped lay memory → AreTyped lay ((n, one) ∷ memory)
typed_added lay n one memory h typed m block e = if_typed lay (n == m) one block (look_up memory m) h (typed m block) e

module _ (program : Program) (sound : IsSoundTable program.table) (names : ℕ → ℕ) where
  pub typed_made : (i : ℕ) (ds : List ℕ) (memory : Memory) → AreTyped (layout program) memory → AreTyped (layout program) (made_from program names i ds memory)
  typed_made i [] memory typed = typed
  typed_made i (d ∷ ds) memory typed =
      typed_made (suc i) ds ((names i, new_block (layout program) (type_declared program d)) ∷ memory)
      (typed_added (layout program) (names i) (new_block (layout program) (type_declared program d)) memory (unset_has program sound (type_declared program d)) typed)

  -- the objects of parameters hold their arguments
  pub typed_given : (i : ℕ) (ds : List ℕ) (arguments : List Value) (memory : Memory) → ArgumentsFit program ds arguments → AreTyped (layout program) memory → AreTyped (layout program) (given_from program names i ds arguments memory)
  typed_given i [] [] memory h typed = typed
  typed_given i [] (value ∷ arguments) memory h typed = absurd h
  typed_given i (d ∷ ds) [] memory h typed = absurd h
  typed_given i (d ∷ ds) (value ∷ arguments) memory h typed =
      typed_given (suc i) ds arguments ((names i, record (new_block (layout program) (type_declared program d)) { contents = value }) ∷ memory) h.1
      (typed_added (layout program) (names i) (record (new_block (layout program) (type_declared program d)) { contents = value }) memory h.0 typed)

  -- when a function is called
  pub typed_opened : (definition : Definition) (arguments : List Value) (memory : Memory) → ArgumentsFit program definition.parameters arguments → AreTyped (layout program) memory
      → AreTyped (layout program) (opened_memory program names definition arguments memory)
  typed_opened definition arguments memory h typed =
      typed_made (length definition.parameters) (declared_in program (parts_of definition.body)) (given_from program names 0 definition.parameters arguments memory) (typed_given 0 definition.parameters arguments memory h typed)

abbrev dead : Block → Block
dead block = record block { alive = false }

if_dead : (lay : Layout) (b : Bool) (one block : Block) → HasType lay one.kind one.contents → (if b then dead one else one) ≡ block → HasType lay block.kind block.contents
if_dead lay true one block h e = subst (λ (x : Block). HasType lay x.kind x.contents) e h
if_dead lay false one block h e = subst (λ (x : Block). HasType lay x.kind x.contents) e h

typed_ended : (lay : Layout) (n : ℕ) (memory : Memory) → AreTyped lay memory → AreTyped lay (changed_block n dead memory)
typed_ended lay n memory typed m block e =
    let from = mapped_some (λ (one : Block). if m == n then dead one else one) (look_up memory m) block (sym (look_changed n dead memory m) ∙ e) in
    if_dead lay (m == n) from.0 block (typed m from.0 from.1) from.2

-- dead objects hold what they held
pub typed_killed : (lay : Layout) (ns : List ℕ) (memory : Memory) → AreTyped lay memory → AreTyped lay (killed ns memory)
typed_killed lay [] memory typed = typed
typed_killed lay (n ∷ ns) memory typed = typed_killed lay ns (changed_block n dead memory) (typed_ended lay n memory typed)
