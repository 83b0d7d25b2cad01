-- Tables of types: their types are proper, and structs have the members that they name.
use Rattle.std.specs.Prelude.{◌≡◌, refl, ℕ, zero, suc, true, IsSome, List, [], ◌∷◌, ◌++◌, map, fold, Option, Some, None, is_some, option_map, slice_get}
use Rattle.std.proofs.Common.{ap, sym, subst}
use Rattle.std.proofs.lemmas.Bool.{false≢true}
use Rattle.dm_type.specs.declared.layout.Layout.{Layout as Extent}
use Rattle.dm_type.specs.declared.shape.Member.{Member}
use Rattle.dm_type.specs.declared.shape.Shape.{Shape}
use Rattle.dm_type.specs.declared.shape.Shape.TheVariants as shape
use Rattle.dm_type.specs.CTypes.{CType, void, integer, pointer, array, struct, function, const, all_of, with_const}
use Rattle.dm_type.specs.Layouts.{layout_of, size_of, placed, offsets_from}
use Rattle.dm_type.specs.Tables.{Table, at, written_out, types_of, type_of, members_of}
use Rattle.dm_meaning.specs.Objects.{Field}
use Rattle.dm_meaning.specs.Programs.{fields_with, fields_in}
use Rattle.dm_meaning.proofs.OptionLemmas.{none_is_some, some_is_some}
use Rattle.dm_sound.specs.TypedTrees.{IsProper, AreProper, IsSoundTable}

-- ---- proper types

AllProper : List CType → Type 0
AllProper [] = Unit {0}
AllProper (type ∷ types) = IsProper type × AllProper types

at_proper : (types : List CType) → AllProper types → (id : ℕ) → IsProper (at types id)
unfolding AllProper
at_proper [] h id = tt
at_proper (type ∷ types) h zero = h.0
at_proper (type ∷ types) h (suc id) = at_proper types h.1 id

const_proper : (type : CType) → IsProper type → IsProper (with_const type)
const_proper void h = (refl, tt)
const_proper (integer kind) h = (refl, tt)
const_proper (pointer type) h = (refl, h)
const_proper (array type n) h = const_proper type h
const_proper (struct number) h = (refl, tt)
const_proper (function result parameters) h = (refl, h)
const_proper (const type) h = h

all_proper : (types : List CType) → AllProper types → (ids : List ℕ) → AreProper (all_of (map (at types) ids))
all_proper types h [] = tt
all_proper types h (id ∷ ids) = (at_proper types h id, all_proper types h ids)

written_proper : (types : List CType) → AllProper types → (one : Shape) → IsProper (written_out types one)
written_proper types h shape.Void = tt
written_proper types h (shape.Integer kind) = tt
written_proper types h (shape.Pointer id) = at_proper types h id
written_proper types h (shape.Array id length) = at_proper types h id
written_proper types h (shape.Struct number) = tt
written_proper types h (shape.Function result parameters) = (at_proper types h result, all_proper types h parameters)
written_proper types h (shape.Const id) = const_proper (at types id) (at_proper types h id)

joined_proper : (types : List CType) (type : CType) → AllProper types → IsProper type → AllProper (types ++ type ∷ [])
unfolding AllProper
joined_proper [] type h k = (k, tt)
joined_proper (first ∷ types) type h k = (h.0, joined_proper types type h.1 k)

folded_proper : (types : List CType) (shapes : List Shape) → AllProper types → AllProper (fold (λ ts one. ts ++ written_out ts one ∷ []) types shapes)
folded_proper types [] h = h
folded_proper types (one ∷ shapes) h = folded_proper (types ++ written_out types one ∷ []) shapes (joined_proper types (written_out types one) h (written_proper types h one))

nothing_proper : AllProper []
unfolding AllProper
nothing_proper = tt

-- each type of a table is proper
pub table_proper : (table : Table) (id : ℕ) → IsProper (type_of table id)
unfolding types_of
table_proper table id = at_proper (types_of table.shapes) (folded_proper [] table.shapes nothing_proper) id

-- ---- members

extent_there : (o : Option Extent) → is_some (option_map (λ (extent : Extent). extent.size) o) ≡ true → (extent : Extent) × (o ≡ Some extent)
extent_there None e = absurd (false≢true e)
extent_there (Some extent) e = (extent, refl)

abbrev IsField : Table → Member → Option Field → Type 0
IsField table one found = (field : Field) × (found ≡ Some field) × (field.kind ≡ type_of table one.kind)

field_among : (table : Table) (members : List Member) (end : ℕ) → ((n : ℕ) (one : Member) → slice_get members n ≡ Some one → IsSome (size_of table (type_of table one.kind)))
    → (n : ℕ) (one : Member) → slice_get members n ≡ Some one → IsField table one (slice_get (fields_with table members (offsets_from table end members)) n)
field_among table [] end complete n one e = absurd (none_is_some one e)
field_among table (member ∷ members) end complete n one e = by_number n e (extent_there (layout_of table (type_of table member.kind)) (complete zero member refl)) (λ behind. field_among table members behind (λ m other f. complete (suc m) other f))
  where
    by_number : (n : ℕ) → slice_get (member ∷ members) n ≡ Some one → (extent : Extent) × (layout_of table (type_of table member.kind) ≡ Some extent)
        → ((behind m : ℕ) (other : Member) → slice_get members m ≡ Some other → IsField table other (slice_get (fields_with table members (offsets_from table behind members)) m))
        → IsField table one (slice_get (fields_with table (member ∷ members) (offsets_from table end (member ∷ members))) n)
    by_number zero f (extent, g) later =
        subst (λ (o : Option Extent). IsField table one (slice_get (fields_with table (member ∷ members) (placed end (λ behind. offsets_from table behind members) o)) zero)) (sym g)
        (record { kind = type_of table member.kind; offset = _ }, refl, ap (λ (m : Member). type_of table m.kind) (some_is_some member one f))
    by_number (suc m) f (extent, g) later =
        subst (λ (o : Option Extent). IsField table one (slice_get (fields_with table (member ∷ members) (placed end (λ behind. offsets_from table behind members) o)) (suc m))) (sym g)
        (later _ m one f)

-- the machine knows each member that the table names
pub field_there : (table : Table) → IsSoundTable table → (number : ℕ) (members : List Member) → members_of table number ≡ Some members → (n : ℕ) (one : Member) → slice_get members n ≡ Some one
    → (field : Field) × (slice_get (fields_in table (members_of table number)) n ≡ Some field) × (field.kind ≡ type_of table one.kind)
field_there table sound number members e n one f =
    subst (λ (o : Option (List Member)). IsField table one (slice_get (fields_in table o) n)) (sym e) (field_among table members 0 (sound.complete number members e) n one f)
