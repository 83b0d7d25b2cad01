-- Types by number. A table has a shape for each number, made of earlier numbers, and the structs.
--     type_of table id      the type of a number, written out
--     IsId table id      the number is that of a type
--     Has table id type      the number is that of this type
--     IsShape table shape      a shape over the table, and `shaped table shape` its type
--     Extends old new      each number keeps its type, and the structs stay
--     AreDistinct table      equal types have one number
use Rattle.std.specs.Prelude.{◌≡◌, ℕ, ◌<◌, List, [], ◌∷◌, ◌++◌, length, map, fold, All, Option, Some, None, IfSome, option_and_then, option_map, slice_get, slice_set, slice_index_or}
use Rattle.dm_type.specs.declared.shape.Shape.{Shape}
use Rattle.dm_type.specs.declared.shape.Shape.TheVariants.{Void, Integer, Pointer, Array, Struct, Function, Const}
use Rattle.dm_type.specs.declared.shape.Struct.{Struct as StructEntry}
use Rattle.dm_type.specs.declared.shape.Content.{Content}
use Rattle.dm_type.specs.declared.shape.Member.{Member}
use Rattle.dm_type.specs.CTypes.{CType, void, integer, pointer, array, struct, function, const, all_of, with_const}

pub record Table : Type 0 where
  -- the shapes by number
  pub shapes : List Shape
  -- the structs by number
  pub structs : List StructEntry

-- the type of a number among types
abbrev pub at : List CType → ℕ → CType
at types id = slice_index_or types id void

-- the type of a shape, given the types of earlier numbers
abbrev pub written_out : List CType → Shape → CType
written_out types Void = void
written_out types (Integer kind) = integer kind
written_out types (Pointer id) = pointer (at types id)
written_out types (Array id length) = array (at types id) length
written_out types (Struct number) = struct number
written_out types (Function result parameters) = function (at types result) (all_of (map (at types) parameters))
written_out types (Const id) = with_const (at types id)

-- the same where a const type is neither const nor an array itself
abbrev pub as_is : List CType → Shape → CType
as_is types Void = void
as_is types (Integer kind) = integer kind
as_is types (Pointer id) = pointer (at types id)
as_is types (Array id length) = array (at types id) length
as_is types (Struct number) = struct number
as_is types (Function result parameters) = function (at types result) (all_of (map (at types) parameters))
as_is types (Const id) = const (at types id)

-- the types of shapes, each made of those before it
unfoldable pub types_of : List Shape → List CType
types_of shapes = fold (λ types shape. types ++ written_out types shape ∷ []) [] shapes

-- the type of a number of the table
abbrev pub type_of : Table → ℕ → CType
type_of table id = at (types_of table.shapes) id

-- the type of a shape over the table
abbrev pub shaped : Table → Shape → CType
shaped table shape = written_out (types_of table.shapes) shape

-- the number is that of a type of the table
abbrev pub IsId : Table → ℕ → Type 0
IsId table id = id < length table.shapes

-- the number is that of this type
abbrev pub Has : Table → ℕ → CType → Type 0
Has table id type = IsId table id × (type_of table id ≡ type)

-- An array that has a length has one of at least 1.
abbrev pub IsLength : Option ℕ → Type 0
IsLength length = IfSome length (λ n. 0 < n)

-- the shape names types and structs of the table
abbrev pub IsShape : Table → Shape → Type 0
IsShape table Void = Unit {0}
IsShape table (Integer kind) = Unit {0}
IsShape table (Pointer id) = IsId table id
IsShape table (Array id length) = IsId table id × IsLength length
IsShape table (Struct number) = number < length table.structs
IsShape table (Function result parameters) = IsId table result × All (IsId table) parameters
IsShape table (Const id) = IsId table id

-- each number keeps its type, and the structs stay
abbrev pub Extends : Table → Table → Type 0
Extends old new = ((more : List Shape) × (new.shapes ≡ old.shapes ++ more)) × (new.structs ≡ old.structs)

-- equal types have one number
abbrev pub AreDistinct : Table → Type 0
AreDistinct table = (a b : ℕ) → IsId table a → IsId table b → type_of table a ≡ type_of table b → a ≡ b

-- the tag of a struct, if it has one
abbrev pub tag_of : Table → ℕ → Option (List ℕ)
tag_of table number = option_and_then (λ entry. entry.tag) (slice_get table.structs number)

-- what stands between the braces of a struct, if that is known
abbrev pub content_of : Table → ℕ → Option Content
content_of table number = option_and_then (λ entry. entry.content) (slice_get table.structs number)

-- its members, if they are known
abbrev pub members_of : Table → ℕ → Option (List Member)
members_of table number = option_map (λ content. content.members) (content_of table number)

-- the table with one more struct, whose members aren't known
abbrev pub with_struct : Table → Option (List ℕ) → Table
with_struct table tag = record table { structs = table.structs ++ record { tag = tag; content = None } ∷ [] }

-- the table with the content of a struct
abbrev pub with_content : Table → ℕ → Content → Table
with_content table number content =
    record table { structs = slice_set table.structs number (record { tag = tag_of table number; content = Some content }) }

-- the table of nothing
abbrev pub no_type : Table
no_type = record { shapes = []; structs = [] }
