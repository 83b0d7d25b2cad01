-- What nodes of typed trees stand among, what a tree may stand for, and what its type may be.
use Rattle.std.specs.Prelude.{◌≡◌, ℕ, ℤ, pos, Bool, true, false, ◌&&◌, ◌||◌, not, nat_lt, if◌then◌else◌, IsTrue, List, [], ◌∷◌, Option, Some, None, is_some, IsSome, IfSome, option_map, option_and_then, slice_get}
use Rattle.dm_int.specs.declared.Kind.{Kind}
use Rattle.dm_type.specs.declared.shape.Member.{Member}
use Rattle.dm_type.specs.Alike.{are_compatible}
use Rattle.dm_type.specs.CTypes.{CType, void, pointer, array, struct, function as function_type, const, bare, is_const, with_const}
use Rattle.dm_type.specs.Layouts.{size_of}
use Rattle.dm_type.specs.Tables.{Table, type_of, members_of}
use Rattle.dm_tree.specs.Constants.{integer_kind, constant}
use Rattle.dm_tree.specs.Trees.{Label, literal, object, follow, member, Tree, Trees, node, no_trees, more_trees, label_of, kind_of, is_statement}
use Rattle.dm_tree.specs.Units.{Declaration}

-- ---- what a tree may stand for

-- what a node stands among: the types and declarations of the unit, the result of the function whose body it is in, whether `break` and
-- `continue` may stand here, and the kind of the `switch` whose labels may (6.8.1, 6.8.6)
pub record Scene : Type 0 where
  pub types : Table
  pub declared : List Declaration
  pub result : CType
  pub breaks : Bool
  pub continues : Bool
  pub labels : Option Kind

-- a form designates an object, where it is told whether its parts are lvalues (6.3.2.1p1): the name of an object, a string literal, what a
-- pointer points to, and a member of an lvalue
abbrev pub designates : Label → List Bool → Bool
designates (object at) parts = true
designates (literal bytes unit) parts = true
designates follow parts = true
designates (member n) (first ∷ rest) = first
designates label parts = false

abbrev mutual
  -- the tree is an lvalue
  pub is_lvalue : Tree → Bool
  is_lvalue (node label kind spans parts) = designates label (are_lvalues parts)

  pub are_lvalues : Trees → List Bool
  are_lvalues no_trees = []
  are_lvalues (more_trees first rest) = is_lvalue first ∷ are_lvalues rest

abbrev pub IsLvalue : Tree → Type 0
IsLvalue tree = IsTrue (is_lvalue tree)

-- the tree is a statement or a declaration
abbrev pub IsStatement : Tree → Type 0
IsStatement tree = IsTrue (is_statement (label_of tree))

-- the tree is an expression that is no lvalue: its value is used, or dropped. The name of a function is one too
abbrev pub IsValue : Tree → Type 0
IsValue tree = IsTrue (not (is_lvalue tree) && not (is_statement (label_of tree)))

-- ---- types

abbrev pub if_pointer : CType → Option CType
if_pointer (pointer type) = Some type
if_pointer type = None

-- what a pointer type, const or not, points to
abbrev pub target : CType → Option CType
target type = if_pointer (bare type)

abbrev pub is_integer : CType → Bool
is_integer type = is_some (integer_kind type)

abbrev pub is_pointer : CType → Bool
is_pointer type = is_some (target type)

-- a scalar type (6.2.5p21)
abbrev pub is_scalar : CType → Bool
is_scalar type = is_integer type || is_pointer type

abbrev pub is_void : CType → Bool
is_void void = true
is_void type = false

abbrev pub is_array : CType → Bool
is_array (array type n) = true
is_array type = false

abbrev pub is_function : CType → Bool
is_function (function_type result parameters) = true
is_function type = false

-- a complete object type (6.2.5p1)
abbrev pub IsComplete : Scene → CType → Type 0
IsComplete scene type = IsSome (size_of scene.types type)

-- two types are compatible, their const apart
abbrev pub are_alike : CType → CType → Bool
are_alike a b = are_compatible (bare a) (bare b)

-- a type is const, or a part of its objects is, at any depth (6.3.2.1p1)
pub data HasConst (table : Table) : CType → Type 0 where
  itself : (type : CType) → IsTrue (is_const type) → HasConst table type
  of_element : (type : CType) (n : Option ℕ) → HasConst table type → HasConst table (array type n)
  of_member : (at : ℕ) (members : List Member) (n : ℕ) (one : Member) → members_of table at ≡ Some members → slice_get members n ≡ Some one
      → HasConst table (type_of table one.kind) → HasConst table (struct at)

-- the type of a member of a struct (6.5.2.3)
abbrev pub member_type : Table → CType → ℕ → Option CType
member_type table (struct at) n =
    option_and_then (λ members. option_map (λ (one : Member). type_of table one.kind) (slice_get members n)) (members_of table at)
member_type table type n = None

-- the type of a part of an array or a struct. A member of a const struct is const (6.5.2.3p3)
abbrev pub part_type : Table → CType → ℕ → Option CType
part_type table (array type (Some many)) n = if nat_lt n many then Some type else None
part_type table (const type) n = option_map with_const (member_type table type n)
part_type table type n = member_type table type n

-- ---- expressions

-- the entry of a declaration's number
abbrev pub Names : Scene → ℕ → (Declaration → Type 0) → Type 0
Names scene at Entry = IfSome (slice_get scene.declared at) Entry × IsSome (slice_get scene.declared at)

-- an lvalue that may be written: complete, no array, and without a const part (6.3.2.1p1)
abbrev pub IsModifiable : Scene → Tree → Type 0
IsModifiable scene tree =
    IsLvalue tree × IsTrue (not (is_array (kind_of tree))) × IsComplete scene (kind_of tree) × ¬ HasConst scene.types (kind_of tree)

-- an integer constant expression with a value (6.6)
abbrev pub constant_of : Scene → Tree → Option ℤ
constant_of scene tree = constant scene.types scene.declared tree

abbrev pub IsConstant : Scene → Tree → Type 0
IsConstant scene tree = IsValue tree × IsSome (constant_of scene tree)

-- an integer constant expression with the value 0
abbrev pub IsZero : Scene → Tree → Type 0
IsZero scene tree = constant_of scene tree ≡ Some (pos 0)
