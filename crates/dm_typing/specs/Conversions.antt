-- Nodes of typed trees that the typing makes, and the conversions between values (6.3).
--     made source extent label kind parts      the node of a piece of syntax
--     over label kind tree      a node that comes from the same syntax as the tree below it
--     as_value tree      the value that a tree stands for (6.3.2.1p2, p3)
--     as_type kind tree      a value converted to a type, by a node of its own unless it has that type
use Rattle.std.specs.Prelude.{ℕ, ℤ, pos, Bool, true, false, ◌&&◌, ◌||◌, ◌==◌, if◌then◌else◌, List, [], ◌∷◌, Option, Some, None, is_some, option_and_then, length, suc, zero}
use Rattle.dm_int.specs.declared.Kind.{Kind}
use Rattle.dm_int.specs.Kinds.{number_of, promote}
use Rattle.dm_int.specs.Operators.{int_eq}
use Rattle.dm_type.specs.declared.shape.Member.{Member}
use Rattle.dm_type.specs.CTypes.{CType, CTypes, void, integer, pointer, array, struct, function as function_type, const, no_types, more_types, bare, is_const}
use Rattle.dm_type.specs.Layouts.{size_of}
use Rattle.dm_type.specs.Tables.{Table, type_of, members_of}
use Rattle.dm_syn.specs.Sources.{Source}
use Rattle.dm_tree.specs.Constants.{constant}
use Rattle.dm_tree.specs.Trees.{Label, read, decay, convert as conversion, Spans, Tree, node, no_trees, more_trees, kind_of, spans_of, trees}
use Rattle.dm_tree.specs.Scenes.{is_lvalue, target}
use Rattle.dm_typing.specs.declared.extent.Extent.{Extent}
use Rattle.dm_typing.specs.Known.{Known, place_at}

-- ---- nodes

-- where a node of a piece of syntax stands
abbrev pub spans_at : Source → Extent → Spans
spans_at source extent = record { inner = extent.inner; outer = extent.outer; place = place_at source extent.inner.first }

-- the node of a piece of syntax
abbrev pub made : Source → Extent → Label → CType → List Tree → Tree
made source extent label kind parts = node label kind (spans_at source extent) (trees parts)

-- a node that comes from the same syntax as the tree below it
abbrev pub over : Label → CType → Tree → Tree
over label kind tree = node label kind (spans_of tree) (more_trees tree no_trees)

-- ---- types

abbrev pub is_same_length : Option ℕ → Option ℕ → Bool
is_same_length None None = true
is_same_length (Some m) (Some n) = m == n
is_same_length m n = false

abbrev mutual
  -- two types are one
  pub is_same : CType → CType → Bool
  is_same void void = true
  is_same (integer kind) (integer other) = number_of kind == number_of other
  is_same (pointer a) (pointer b) = is_same a b
  is_same (array a m) (array b n) = is_same_length m n && is_same a b
  is_same (struct m) (struct n) = m == n
  is_same (function_type a parameters) (function_type b others) = is_same a b && are_same parameters others
  is_same (const a) (const b) = is_same a b
  is_same a b = false

  pub are_same : CTypes → CTypes → Bool
  are_same no_types no_types = true
  are_same (more_types a types) (more_types b others) = is_same a b && are_same types others
  are_same types others = false

-- a complete object type (6.2.5p1)
abbrev pub is_complete : Known → CType → Bool
is_complete known type = is_some (size_of known.types type)

-- what a pointer to a complete object type points to
abbrev pub if_complete : Known → CType → Option CType
if_complete known type = if is_complete known type then Some type else None

abbrev pub complete_target : Known → CType → Option CType
complete_target known type = option_and_then (if_complete known) (target type)

-- one of the types of members passes a test
abbrev pub any_member : (CType → Bool) → Table → List Member → Bool
any_member test table [] = false
any_member test table (member ∷ members) = test (type_of table member.kind) || any_member test table members

abbrev pub any_of : (CType → Bool) → Table → Option (List Member) → Bool
any_of test table None = false
any_of test table (Some members) = any_member test table members

-- the type of the elements of an array of arrays, and any other type itself
abbrev pub element : CType → CType
element (array type n) = element type
element type = type

abbrev pub members_in : Table → CType → Option (List Member)
members_in table (struct at) = members_of table at
members_in table type = None

-- a type is const, or a part of its objects is, structs being within each other so deeply (6.3.2.1p1)
unfoldable pub has_const_within : ℕ → Table → CType → Bool
has_const_within zero table type = is_const (element type)
has_const_within (suc depth) table type =
    is_const (element type) || any_of (has_const_within depth table) table (members_in table (element type))

-- at any depth: structs are not more deeply within each other than there are
abbrev pub has_const : Table → CType → Bool
has_const table type = has_const_within (length table.structs) table type

-- ---- values

-- of an lvalue the value is read, and of an array it is the pointer to its first element
abbrev pub value_of_lvalue : CType → Tree → Tree
value_of_lvalue (array type n) tree = over decay (pointer type) tree
value_of_lvalue type tree = over read (bare type) tree

abbrev pub as_value : Tree → Tree
as_value tree = if is_lvalue tree then value_of_lvalue (kind_of tree) tree else tree

-- a value converted to a type, without the const of that
abbrev pub as_type : CType → Tree → Tree
as_type kind tree = if is_same (kind_of tree) (bare kind) then tree else over conversion (bare kind) tree

-- and to a kind
abbrev pub as_kind : Kind → Tree → Tree
as_kind kind tree = as_type (integer kind) tree

-- the integer promotions (6.3.1.1p2)
abbrev pub promoted : Kind → Tree → Tree
promoted kind tree = as_kind (promote kind) tree

-- ---- null pointer constants (6.3.2.3p3)

abbrev pub constant_of : Known → Tree → Option ℤ
constant_of known tree = constant known.types known.declared tree

abbrev pub is_zero_value : Option ℤ → Bool
is_zero_value None = false
is_zero_value (Some value) = int_eq value (pos 0)

-- an integer constant expression with the value 0
abbrev pub is_zero : Known → Tree → Bool
is_zero known tree = is_zero_value (constant_of known tree)

-- such an expression, or one converted to `void *`
abbrev pub is_null : Known → Tree → Bool
is_null known (node conversion (pointer void) spans (more_trees operand lengths)) = is_zero known operand
is_null known tree = is_zero known tree
