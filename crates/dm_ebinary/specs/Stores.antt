-- What the code of assignments finds on the way (6.5.16).
--     fits_kind kind type      a value of the type may be assigned to an integer of the kind
--     updated_over later value found      the right operand of a compound assignment after its conversion, whatever numbers come
use Rattle.std.specs.Prelude.{Bool, ◌&&◌, ◌||◌, List, [], ◌∷◌, option_map, IfSome}
use Rattle.dm_int.specs.declared.Kind.{Kind}
use Rattle.dm_int.specs.declared.Kind.TheVariants as k
use Rattle.dm_int.specs.declared.Op.{Op}
use Rattle.dm_type.specs.declared.shape.Shape.{Shape}
use Rattle.dm_type.specs.CTypes.{CType, bare}
use Rattle.dm_type.specs.Tables.{Table, IsId}
use Rattle.dm_syn.specs.Sources.{Source}
use Rattle.dm_tree.specs.Scenes.{is_integer, is_scalar, is_void, are_alike}
use Rattle.dm_tree.specs.Trees.{Tree, kind_of}
use Rattle.dm_tree.specs.Trees as label
use Rattle.dm_typing.specs.declared.extent.Extent.{Extent}
use Rattle.dm_typing.specs.Conversions.{made}
use Rattle.dm_typing.specs.Known.{Known}
use Rattle.dm_typing.specs.Rules.{keeps_const, moves, points_to_complete}
use Rattle.dm_typing.specs.Views.{type_over}
use Rattle.dm_ebinary.specs.declared.assignments.Operand.{Operand}
use Rattle.dm_ebinary.specs.Pairs.{as_type_if}

-- a value of the type may be assigned to an integer of the kind
abbrev pub fits_kind : Kind → CType → Bool
fits_kind k.Bool type = is_scalar type
fits_kind kind type = is_integer type

-- a pointer to one type may be assigned to a pointer to another
abbrev pub may_point : CType → CType → Bool
may_point to from = (are_alike to from || is_void (bare to) || is_void (bare from)) && keeps_const to from

-- the type in which the operator works, and the right operand after its conversion
abbrev pub updated_over : List Shape → Tree → Operand → CType × Tree
updated_over later value found = (type_over later found.works, as_type_if (option_map (type_over later) found.to) value)

-- their types are numbered
abbrev pub IsUpdated : Table → Operand → Type 0
IsUpdated types found = IsId types found.works × IfSome found.to (IsId types)

-- the node of a compound assignment
abbrev pub update : Source → Extent → Op → Tree → CType × Tree → Tree
update source extent op object (works, value) = made source extent (label.update op works) (bare (kind_of object)) (object ∷ value ∷ [])

-- a pointer to a complete object type is moved by an integer
abbrev pub may_move : Known → Op → CType → CType → Bool
may_move known op type other = is_integer other && moves op && points_to_complete known type
