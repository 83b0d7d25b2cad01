-- The types of objects, as the code keeps them.
use Rattle.std.specs.Prelude.{Some}
use Rattle.dm_int.specs.declared.Kind.TheVariants.{Char}
use Rattle.dm_type.specs.CTypes.{CType, void, integer, array}
use Rattle.dm_type.specs.Tables.{Table, IsId, type_of}
use Rattle.dm_layout.specs.declared.kinds.ObjectType.{ObjectType}
use Rattle.dm_layout.specs.declared.kinds.ObjectType.TheVariants.{Known, Void, Text, Character}

-- what one stands for
abbrev pub type_of_object : Table → ObjectType → CType
type_of_object table (Known id) = type_of table id
type_of_object table Void = void
type_of_object table (Text length) = array (integer Char) (Some length)
type_of_object table Character = integer Char

-- its number is that of a type of the table
abbrev pub IsKnownType : Table → ObjectType → Type 0
IsKnownType table (Known id) = IsId table id
IsKnownType table Void = Unit {0}
IsKnownType table (Text length) = Unit {0}
IsKnownType table Character = Unit {0}
