-- How the types of a table are laid out, and what paths lead to.
use Rattle.std.specs.Prelude.{length, Some, false}
use Rattle.dm_int.specs.declared.Kind.TheVariants.{Char}
use Rattle.dm_type.specs.CTypes.{array, integer}
use Rattle.dm_type.specs.Layouts.{size_of}
use Rattle.dm_type.specs.Tables.{Table, IsId, type_of, members_of}
use Rattle.dm_meaning.specs.Objects as objects
use Rattle.dm_meaning.specs.Programs.{fields_in, or_zero}
use Rattle.dm_layout.specs.declared.layout.Element.{Element}
use Rattle.dm_layout.specs.declared.layout.Element.TheVariants as part
use Rattle.dm_layout.specs.declared.layout.Reached.{Reached}
use Rattle.dm_layout.specs.declared.layout.Reached.TheVariants.{Object, Outside, Foreign, Unknown, Text, Character}

-- the members of structs and the sizes of types, as a program with this table has them
abbrev pub laid_out : Table → objects.Layout
laid_out table = record {
  structs = length table.structs;
  fields = λ number. fields_in table (members_of table number);
  size = λ type. or_zero (size_of table type);
}

-- a part of an object
abbrev pub view_of_element : Table → Element → objects.Reached
view_of_element table (part.Of id) = objects.object_of (type_of table id) false
view_of_element table part.Outside = objects.outside
view_of_element table part.Foreign = objects.foreign

-- its type is one of the table
abbrev pub IsKnownElement : Table → Element → Type 0
IsKnownElement table (part.Of id) = IsId table id
IsKnownElement table part.Outside = Unit {0}
IsKnownElement table part.Foreign = Unit {0}

-- what was reached
abbrev pub view_of_reached : Table → Reached → objects.Reached
view_of_reached table (Object id fixed) = objects.object_of (type_of table id) fixed
view_of_reached table Outside = objects.outside
view_of_reached table Foreign = objects.foreign
view_of_reached table Unknown = objects.unknown
view_of_reached table (Text length) = objects.object_of (array (integer Char) (Some length)) false
view_of_reached table Character = objects.object_of (integer Char) false

-- its type is one of the table
abbrev pub IsKnown : Table → Reached → Type 0
IsKnown table (Object id fixed) = IsId table id
IsKnown table Outside = Unit {0}
IsKnown table Foreign = Unit {0}
IsKnown table Unknown = Unit {0}
IsKnown table (Text length) = Unit {0}
IsKnown table Character = Unit {0}
