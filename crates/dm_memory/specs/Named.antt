-- The types of objects that are there.
use Rattle.std.specs.Prelude.{◌≡◌, Option, Some, None}
use Rattle.dm_type.specs.Tables.{Table}
use Rattle.dm_meaning.specs.Memory.{Block}
use Rattle.dm_layout.specs.declared.kinds.ObjectType.{ObjectType}
use Rattle.dm_layout.specs.Kinds.{type_of_object, IsKnownType}

-- the object is there, and has this type, or it isn't there
abbrev pub IsKindOf : Table → Option ObjectType → Option Block → Type 0
IsKindOf table None None = Unit {0}
IsKindOf table (Some kind) (Some block) = (type_of_object table kind ≡ block.kind) × IsKnownType table kind
IsKindOf table kind block = ⊥
