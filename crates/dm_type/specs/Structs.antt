-- Structs as they are written out, whatever numbers their members' types have (6.7.2.1).
--     shown_struct table entry      a struct: its tag, its members with their types written out, and its layout
--     AreSameStructs one other      two tables have the same structs by number
use Rattle.std.specs.Prelude.{◌≡◌, ℕ, List, map, Option, option_map}
use Rattle.dm_type.specs.declared.layout.Layout.{Layout}
use Rattle.dm_type.specs.declared.shape.Content.{Content}
use Rattle.dm_type.specs.declared.shape.Member.{Member}
use Rattle.dm_type.specs.declared.shape.Struct.{Struct}
use Rattle.dm_type.specs.CTypes.{CType}
use Rattle.dm_type.specs.Tables.{Table, type_of}

abbrev pub shown_member : Table → Member → List ℕ × CType
shown_member table member = (member.name, type_of table member.kind)

abbrev pub shown_content : Table → Content → List (List ℕ × CType) × Option Layout
shown_content table content = (map (shown_member table) content.members, content.layout)

abbrev pub shown_struct : Table → Struct → Option (List ℕ) × Option (List (List ℕ × CType) × Option Layout)
shown_struct table entry = (entry.tag, option_map (shown_content table) entry.content)

abbrev pub AreSameStructs : Table → Table → Type 0
AreSameStructs one other = map (shown_struct other) other.structs ≡ map (shown_struct one) one.structs
