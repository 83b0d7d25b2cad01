-- Types that have other numbers.
--     Renumbers one other number      the second shapes have at the new numbers the types of the first, and each type has its number so
--     moved number structs      structs whose members' types have the new numbers
--     at_one, at_other      what is known, by the first numbers and by the second
use Rattle.std.specs.Prelude.{◌≡◌, ℕ, List, map, option_map}
use Rattle.dm_type.specs.declared.shape.Shape.{Shape}
use Rattle.dm_type.specs.declared.shape.Struct.{Struct}
use Rattle.dm_type.specs.declared.shape.Content.{Content}
use Rattle.dm_type.specs.declared.shape.Member.{Member}
use Rattle.dm_type.specs.CTypes.{CType}
use Rattle.dm_type.specs.Tables.{Table, at, types_of}
use Rattle.dm_typing.specs.Known.{Known}
use Rattle.dm_typing.specs.Typing.{number_among}

pub record Renumbers (one other : List Shape) (number : ℕ → ℕ) : Type 0 where
  pub kinds : (id : ℕ) → at (types_of other) (number id) ≡ at (types_of one) id
  pub numbers : (type : CType) → number_among type 0 (types_of other) ≡ number (number_among type 0 (types_of one))

abbrev pub moved_member : (ℕ → ℕ) → Member → Member
moved_member number member = record { name = member.name; kind = number member.kind }

abbrev pub moved_content : (ℕ → ℕ) → Content → Content
moved_content number content = record { members = map (moved_member number) content.members; layout = content.layout }

abbrev pub moved_struct : (ℕ → ℕ) → Struct → Struct
moved_struct number entry = record { tag = entry.tag; content = option_map (moved_content number) entry.content }

abbrev pub moved : (ℕ → ℕ) → List Struct → List Struct
moved number structs = map (moved_struct number) structs

abbrev pub table_at : List Shape → List Struct → Table
table_at shapes structs = record { shapes = shapes; structs = structs }

-- what is known by the first numbers, and by the second
abbrev pub at_one : List Shape → Known → Known
at_one one known = record known { types = table_at one known.types.structs }

abbrev pub at_other : List Shape → (ℕ → ℕ) → Known → Known
at_other other number known = record known { types = table_at other (moved number known.types.structs) }
