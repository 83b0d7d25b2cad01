-- Tags and what they declare, as the code has them.
--     is_tag_inside setting scopes tag      the innermost scope declares the tag
--     type_meant found      the type of a declaration that is found
--     struct_at number      the struct of a number
--     with_new known tag      a struct more, of which nothing is known but its tag
--     ended known types outer      what is known where the members of a struct are read
--     IsInnermost held kind      the type is that of the innermost struct whose members are being read
--     IsUnopened held number      the struct hasn't its members, and they aren't being read
--     if_int value      the value if it fits int
--     fields_over later members      members with their types written out
use Rattle.std.specs.Prelude.{◌≡◌, ℕ, ◌<◌, ℤ, Bool, false, if◌then◌else◌, List, ◌∷◌, length, map, reverse, option_map, Option, Some, None}
use Rattle.dm_type.specs.declared.shape.Member.{Member as Field}
use Rattle.dm_type.specs.declared.shape.Shape.{Shape}
use Rattle.dm_type.specs.CTypes.{CType, struct}
use Rattle.dm_type.specs.Tables.{Table, type_of, members_of, with_struct}
use Rattle.dm_scope.specs.Scopes.{Scopes, is_declared}
use Rattle.dm_syn.specs.Sources.{spelling_at}
use Rattle.dm_tree.specs.Units.{Declaration}
use Rattle.dm_typing.specs.declared.known.Known.{Known as Held}
use Rattle.dm_typing.specs.Known.{Known, Setting, tag_key}
use Rattle.dm_typing.specs.Typing.{TypedMember, is_among, is_int}
use Rattle.dm_typing.specs.Views.{type_over}

-- the innermost scope declares the tag
abbrev pub is_tag_inside : Setting → Scopes → Option ℕ → Bool
is_tag_inside setting scopes None = false
is_tag_inside setting scopes (Some at) = is_declared scopes (tag_key (spelling_at setting.source at))

-- the type of a declaration that is found
abbrev pub type_meant : Option Declaration → Option CType
type_meant found = option_map (λ (entry : Declaration). entry.kind) found

-- the struct of a number
abbrev pub struct_at : Option ℕ → Option CType
struct_at number = option_map struct number

-- a struct more, of which nothing is known but its tag
abbrev pub with_new : Known → Option (List ℕ) → Known
with_new known tag = record known { types = with_struct known.types tag }

-- what is known where the members of a struct are read
abbrev pub ended : Known → Table → List ℕ → Known
ended known types outer = record known { types = types; begun = outer }

-- the type is that of the innermost struct whose members are being read
abbrev pub IsInnermost : Held → ℕ → Type 0
IsInnermost held kind = (number : ℕ) × (outer : List ℕ) × (type_of held.types kind ≡ struct number) × (reverse held.begun.items ≡ number ∷ outer)

-- the struct hasn't its members, and they aren't being read
abbrev pub IsUnopened : Held → ℕ → Type 0
IsUnopened held number = (number < length held.types.structs) × (members_of held.types number ≡ None) × (is_among number (reverse held.begun.items) ≡ false)

-- the value if it fits int
abbrev pub if_int : ℤ → Option ℤ
if_int value = if is_int value then Some value else None

-- members with their types written out
abbrev pub field_over : List Shape → Field → TypedMember
field_over later member = record { name = member.name; kind = type_over later member.kind }

abbrev pub fields_over : List Shape → List Field → List TypedMember
fields_over later members = map (field_over later) members
