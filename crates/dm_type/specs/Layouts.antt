-- Sizes and alignments (6.2.8, 6.5.3.4, 6.7.2.1p14 to p17).
--     layout_of table type      the size and the alignment of a type's objects, if it has any
--     size_of table type      the size alone
--     offsets_of table members      where each member of a struct begins
--     contained table members      the content of a struct with these members
use Rattle.std.specs.Prelude.{ℕ, ◌+◌, ◌-◌, ◌*◌, ◌/◌, max, nat_le, if◌then◌else◌, List, [], ◌∷◌, Option, Some, None, option_map, option_and_then}
use Rattle.dm_token.specs.Limits.{most_type_bytes}
use Rattle.dm_int.specs.Kinds as kinds
use Rattle.dm_type.specs.declared.shape.Content.{Content}
use Rattle.dm_type.specs.declared.layout.Layout.{Layout}
use Rattle.dm_type.specs.declared.shape.Member.{Member}
use Rattle.dm_type.specs.CTypes.{CType, void, integer, pointer, array, struct, function, const}
use Rattle.dm_type.specs.Tables.{Table, type_of, content_of}

-- a layout, unless its size is above the greatest of a type
abbrev pub if_fits : Layout → Option Layout
if_fits layout = if nat_le layout.size most_type_bytes then Some layout else None

-- a scalar is aligned to its size
abbrev pub scalar : ℕ → Layout
scalar size = record { size = size; alignment = size }

-- the elements of an array stand side by side
abbrev pub repeated : ℕ → Layout → Layout
repeated count element = record { size = count * element.size; alignment = element.alignment }

-- as many elements as a length says, if it is known
abbrev pub times : Option ℕ → Option Layout → Option Layout
times None element = None
times (Some count) element = option_and_then (λ layout. if_fits (repeated count layout)) element

-- The layout of a type's objects: none where the type is incomplete, void, a function, an array of such a type, or
-- larger than the greatest size.
abbrev pub layout_of : Table → CType → Option Layout
layout_of table void = None
layout_of table (integer kind) = Some (scalar (kinds.size kind))
layout_of table (pointer type) = Some (scalar 8)
layout_of table (array type length) = times length (layout_of table type)
layout_of table (struct number) = option_and_then (λ content. content.layout) (content_of table number)
layout_of table (function result parameters) = None
layout_of table (const type) = layout_of table type

-- the size of a type's objects in bytes
abbrev pub size_of : Table → CType → Option ℕ
size_of table type = option_map (λ layout. layout.size) (layout_of table type)

-- of what their addresses are multiples
abbrev pub alignment_of : Table → CType → Option ℕ
alignment_of table type = option_map (λ layout. layout.alignment) (layout_of table type)

-- the least multiple of an alignment that isn't below a number
abbrev pub round_up : ℕ → ℕ → ℕ
round_up alignment n = (n + alignment - 1) / alignment * alignment

-- what no member takes
abbrev pub nothing : Layout
nothing = record { size = 0; alignment = 1 }

-- what members take, and one more behind them
abbrev pub followed_by : Layout → Layout → Layout
followed_by before member =
    record { size = round_up member.alignment before.size + member.size; alignment = max before.alignment member.alignment }

-- what members take together, without padding at the end, behind what stands before them
abbrev pub joined : Table → Layout → List Member → Option Layout
joined table before [] = Some before
joined table before (member ∷ members) =
    option_and_then (λ layout. joined table (followed_by before layout) members) (layout_of table (type_of table member.kind))

-- padding at the end, so that the structs of an array are aligned (6.7.2.1p17)
abbrev pub padded : Layout → Layout
padded layout = record layout { size = round_up layout.alignment layout.size }

-- the layout of a struct with these members, in order (6.7.2.1p15)
abbrev pub struct_layout : Table → List Member → Option Layout
struct_layout table members =
    option_and_then (λ layout. if_fits (padded layout)) (joined table nothing members)

-- the content of a struct with these members
abbrev pub contained : Table → List Member → Content
contained table members = record { members = members; layout = struct_layout table members }

-- the place of a member, and behind it the places of those that stand after what ends there
abbrev pub placed : ℕ → (ℕ → List ℕ) → Option Layout → List ℕ
placed end others None = []
placed end others (Some layout) = round_up layout.alignment end ∷ others (round_up layout.alignment end + layout.size)

-- where each member begins, in bytes from the start of the struct, behind what ends at a place
abbrev pub offsets_from : Table → ℕ → List Member → List ℕ
offsets_from table end [] = []
offsets_from table end (member ∷ members) =
    placed end (λ behind. offsets_from table behind members) (layout_of table (type_of table member.kind))

abbrev pub offsets_of : Table → List Member → List ℕ
offsets_of table members = offsets_from table 0 members
