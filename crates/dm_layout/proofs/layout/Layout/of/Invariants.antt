-- The structs so far have their members.
use Rattle.std.proofs.Common.{◌≡◌, ℕ, ◌<◌, [], length, map, All, slice_index_or}
use Rattle.dm_type.specs.Tables.{IsId, members_of}
use Rattle.dm_meaning.specs.Programs.{fields_in}
use Rattle.dm_layout.specs.Fields.{view_of_field}
use Rattle.dm_layout.proofs.layout.Layout.of.Given as goal

abbrev pub invariant-loop-number : goal.invariant-loop-number
invariant-loop-number l =
    (length l.all.items ≡ l.number)
    × ((k : ℕ) → k < l.number → map (view_of_field l.types) (slice_index_or l.all.items k []) ≡ fields_in l.types (members_of l.types k))
    × ((k : ℕ) → k < l.number → All (λ field. IsId l.types field.kind) (slice_index_or l.all.items k []))
