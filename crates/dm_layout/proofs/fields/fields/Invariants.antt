-- The members so far, and those that are left behind what ends so far, are all.
use Rattle.std.proofs.Common.{◌≡◌, ◌++◌, length, map, All}
use Rattle.dm_type.specs.Layouts.{offsets_from}
use Rattle.dm_type.specs.Tables.{IsId, members_of}
use Rattle.dm_meaning.specs.Programs.{fields_in, fields_with}
use Rattle.dm_layout.specs.Fields.{view_of_field}
use Rattle.dm_layout.proofs.fields.fields.Given as goal

abbrev pub invariant-loop-member : goal.invariant-loop-member
invariant-loop-member l =
    (map (view_of_field l.types) l.fields.items ++ fields_with l.types l.left (offsets_from l.types l.end l.left) ≡ fields_in l.types (members_of l.types l.fn.number))
    × All (λ field. IsId l.types field.kind) l.fields.items
    × All (λ member. IsId l.types member.kind) l.left

abbrev pub decreases-loop-member : goal.decreases-loop-member
decreases-loop-member l = length l.left
