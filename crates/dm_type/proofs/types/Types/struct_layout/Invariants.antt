-- The members so far fit.
use Rattle.std.proofs.Common.{◌≡◌, ◌<◌, ◌≤◌, drop}
use Rattle.dm_token.specs.Limits.{most_type_bytes}
use Rattle.dm_type.specs.Layouts.{joined, nothing}
use Rattle.dm_type.proofs.types.Types.struct_layout.Given as goal

abbrev pub invariant-loop-member : goal.invariant-loop-member
invariant-loop-member l =
    (joined l.self nothing l.members ≡ joined l.self l.all (drop l.member-index l.members))
    × (l.all.size ≤ most_type_bytes) × (0 < l.all.alignment) × (l.all.alignment ≤ 8) × (0 < l.member-index → 0 < l.all.size)
