-- The members so far are noted.
use Rattle.std.proofs.Common.{◌≡◌, drop, take, length, All}
use Rattle.dm_type.specs.declared.shape.Member.{Member}
use Rattle.dm_eunary.specs.Parts.{all_noted, stage_of, HasKnownStruct}
use Rattle.dm_eunary.proofs.parts.Search.note_members.Given as goal

abbrev pub invariant-loop-member : goal.invariant-loop-member
invariant-loop-member l =
    (all_noted l.types (stage_of l.self) (drop l.member-index l.members) ≡ all_noted l.types (stage_of l.fn.self) l.members)
    × (length l.self.seen.items ≡ length l.types.structs)
    × All (λ (member : Member). HasKnownStruct l.types member.kind) (take l.member-index l.members)
