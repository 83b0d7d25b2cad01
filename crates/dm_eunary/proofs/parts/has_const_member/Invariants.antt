-- No member so far is const.
use Rattle.std.proofs.Common.{◌≡◌, drop}
use Rattle.dm_typing.specs.Conversions.{any_member}
use Rattle.dm_eunary.specs.Parts.{has_const_elements}
use Rattle.dm_eunary.proofs.parts.has_const_member.Given as goal

abbrev pub invariant-loop-member : goal.invariant-loop-member
invariant-loop-member l = any_member has_const_elements l.types l.members ≡ any_member has_const_elements l.types (drop l.member-index l.members)
