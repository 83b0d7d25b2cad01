-- The search goes on.
use Rattle.std.proofs.Common.{◌+◌, length}
use Rattle.dm_type.specs.Tables.{type_of}
use Rattle.dm_eunary.specs.Parts.{stage_of}
use Rattle.dm_eunary.proofs.ConstLemmas.{Searching, unseen}
use Rattle.dm_eunary.proofs.parts.has_const.Given as goal

abbrev pub invariant-loop-number : goal.invariant-loop-number
invariant-loop-number l = Searching l.types (type_of l.types l.fn.id) (stage_of l.search)

abbrev pub decreases-loop-number : goal.decreases-loop-number
decreases-loop-number l = length l.search.left.items + unseen l.search.seen.items
