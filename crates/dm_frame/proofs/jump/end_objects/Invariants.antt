-- What is left to end, and what has ended, are all that are to end.
use Rattle.std.proofs.Common.{◌≡◌, length}
use Rattle.dm_type.specs.Tables.{Table}
use Rattle.dm_memory.specs.Blocks.{view_of_blocks, AreKnown}
use Rattle.dm_meaning.specs.Memory.{killed}
use Rattle.dm_meaning.specs.Statements.{named_since}
use Rattle.dm_frame.specs.Tasks.{kept}
use Rattle.dm_frame.proofs.jump.end_objects.Given as goal

abbrev pub invariant-loop-number : goal.invariant-loop-number
invariant-loop-number l =
    (kept l.alive l.objects ≡ kept l.alive l.fn.objects)
    × ((table : Table) → killed (named_since (kept l.alive l.objects) l.objects) (view_of_blocks table l.blocks)
    ≡ killed (named_since (kept l.alive l.fn.objects) l.fn.objects) (view_of_blocks table l.fn.blocks))
    × ((table : Table) → AreKnown table l.fn.blocks → AreKnown table l.blocks)

abbrev pub decreases-loop-number : goal.decreases-loop-number
decreases-loop-number l = length l.objects
