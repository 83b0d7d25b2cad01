-- What the items that are left make of the objects so far is what all make.
use Rattle.std.proofs.Common.{List, map, length}
use Rattle.dm_tree.specs.Views.{view}
use Rattle.dm_memory.specs.declared.blocks.Block.{Block}
use Rattle.dm_memory.specs.Blocks.{AreKnown}
use Rattle.dm_meaning.specs.Operations.{Objects}
use Rattle.dm_meaning.specs.Statements.{declared_in}
use Rattle.dm_program.specs.Sources.{meant}
use Rattle.dm_frame.specs.Entering.{IsEntered}
use Rattle.dm_frame.proofs.objects.enter.Given as goal

abbrev pub invariant-loop-item : goal.invariant-loop-item
invariant-loop-item l =
    AreKnown l.program.table l.blocks
    × ((named : Objects) (made : List Block)
    → IsEntered (meant l.program) (declared_in (meant l.program) (map (view l.program.table) l.left)) l.objects l.blocks named made
    → IsEntered (meant l.program) (declared_in (meant l.program) (map (view l.program.table) l.fn.items)) l.fn.objects l.fn.blocks named made)

abbrev pub decreases-loop-item : goal.decreases-loop-item
decreases-loop-item l = length l.left
