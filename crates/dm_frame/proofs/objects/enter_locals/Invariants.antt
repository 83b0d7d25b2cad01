-- What the declarators that are left make of the objects so far is what all make.
use Rattle.std.proofs.Common.{List, map, length}
use Rattle.dm_tree.specs.Views.{declarators_of, view_of_local}
use Rattle.dm_memory.specs.declared.blocks.Block.{Block}
use Rattle.dm_memory.specs.Blocks.{AreKnown}
use Rattle.dm_meaning.specs.Operations.{Objects}
use Rattle.dm_meaning.specs.Statements.{automatic_in}
use Rattle.dm_program.specs.Sources.{meant}
use Rattle.dm_frame.specs.Entering.{IsEntered}
use Rattle.dm_frame.proofs.objects.enter_locals.Given as goal

abbrev pub invariant-loop-local : goal.invariant-loop-local
invariant-loop-local l =
    AreKnown l.program.table l.blocks
    × ((named : Objects) (made : List Block)
    → IsEntered (meant l.program) (automatic_in (meant l.program) (declarators_of (map (view_of_local l.program.table) l.left))) l.objects l.blocks named made
    → IsEntered (meant l.program) (automatic_in (meant l.program) (declarators_of (map (view_of_local l.program.table) l.fn.locals))) l.fn.objects l.fn.blocks named made)

abbrev pub decreases-loop-local : goal.decreases-loop-local
decreases-loop-local l = length l.left
