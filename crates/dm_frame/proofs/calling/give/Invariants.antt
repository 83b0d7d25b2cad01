-- What the parameters that are left make of the objects so far is what all make.
use Rattle.std.proofs.Common.{List, map, length, IsSome}
use Rattle.std.specs.List.{AllByRecursion}
use Rattle.dm_memory.specs.declared.blocks.Block.{Block}
use Rattle.dm_memory.specs.Blocks.{AreKnown}
use Rattle.dm_meaning.specs.Operations.{Objects}
use Rattle.dm_meaning.specs.Programs.{declaration_of}
use Rattle.dm_program.specs.Sources.{meant}
use Rattle.dm_value.specs.Views.{view_of_value}
use Rattle.dm_frame.specs.Calling.{IsGiven}
use Rattle.dm_frame.proofs.calling.give.Given as goal

abbrev pub invariant-loop-parameter : goal.invariant-loop-parameter
invariant-loop-parameter l =
    AreKnown l.program.table l.blocks
    × AllByRecursion (λ d. IsSome (declaration_of (meant l.program) d)) l.left
    × ((named : Objects) (made : List Block)
    → IsGiven (meant l.program) l.left (map view_of_value l.values) l.objects l.blocks named made
    → IsGiven (meant l.program) l.fn.parameters (map view_of_value l.fn.arguments) l.fn.objects l.fn.blocks named made)

abbrev pub decreases-loop-parameter : goal.decreases-loop-parameter
decreases-loop-parameter l = length l.left
