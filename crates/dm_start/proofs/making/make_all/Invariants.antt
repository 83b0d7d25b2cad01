-- What the objects that are left make of those so far is what all make.
use Rattle.std.proofs.Common.{List, map, drop}
use Rattle.dm_memory.specs.declared.blocks.Block.{Block}
use Rattle.dm_memory.specs.Blocks.{AreKnown}
use Rattle.dm_meaning.specs.Operations.{Objects}
use Rattle.dm_program.specs.declared.fixed.Static.{Static}
use Rattle.dm_program.specs.Sources.{meant}
use Rattle.dm_start.specs.Making.{IsMade}
use Rattle.dm_start.proofs.making.make_all.Given as goal

abbrev pub invariant-loop-one : goal.invariant-loop-one
invariant-loop-one l =
    AreKnown l.program.table l.blocks
    × ((named : Objects) (made : List Block)
    → IsMade (meant l.program) (map (λ (one : Static). one.declared) (drop l.one-index l.statics)) l.names l.blocks named made
    → IsMade (meant l.program) (map (λ (one : Static). one.declared) l.statics) l.fn.names l.fn.blocks named made)
