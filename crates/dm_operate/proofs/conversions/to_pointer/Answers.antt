-- A pointer stays the same where it may be used.
use Rattle.std.proofs.Common.{sym, ap, ◌∙◌}
use Rattle.dm_type.specs.CTypes as ctypes
use Rattle.dm_meaning.specs.Operations.{converted}
use Rattle.dm_memory.specs.Blocks.{view_of_blocks}
use Rattle.dm_memory.specs.Scenes.{world_in}
use Rattle.dm_operate.proofs.SeenLemmas.{seen-Pointer}
use Rattle.dm_operate.proofs.conversions.to_pointer.Goals as goal

pub returns-in_ok-did-in-Pointer : goal.returns-in_ok-did-in-Pointer
returns-in_ok-did-in-Pointer c =
    λ types target beside. c.in_ok-did-in-Pointer.ensures types target beside
    ∙ sym (ap (converted (world_in (view_of_blocks types c.args.blocks.now) beside) (ctypes.pointer target)) (seen-Pointer c.args.value.now c.in-Pointer.pointer c.in-Pointer.is))
