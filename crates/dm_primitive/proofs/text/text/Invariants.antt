-- The characters so far, and the string that is left, are the whole.
use Rattle.std.proofs.Common.{◌≡◌}
use Rattle.dm_layout.specs.LaidOut.{laid_out}
use Rattle.dm_memory.specs.Blocks.{view_of_blocks}
use Rattle.dm_meaning.specs.Memory.{look}
use Rattle.dm_meaning.specs.Primitives.{most_in, text_at}
use Rattle.dm_value.specs.Places.{view_of_at, view_of_name}
use Rattle.dm_primitive.specs.Texts.{behind}
use Rattle.dm_primitive.proofs.text.text.Given as goal

abbrev pub invariant-loop-left : goal.invariant-loop-left
invariant-loop-left l =
    let layout = laid_out l.layout in
    let memory = view_of_blocks l.layout l.blocks in
    behind l.bytes (text_at layout memory l.left (view_of_at l.place.value))
    ≡ text_at layout memory (most_in layout (look memory (view_of_name l.fn.at.value.name))) (view_of_at l.fn.at.value)

abbrev pub decreases-loop-left : goal.decreases-loop-left
decreases-loop-left l = l.left
