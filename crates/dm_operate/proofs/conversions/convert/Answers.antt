-- What isn't converted to void has to be set.
use Rattle.std.proofs.Common.{sym, ◌∙◌}
use Rattle.dm_type.specs.CTypes as ctypes
use Rattle.dm_type.specs.Tables.{type_of}
use Rattle.dm_meaning.specs.Operations.{converted}
use Rattle.dm_memory.specs.Blocks.{view_of_blocks}
use Rattle.dm_memory.specs.Scenes.{world_in}
use Rattle.dm_operate.specs.Evaluations.{view_of_evaluation}
use Rattle.dm_operate.proofs.ConversionLemmas.{kept}
use Rattle.dm_operate.proofs.conversions.convert.Goals as goal

pub returns-in_ok-did-in-Some : goal.returns-in_ok-did-in-Some
returns-in_ok-did-in-Some c =
    let table = c.args.layout.now in
    let type = ctypes.bare (type_of table c.args.kind) in
    λ beside.
    let world = world_in (view_of_blocks table c.args.blocks.now) beside in
    c.in_ok-did-in-Some.ensures table type c.target_of-target.ensures beside
    ∙ sym (kept world (view_of_evaluation c.args.operand.now) c.target_of-target.result type c.target_of-target.ensures c.in_default.not-Void ∙ c.in-Some.ensures (converted world type))
