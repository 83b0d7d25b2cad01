use Rattle.dm_gen.specs.Generated.{definition_line}
use Rattle.dm_gen.proofs.Ranges.{flat_map-more}
use Rattle.dm_gen.proofs.lines.append_definitions.Goals as goal

pub loop-i-preserved : goal.loop-i-preserved
loop-i-preserved c = flat_map-more definition_line _ _ _ c.loop-i.i c.loop-i.invariant c.in_ok-append_definition.ensures
