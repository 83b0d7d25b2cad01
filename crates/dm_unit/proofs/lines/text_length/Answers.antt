use Rattle.dm_unit.specs.Lines.{begins_directive}
use Rattle.dm_unit.proofs.StepLemmas.{none-length}
use Rattle.std.proofs.Common.{sym, ◌∙◌}
use Rattle.dm_unit.proofs.lines.text_length.Goals as goal

pub returns-in-None : goal.returns-in-None
returns-in-None c = none-length begins_directive c.args.tokens.now c.requires (sym c.in-None.is ∙ c.next_directive.ensures)
