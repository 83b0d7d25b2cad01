use Rattle.dm_unit.specs.Lines.{is_first}
use Rattle.dm_unit.proofs.StepLemmas.{none-length}
use Rattle.std.proofs.Common.{sym, ◌∙◌}
use Rattle.dm_unit.proofs.lines.line_length.Goals as goal

pub returns-in-None : goal.returns-in-None
returns-in-None c = none-length is_first c.args.tokens.now c.requires (sym c.in-None.is ∙ c.next_line.ensures)
