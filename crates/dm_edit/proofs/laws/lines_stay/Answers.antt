use Rattle.dm_edit.proofs.LineLemmas.{line_at-before, line_at-inside, line_at-behind}
use Rattle.dm_edit.proofs.laws.lines_stay.Goals as goal

pub returns : goal.returns
returns c = record { before = line_at-before; inside = line_at-inside; behind = line_at-behind }
