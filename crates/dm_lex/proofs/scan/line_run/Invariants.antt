use Rattle.std.proofs.Common.{◌≡◌, ◌+◌, drop}
use Rattle.dm_lex.specs.Cuts.{is_within_line}
use Rattle.dm_lex.specs.Reach.{run}
use Rattle.dm_lex.proofs.scan.line_run.Given as goal

abbrev pub invariant-loop-at : goal.invariant-loop-at
invariant-loop-at l = run is_within_line l.text ≡ l.at + run is_within_line (drop l.at l.text)
