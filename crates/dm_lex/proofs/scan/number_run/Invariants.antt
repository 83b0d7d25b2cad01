use Rattle.std.proofs.Common.{◌≡◌, ◌+◌, drop, false}
use Rattle.dm_lex.specs.Reach.{number_run}
use Rattle.dm_lex.proofs.scan.number_run.Given as goal

abbrev pub invariant-loop-at : goal.invariant-loop-at
invariant-loop-at l = number_run false l.text ≡ l.at + number_run l.behind_exponent (drop l.at l.text)
