use Rattle.std.proofs.Common.{◌≡◌, drop}
use Rattle.dm_lex.specs.Reach.{closing_name, beyond}
use Rattle.dm_lex.proofs.scan.closing_name.Given as goal

abbrev pub invariant-loop-at : goal.invariant-loop-at
invariant-loop-at l = closing_name l.close l.text ≡ beyond l.at (closing_name l.close (drop l.at l.text))
