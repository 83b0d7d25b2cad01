use Rattle.std.proofs.Common.{◌≡◌, drop, false}
use Rattle.dm_lex.specs.Reach.{closing_comment, beyond}
use Rattle.dm_lex.proofs.comment.closing_comment.Given as goal

abbrev pub invariant-loop-at : goal.invariant-loop-at
invariant-loop-at l = closing_comment false l.text ≡ beyond l.at (closing_comment l.behind_asterisk (drop l.at l.text))
