use Rattle.std.proofs.Common.{◌≡◌, ◌+◌, drop}
use Rattle.dm_lex.specs.Classes.{is_word}
use Rattle.dm_lex.specs.Reach.{run}
use Rattle.dm_lex.proofs.scan.word_run.Given as goal

abbrev pub invariant-loop-at : goal.invariant-loop-at
invariant-loop-at l = run is_word l.text ≡ l.at + run is_word (drop l.at l.text)
