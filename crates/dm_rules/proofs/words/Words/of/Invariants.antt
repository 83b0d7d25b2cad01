-- The names up to here are among them.
use Rattle.std.proofs.Common.{take}
use Rattle.dm_rules.specs.Words.{AreNames}
use Rattle.dm_rules.proofs.words.Words.of.Given as goal

abbrev pub invariant-loop-name : goal.invariant-loop-name
invariant-loop-name l = AreNames l.made (take l.name-index l.names)
