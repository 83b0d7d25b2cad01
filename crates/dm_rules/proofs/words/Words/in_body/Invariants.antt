-- The identifiers up to here are among them.
use Rattle.std.proofs.Common.{take}
use Rattle.dm_rules.specs.Words.{AreSpelled}
use Rattle.dm_rules.proofs.words.Words.in_body.Given as goal

abbrev pub invariant-loop-token : goal.invariant-loop-token
invariant-loop-token l = AreSpelled l.made (take l.token-index l.body)
