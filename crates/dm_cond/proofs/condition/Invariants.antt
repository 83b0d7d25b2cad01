-- What the rest of the tokens does is what all of them do.
use Rattle.std.proofs.Common.{◌≡◌, [], map, drop}
use Rattle.dm_cond.specs.Machine.{run, awaits}
use Rattle.dm_cond.specs.Points.{point_of}
use Rattle.dm_cond.specs.Readings.{symbol_of}
use Rattle.dm_cond.proofs.condition.Given as goal

abbrev pub invariant-loop-token : goal.invariant-loop-token
invariant-loop-token l = run (map symbol_of (drop l.token-index l.tokens)) (point_of l.parser) ≡ run (map symbol_of l.tokens) (awaits [])
