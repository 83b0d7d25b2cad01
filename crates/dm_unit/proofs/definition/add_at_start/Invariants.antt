use Rattle.std.proofs.Common.{◌≡◌, ◌++◌, map, take}
use Rattle.dm_unit.specs.Definitions.{at_start}
use Rattle.dm_unit.proofs.definition.add_at_start.Given as goal

abbrev pub invariant-loop-token : goal.invariant-loop-token
invariant-loop-token l = l.line.items ≡ l.initial.line.items ++ map (at_start l.fn.main) (take l.token-index l.found)
