use Rattle.std.proofs.Common.{◌≡◌, ◌++◌, map, take}
use Rattle.dm_unit.specs.Conditions.{use_by}
use Rattle.dm_unit.proofs.condition.in_order.Given as goal

abbrev pub invariant-loop-expansion : goal.invariant-loop-expansion
invariant-loop-expansion l = l.uses.items ≡ l.fn.asked.items ++ map (use_by l.fn.table) (take l.expansion-index l.fn.made)
