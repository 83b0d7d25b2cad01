-- What was found, with what is left to be found, is all.
use Rattle.std.proofs.Common.{◌≡◌, suc, ◌++◌}
use Rattle.std.specs.Option.{option_map_or}
use Rattle.std.specs.Prelude.{reverse}
use Rattle.dm_effect.specs.Operands.{others_by}
use Rattle.dm_effect.proofs.BesideLemmas.{onto}
use Rattle.dm_effect.proofs.unsequenced.push_others.Given as goal

abbrev pub invariant-loop-left : goal.invariant-loop-left
invariant-loop-left l =
    l.found.items ++ reverse (onto l.front (others_by l.number l.left)) ≡ l.fn.found.items ++ reverse (onto l.front (others_by l.number l.fn.last))

abbrev pub decreases-loop-left : goal.decreases-loop-left
decreases-loop-left l = option_map_or suc l.left 0
