use Rattle.std.proofs.Common.{◌≡◌, ◌++◌, take}
use Rattle.dm_route.proofs.joining.grown_by.Given as goal

abbrev pub invariant-loop-mark : goal.invariant-loop-mark
invariant-loop-mark l = l.longer ≡ l.fn.trail ++ take l.mark-index l.marks
