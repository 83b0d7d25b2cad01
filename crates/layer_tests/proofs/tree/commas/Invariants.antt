use Rattle.std.proofs.Common.{IsTrue, length}
use Rattle.dm_tree.specs.TypeNumbers.{are_known}
use Rattle.layer_tests.proofs.tree.commas.Given as goal

abbrev pub invariant-loop-part : goal.invariant-loop-part
invariant-loop-part l = IsTrue (are_known (length l.types.shapes) l.tree)
