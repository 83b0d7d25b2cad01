-- So many of the operands were pushed.
use Rattle.std.proofs.Common.{◌≡◌, ◌++◌, map, take}
use Rattle.dm_expression.proofs.trees.push_all.Given as goal

abbrev pub invariant-loop-one : goal.invariant-loop-one
invariant-loop-one l = map (λ one. one.now) l.parts.items ≡ map (λ one. one.now) l.fn.parts.items ++ take l.one-index l.all
