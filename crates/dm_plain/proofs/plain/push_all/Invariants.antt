-- Those so far wait.
use Rattle.std.proofs.Common.{◌≡◌, ◌++◌, map, take}
use Rattle.dm_plain.specs.Walks.{waiting_of}
use Rattle.dm_plain.proofs.plain.push_all.Given as goal

abbrev pub invariant-loop-tree : goal.invariant-loop-tree
invariant-loop-tree l = l.waiting.items ≡ l.initial.waiting.items ++ map (waiting_of l.inside) (take l.tree-index l.parts)
