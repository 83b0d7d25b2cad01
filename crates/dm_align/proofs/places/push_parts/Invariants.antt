-- Those so far wait.
use Rattle.std.proofs.Common.{◌≡◌, ◌++◌, map, take}
use Rattle.dm_align.specs.Places.{waiting_of}
use Rattle.dm_align.proofs.places.push_parts.Given as goal

abbrev pub invariant-loop-tree : goal.invariant-loop-tree
invariant-loop-tree l = l.waiting.items ≡ l.initial.waiting.items ++ map (waiting_of l.unevaluated) (take l.tree-index l.parts)
