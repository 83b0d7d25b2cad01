-- Those so far wait, in front of what is left.
use Rattle.std.proofs.Common.{◌≡◌, ◌++◌, List, Bor, length, map}
use Rattle.dm_tree.specs.declared.tree.Core.{Core}
use Rattle.dm_agree.specs.Parts.{nows}
use Rattle.dm_align.specs.Places.{waiting_of}
use Rattle.dm_align.proofs.places.push_list.Given as goal

abbrev pub invariant-loop-tree : goal.invariant-loop-tree
invariant-loop-tree l = (refs : List (Bor Core)) × (nows refs ++ l.left ≡ l.fn.list) × (l.waiting.items ≡ l.initial.waiting.items ++ map (waiting_of l.unevaluated) refs)

abbrev pub decreases-loop-tree : goal.decreases-loop-tree
decreases-loop-tree l = length l.left
