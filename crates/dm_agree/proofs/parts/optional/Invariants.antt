-- Those that are there so far.
use Rattle.std.proofs.Common.{◌≡◌, take, flat_map}
use Rattle.dm_agree.specs.Parts.{nows, there}
use Rattle.dm_agree.proofs.parts.optional.Given as goal

abbrev pub invariant-loop-tree : goal.invariant-loop-tree
invariant-loop-tree l = nows l.parts.items ≡ flat_map there (take l.tree-index l.trees)
