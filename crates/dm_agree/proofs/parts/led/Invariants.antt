-- The trees of the list so far stand behind the first.
use Rattle.std.proofs.Common.{◌≡◌, ◌++◌, take}
use Rattle.std.specs.Option.{option_copied}
use Rattle.dm_agree.specs.Parts.{nows, if_given}
use Rattle.dm_agree.proofs.parts.led.Given as goal

abbrev pub invariant-loop-tree : goal.invariant-loop-tree
invariant-loop-tree l = nows l.parts.items ≡ if_given (option_copied l.fn.first) ++ take l.tree-index l.list
