use Rattle.std.proofs.Common.{take}
use Rattle.dm_macro.specs.NameSets.{HasNamesOf}
use Rattle.dm_macro.proofs.name_set.set_of.Given as goal

abbrev pub invariant-loop-name : goal.invariant-loop-name
invariant-loop-name l = HasNamesOf (take l.name-index l.names) l.set
