-- The macros of the units up to here are among them.
use Rattle.std.proofs.Common.{take}
use Rattle.dm_rules.specs.Indexes.{readings_of}
use Rattle.dm_rules.specs.Words.{AreMacros}
use Rattle.dm_rules.proofs.words.Words.of_macros.Given as goal

abbrev pub invariant-loop-unit : goal.invariant-loop-unit
invariant-loop-unit l = AreMacros l.made (readings_of (take l.unit-index l.units))
