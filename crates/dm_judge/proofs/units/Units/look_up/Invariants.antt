-- The first units are ready.
use Rattle.std.proofs.Common.{◌≡◌}
use Rattle.dm_judge.specs.Units.{AreReadyTo, AreWhole, readings_of}
use Rattle.dm_judge.proofs.units.Units.look_up.Given as goal

abbrev pub invariant-loop-number : goal.invariant-loop-number
invariant-loop-number l = record {
  whole : AreWhole l.self;
  indexes : l.self.indexes.now ≡ l.initial.self.indexes.now;
  ready : AreReadyTo l.definition l.number (readings_of l.self) l.self.meanings.items;
}
