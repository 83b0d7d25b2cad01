-- The characters so far, and behind them those that are left, are all.
use Rattle.std.proofs.Common.{◌≡◌, ◌++◌, length}
use Rattle.dm_phase.specs.Walking.{ahead, IsSound}
use Rattle.dm_phase.proofs.flat.Flat.characters.Given as goal

abbrev pub invariant-loop-number : goal.invariant-loop-number
invariant-loop-number l = record {
  sound : IsSound l.cursor;
  whole : l.characters.items ++ ahead l.cursor ≡ l.self.characters;
  size : length l.characters.items ≡ l._number;
}
