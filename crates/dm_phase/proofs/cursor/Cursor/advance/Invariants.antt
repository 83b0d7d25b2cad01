use Rattle.std.proofs.Common.{◌≡◌, ◌+◌, ◌-◌, ◌≤◌, drop}
use Rattle.dm_phase.specs.Sparse.{IsClear}
use Rattle.dm_phase.specs.Walking.{ahead, IsSound}
use Rattle.dm_phase.proofs.cursor.Cursor.advance.Given as goal

abbrev pub invariant-loop-clear : goal.invariant-loop-clear
invariant-loop-clear l = record {
  sound : IsSound l.self;
  further : ahead l.self ≡ drop (l.count - l.left) (ahead l.initial.self);
  index : l.self.index ≡ l.initial.self.index + (l.count - l.left);
  within : l.left ≤ l.count;
  clear : IsClear l.self.index l.clear l.self.jumps.now;
}

abbrev pub decreases-loop-clear : goal.decreases-loop-clear
decreases-loop-clear l = l.left
