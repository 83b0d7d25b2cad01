-- What is written, and behind it what phase 2 makes of what is left, is the flat text.
use Rattle.std.proofs.Common.{◌≡◌, length}
use Rattle.dm_phase.specs.Phases.{after_phase_2, flat_text}
use Rattle.dm_phase.specs.Pending.{behind}
use Rattle.dm_phase.specs.Reading.{left, end_of}
use Rattle.dm_phase.specs.Writing.{written, IsKept}
use Rattle.dm_phase.proofs.flatten.Given as goal

abbrev pub invariant-loop-character : goal.invariant-loop-character
invariant-loop-character l = record {
  text : behind (written l.writer) (after_phase_2 (left l.reader)) ≡ flat_text l.bytes;
  kept : IsKept l.writer;
  end : end_of l.reader ≡ length l.bytes;
}

abbrev pub decreases-loop-character : goal.decreases-loop-character
decreases-loop-character l = length (left l.reader)
