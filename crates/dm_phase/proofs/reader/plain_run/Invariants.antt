use Rattle.std.proofs.Common.{◌≡◌, ◌<◌, ℕ, true, get_or}
use Rattle.dm_phase.specs.Front.{is_plain}
use Rattle.dm_phase.proofs.reader.plain_run.Given as goal

abbrev pub invariant-loop-at : goal.invariant-loop-at
invariant-loop-at l = (k : ℕ) → k < l.at → is_plain (get_or l.bytes k 0) ≡ true
