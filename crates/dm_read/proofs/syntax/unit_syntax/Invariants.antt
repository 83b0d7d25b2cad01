-- What has been read stands before the place that is reached.
use Rattle.std.proofs.Common.{◌≤◌, ◌-◌, length, map}
use Rattle.std.specs.FinMap as finite
use Rattle.dm_syn.specs.Views as view
use Rattle.dm_reading.specs.Syntax.{Stand}
use Rattle.dm_read.proofs.syntax.unit_syntax.Given as goal

abbrev pub decreases-loop-at : goal.decreases-loop-at
decreases-loop-at l = length l.tokens - l.at

abbrev pub invariant-loop-at : goal.invariant-loop-at
invariant-loop-at l = (l.at ≤ length l.tokens) × Stand l.tokens finite.empty 0 (map view.external l.externals) l.at l.names
