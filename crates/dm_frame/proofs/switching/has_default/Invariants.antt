-- The statement behind the labels so far decides.
use Rattle.std.proofs.Common.{◌≡◌}
use Rattle.dm_type.specs.Tables.{Table}
use Rattle.dm_tree.specs.Views.{view}
use Rattle.dm_meaning.specs.Statements.{has_default}
use Rattle.dm_frame.proofs.switching.has_default.Given as goal

abbrev pub invariant-loop-at : goal.invariant-loop-at
invariant-loop-at l = (table : Table) → has_default (view table l.at) ≡ has_default (view table l.fn.item)
