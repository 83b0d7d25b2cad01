-- The occurrences before those that are left pass.
use Rattle.std.proofs.Common.{◌≡◌, length}
use Rattle.std.specs.List.{list_all}
use Rattle.dm_type.specs.Tables.{Table}
use Rattle.dm_tree.specs.Views.{view_of_unit}
use Rattle.dm_beside.specs.Places.{is_one_expression}
use Rattle.dm_beside.proofs.PlaceLemmas.{spans_of}
use Rattle.dm_beside.proofs.places.is_subtree.Given as goal

abbrev pub invariant-loop-occurrence : goal.invariant-loop-occurrence
invariant-loop-occurrence l = (types : Table) → list_all (is_one_expression (view_of_unit types l.sites)) (spans_of l.left) ≡ list_all (is_one_expression (view_of_unit types l.sites)) (spans_of l.run.occurrences)

abbrev pub decreases-loop-occurrence : goal.decreases-loop-occurrence
decreases-loop-occurrence l = length l.left
