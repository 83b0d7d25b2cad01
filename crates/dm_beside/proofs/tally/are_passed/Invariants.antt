-- The occurrences before those that are left pass.
use Rattle.std.proofs.Common.{◌≡◌, length}
use Rattle.std.specs.List.{list_all}
use Rattle.dm_runs.specs.declared.run.Occurrence.{Occurrence}
use Rattle.dm_beside.specs.Tallies.{is_passed, tally_at}
use Rattle.dm_beside.proofs.tally.are_passed.Given as goal

abbrev pub invariant-loop-occurrence : goal.invariant-loop-occurrence
invariant-loop-occurrence l =
    list_all (λ (each : Occurrence). is_passed (tally_at l.table each.parameter)) l.left ≡ list_all (λ (each : Occurrence). is_passed (tally_at l.table each.parameter)) l.fn.occurrences

abbrev pub decreases-loop-occurrence : goal.decreases-loop-occurrence
decreases-loop-occurrence l = length l.left
