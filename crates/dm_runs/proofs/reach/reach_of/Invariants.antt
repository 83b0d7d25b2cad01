-- How far the tokens up to here come.
use Rattle.std.proofs.Common.{◌≤◌}
use Rattle.dm_runs.specs.Runs.{is_later}
use Rattle.dm_runs.proofs.ReachLemmas.{Reached}
use Rattle.dm_runs.proofs.reach.reach_of.Given as goal

abbrev pub invariant-loop-position : goal.invariant-loop-position
invariant-loop-position l =
    (l.position ≤ l.fn.run.after)
    × Reached (is_later l.stand.names.now l.stand.definition.now l.prefix) l.tokens l.fn.run.first l.position l.last l.reach.items
