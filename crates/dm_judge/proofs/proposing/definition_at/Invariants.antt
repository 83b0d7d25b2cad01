-- No unit up to here has it.
use Rattle.std.proofs.Common.{◌≡◌, find, length}
use Rattle.std.specs.Prelude.{flat_map}
use Rattle.dm_runs.specs.Runs.{is_at}
use Rattle.dm_judge.specs.Proposals as proposals
use Rattle.dm_judge.proofs.proposing.definition_at.Given as goal

abbrev pub invariant-loop-reading : goal.invariant-loop-reading
invariant-loop-reading l = find (is_at l.fn.file l.fn.hash) (flat_map proposals.definitions_in l.left) ≡ proposals.definition_at l.fn.readings l.fn.file l.fn.hash

abbrev pub decreases-loop-reading : goal.decreases-loop-reading
decreases-loop-reading l = length l.left
