-- No reading up to here is one of the definition.
use Rattle.std.proofs.Common.{◌≡◌, map, find, length}
use Rattle.dm_token.specs.declared.unit.Read.{Read}
use Rattle.dm_runs.specs.Runs.{is_at}
use Rattle.dm_judge.specs.Proposals as proposals
use Rattle.dm_judge.proofs.proposing.definition_in.Given as goal

abbrev pub invariant-loop-read : goal.invariant-loop-read
invariant-loop-read l = find (is_at l.fn.file l.fn.hash) (map (λ (read : Read). read.definition) l.left) ≡ find (is_at l.fn.file l.fn.hash) (proposals.definitions_in l.fn.reading)

abbrev pub decreases-loop-read : goal.decreases-loop-read
decreases-loop-read l = length l.left
