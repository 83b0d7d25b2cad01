-- None of the definitions up to here is on the line.
use Rattle.std.proofs.Common.{◌≡◌, map, find, length}
use Rattle.dm_token.specs.declared.unit.Read.{Read}
use Rattle.dm_judge.specs.Proposals.{definitions_in}
use Rattle.dm_subjects.specs.Lines.{stands_on}
use Rattle.dm_subjects.proofs.found.definition_in.Given as goal

abbrev pub invariant-loop-read : goal.invariant-loop-read
invariant-loop-read l = find (stands_on l.fn.file l.fn.line) (map (λ (read : Read). read.definition) l.left) ≡ find (stands_on l.fn.file l.fn.line) (definitions_in l.fn.reading)

abbrev pub decreases-loop-read : goal.decreases-loop-read
decreases-loop-read l = length l.left
