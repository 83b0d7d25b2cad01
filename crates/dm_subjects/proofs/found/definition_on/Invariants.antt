-- No unit up to here has one.
use Rattle.std.proofs.Common.{◌≡◌, find, length}
use Rattle.std.specs.List.{flat_map}
use Rattle.dm_judge.specs.Proposals.{definitions_in}
use Rattle.dm_subjects.specs.Lines.{stands_on}
use Rattle.dm_subjects.proofs.found.definition_on.Given as goal

abbrev pub invariant-loop-reading : goal.invariant-loop-reading
invariant-loop-reading l = find (stands_on l.fn.file l.fn.line) (flat_map definitions_in l.left) ≡ find (stands_on l.fn.file l.fn.line) (flat_map definitions_in l.fn.readings)

abbrev pub decreases-loop-reading : goal.decreases-loop-reading
decreases-loop-reading l = length l.left
