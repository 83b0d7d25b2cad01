-- The subjects so far.
use Rattle.std.proofs.Common.{◌≡◌, map, take}
use Rattle.dm_subjects.specs.Subjects.{subject_of}
use Rattle.dm_subjects.proofs.listing.subjects_of.Given as goal

abbrev pub invariant-loop-definition : goal.invariant-loop-definition
invariant-loop-definition l = l.subjects ≡ map (subject_of l.loader) (map (λ one. one.now) (take l.definition-index l.found))
