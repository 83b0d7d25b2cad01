-- None has the tokens with more pairs of parentheses than are left.
use Rattle.std.proofs.Common.{◌≡◌, flat_map}
use Rattle.dm_agree.specs.Index.{first_parameter}
use Rattle.dm_agree.specs.Standing.{narrowing, occurrences_with}
use Rattle.dm_agree.proofs.index.OccurrenceIndex.first_narrowing.Given as goal

abbrev pub invariant-loop-left : goal.invariant-loop-left
invariant-loop-left l =
    first_parameter (flat_map (occurrences_with l.self.occurrences) (narrowing l.inner l.left)) ≡ first_parameter (flat_map (occurrences_with l.self.occurrences) (narrowing l.inner l.fn.pairs))

abbrev pub decreases-loop-left : goal.decreases-loop-left
decreases-loop-left l = l.left
