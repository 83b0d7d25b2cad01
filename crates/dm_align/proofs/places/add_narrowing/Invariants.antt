-- What is added, and what is left to add.
use Rattle.std.proofs.Common.{◌≡◌, ◌||◌, IsTrue}
use Rattle.std.specs.List.{list_any}
use Rattle.dm_token.specs.declared.place.Span.{Span}
use Rattle.dm_tree.specs.Initialisers.{is_same_span}
use Rattle.dm_agree.specs.Standing.{narrowing}
use Rattle.dm_align.specs.Places.{has, is_wanted}
use Rattle.dm_align.proofs.places.add_narrowing.Given as goal

abbrev pub invariant-loop-left : goal.invariant-loop-left
invariant-loop-left l =
    (span : Span) → IsTrue (is_wanted l.starts span) → (has l.extents span || list_any (is_same_span span) (narrowing l.inner l.left)) ≡ (has l.initial.extents span || list_any (is_same_span span) (narrowing l.inner l.pairs))

abbrev pub decreases-loop-left : goal.decreases-loop-left
decreases-loop-left l = l.left
