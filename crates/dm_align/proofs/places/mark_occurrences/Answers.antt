-- The first is marked, and what was marked still is.
use Rattle.std.proofs.Common.{subst, sym}
use Rattle.dm_align.specs.Places.{AreOccurrencesWanted}
use Rattle.dm_align.proofs.PlaceLemmas.{begun-kept, begun-marked}
use Rattle.dm_align.proofs.places.mark_occurrences.Goals as goal

pub loop-first-preserved : goal.loop-first-preserved
loop-first-preserved c =
    let invariant = c.loop-first.invariant in
    let first = c.in-Some.first.now.span in
    let before = c.loop-first.starts.items in
    let after = c.mark.new.marks.items in
    let marked = begun-marked before after first c.in_ok-mark.ensures in
    let kept = begun-kept before after first c.in_ok-mark.ensures in
    record {
      marked = λ later keeps rest.
          invariant.marked later (λ span wanted. keeps span (kept span wanted)) (subst (AreOccurrencesWanted later) (sym c.in-Some.ensures.cases.0) (keeps first marked, rest));
      kept = λ span wanted. kept span (invariant.kept span wanted);
    }
