-- Those of the first are marked, and what was marked still is.
use Rattle.std.proofs.Common.{rules, subst, sym}
use Rattle.std.proofs.lemmas.List.{nil_from_length}
use Rattle.dm_align.specs.Places.{AreWanted}
use Rattle.dm_align.proofs.places.starts_of.Goals as goal

pub loop-first-preserved : goal.loop-first-preserved
loop-first-preserved c later keeps rest =
    let one = c.in_ok-mark_run.ensures in
    c.loop-first.invariant later (λ span wanted. keeps span (one.kept span wanted)) (subst (AreWanted later) (sym c.in-Some.ensures.cases.0) (one.marked later keeps, rest))

pub returns : goal.returns
returns c =
    let starts = c.loop-first.starts.items in
    c.loop-first.invariant starts (λ span wanted. wanted) (subst (AreWanted starts) (sym (nil_from_length c.loop-first.left.now (search rules))) tt)
