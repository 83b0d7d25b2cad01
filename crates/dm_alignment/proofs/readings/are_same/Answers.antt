-- By what is added.
use Rattle.std.proofs.Common.{◌↔◌, IsTrue, IfSome, List, Option, None, sym, ◌∙◌, subst}
use Rattle.dm_agree.proofs.PartLemmas.{if-ok}
use Rattle.dm_agree.proofs.StepLemmas.{through}
use Rattle.dm_align.specs.declared.insertion.Inserted.{Inserted}
use Rattle.dm_align.specs.Insertions.{AreAlignedFor}
use Rattle.dm_align.specs.Units.{AreAligned}
use Rattle.dm_meanings.specs.Types.{unit_in}
use Rattle.dm_runs.specs.declared.run.Run.{Run}
use Rattle.dm_alignment.specs.Insertions.{IsInserted}
use Rattle.dm_alignment.proofs.ReadingLemmas.{read-unit, unread-unit}
use Rattle.dm_alignment.proofs.readings.are_same.Goals as goal

pub returns-then-not-reads : goal.returns-then-not-reads
returns-then-not-reads c =
    let old = c.args.old.now.reading.now in
    let new = c.args.new.now.reading.now in
    if-ok c.are_aligned.result
    (λ answer says.
    through (subst (λ (runs : List Run). IsTrue answer ↔ AreAligned old.types new.types (unit_in old) (unit_in new) runs None) c.runs_of.ensures says)
    (unread-unit old new c.args.change.now (sym c.reads.ensures ∙ c.if-not-reads.true)))
    c.are_aligned.ensures

pub returns-in-Some : goal.returns-in-Some
returns-in-Some c =
    let old = c.args.old.now.reading.now in
    let new = c.args.new.now.reading.now in
    let change = c.args.change.now in
    let added = c.in-Some.added in
    let inserted = subst (λ (found : Option Inserted). IfSome found (IsInserted old new change)) c.in-Some.is c.in_ok-added_to.ensures.found in
    if-ok c.are_aligned_for.result
    (λ answer says.
    through (subst (λ (runs : List Run). IsTrue answer ↔ AreAlignedFor added old.types new.types (unit_in old) (unit_in new) runs) c.runs_of.ensures says)
    (read-unit old new change (sym c.reads.ensures ∙ c.if-not-reads.false) added inserted))
    c.are_aligned_for.ensures
