-- One entry after another.
use Rattle.std.proofs.Common.{◌+◌, Bool, List, ◌∷◌, drop, sym, ap, ◌∙◌, subst, arith}
use Rattle.std.proofs.lemmas.List.{at_drop_more, at_drop_all}
use Rattle.dm_edit.specs.declared.plan.Entry.{Entry}
use Rattle.dm_subjects.specs.Files.{with_mark}
use Rattle.dm_subjects.proofs.FileLemmas.{AreMarked, all-marked, marked-step}
use Rattle.dm_subjects.proofs.files.edited_files.Goals as goal

pub loop-entry-preserved : goal.loop-entry-preserved
loop-entry-preserved c =
    let entries = c.args.entries.now in
    let at = c.loop-entry.entry-index in
    let entry = c.entry-item.result in
    let edited = c.loop-entry.edited.items in
    let first = at_drop_more (λ (left : List Entry). left) entries at entry c.loop-entry-test.true
    ∙ ap (λ (one : Entry). one ∷ drop (at + 1) entries) (sym c.entry-item.is) in
    let step = marked-step entries edited entry (drop (at + 1) entries) c.args.count c.loop-entry.edited.len c.note.new.edited
    (c.note.ensures ∙ ap (λ (marks : List Bool). with_mark marks entry) c.as_mut_slice.ensures.value)
    (omega (arith, c.loop-entry.edited.ok.0)) c.loop-entry.invariant.long
    (subst (λ (left : List Entry). AreMarked entries edited left) first c.loop-entry.invariant.marked) in
    record { long = step.0; marked = step.1 }

pub returns : goal.returns
returns c =
    let entries = c.args.entries.now in
    let edited = c.loop-entry.edited.items in
    all-marked entries edited c.args.count c.loop-entry.invariant.long
    (subst (λ (left : List Entry). AreMarked entries edited left) (at_drop_all (λ (left : List Entry). left) entries c.loop-entry.entry-index c.loop-entry-test.false) c.loop-entry.invariant.marked)
