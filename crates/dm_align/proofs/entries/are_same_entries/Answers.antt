-- One declaration after another.
use Rattle.std.proofs.Common.{rules, List, length, refl}
use Rattle.std.proofs.lemmas.Option.{slice_get_read}
use Rattle.dm_tree.specs.declared.unit.Declared.{Declared}
use Rattle.dm_agree.proofs.StepLemmas.{through}
use Rattle.dm_align.proofs.EntryLemmas.{IsSameEntry, same-entries}
use Rattle.dm_align.proofs.StepLemmas.{differ, one-more, all-are}
use Rattle.dm_align.proofs.entries.are_same_entries.Goals as goal

pub returns-then-not-is_same_entry : goal.returns-then-not-is_same_entry
returns-then-not-is_same_entry c =
    let new : List Declared = c.args.new.now in
    let old : List Declared = c.args.old.now in
    let i = c.loop-i.i in
    through (differ (IsSameEntry c.args.new_types.now c.args.old_types.now) new old i c.index-new-i.result c.index-old-i.result
    (slice_get_read new (length new) i c.index-new-i.result refl (search rules) c.index-new-i.is) (slice_get_read old (length old) i c.index-old-i.result refl (search rules) c.index-old-i.is)
    c.is_same_entry.result c.is_same_entry.ensures c.if-not-is_same_entry.true) (same-entries c.args.new_types.now c.args.old_types.now new old)

pub loop-i-preserved : goal.loop-i-preserved
loop-i-preserved c =
    let new : List Declared = c.args.new.now in
    let old : List Declared = c.args.old.now in
    let i = c.loop-i.i in
    one-more (IsSameEntry c.args.new_types.now c.args.old_types.now) new old i c.index-new-i.result c.index-old-i.result
    (slice_get_read new (length new) i c.index-new-i.result refl (search rules) c.index-new-i.is) (slice_get_read old (length old) i c.index-old-i.result refl (search rules) c.index-old-i.is)
    c.is_same_entry.result c.is_same_entry.ensures c.if-not-is_same_entry.false c.loop-i.invariant

pub returns : goal.returns
returns c =
    let new : List Declared = c.args.new.now in
    let old : List Declared = c.args.old.now in
    through (all-are (IsSameEntry c.args.new_types.now c.args.old_types.now) new old c.loop-i.i c.if-new-old.false (search rules) c.loop-i.invariant)
    (same-entries c.args.new_types.now c.args.old_types.now new old)
