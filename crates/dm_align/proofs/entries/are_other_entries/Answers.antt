-- The front and the back of what is left.
use Rattle.std.proofs.Common.{◌≡◌, ◌↔◌, ◌+◌, IsTrue, List, length, map, ap, sym, ◌∙◌, subst, Bool}
use Rattle.std.specs.List.{list_all}
use Rattle.dm_tree.specs.declared.unit.Declared.{Declared}
use Rattle.dm_tree.specs.TypeNumbers.{entry_has_known}
use Rattle.dm_tree.specs.Views.{entries_of}
use Rattle.dm_agree.proofs.StepLemmas.{through, back}
use Rattle.dm_align.specs.Units.{entry_of, without}
use Rattle.dm_align.proofs.EntryLemmas.{IsSameEntry, same-entries, other-entries}
use Rattle.dm_align.proofs.StepLemmas.{around-parts, both-parts, first-fails, list-take, list-drop}
use Rattle.dm_align.proofs.entries.are_other_entries.Goals as goal

pub are_same_entries-requires-clause-new : goal.are_same_entries-requires-clause-new
are_same_entries-requires-clause-new c =
    let known = entry_has_known (length c.args.new_types.now.shapes) in
    ap (list_all known) c.around.ensures.front ∙ list-take known c.args.block.first c.args.new.now c.requires.new

pub are_same_entries-requires-then-are_same_entries-clause-new : goal.are_same_entries-requires-then-are_same_entries-clause-new
are_same_entries-requires-then-are_same_entries-clause-new c =
    let known = entry_has_known (length c.args.new_types.now.shapes) in
    ap (list_all known) c.around.ensures.back ∙ list-drop known (c.args.block.first + c.args.block.count) c.args.new.now c.requires.new

pub returns-then-are_same_entries : goal.returns-then-are_same_entries
returns-then-are_same_entries c =
    let new = c.args.new_types.now in
    let old = c.args.old_types.now in
    let front : List Declared = c.around.result.0.now in
    let behind : List Declared = c.around.result.1.now in
    let test = c.are_same_entries-then-are_same_entries.result in
    through (both-parts test (through c.are_same_entries-then-are_same_entries.ensures (back (same-entries new old behind c.split_at.result.1.now)))
    ((same-entries new old front c.split_at.result.0.now).1 (c.are_same_entries.ensures.0 c.if-are_same_entries.true)))
    (through (around-parts (IsSameEntry new old) c.args.new.now c.args.old.now c.args.block.first c.args.block.count front behind c.around.ensures.front c.around.ensures.back
    c.split_at.result.0.now c.split_at.result.1.now c.split_at.ensures.front c.split_at.ensures.back c.if-old-front.false)
    (other-entries new old c.args.block.first c.args.block.count c.args.new.now c.args.old.now))

pub returns-else-are_same_entries : goal.returns-else-are_same_entries
returns-else-are_same_entries c =
    let new = c.args.new_types.now in
    let old = c.args.old_types.now in
    let front : List Declared = c.around.result.0.now in
    let behind : List Declared = c.around.result.1.now in
    let test = c.are_same_entries.result in
    subst (λ (answer : Bool). IsTrue answer ↔ (map entry_of (without c.args.block.first c.args.block.count (entries_of new c.args.new.now)) ≡ map entry_of (entries_of old c.args.old.now)))
    (sym c.if-are_same_entries.false)
    (through (first-fails test (through c.are_same_entries.ensures (back (same-entries new old front c.split_at.result.0.now))) c.if-are_same_entries.false)
    (through (around-parts (IsSameEntry new old) c.args.new.now c.args.old.now c.args.block.first c.args.block.count front behind c.around.ensures.front c.around.ensures.back
    c.split_at.result.0.now c.split_at.result.1.now c.split_at.ensures.front c.split_at.ensures.back c.if-old-front.false)
    (other-entries new old c.args.block.first c.args.block.count c.args.new.now c.args.old.now)))
