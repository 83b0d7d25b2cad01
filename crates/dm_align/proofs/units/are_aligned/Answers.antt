-- The places of runs come last.
use Rattle.std.proofs.Common.{List, None, map, ap, sym, ◌∙◌}
use Rattle.dm_tree.specs.declared.unit.Declared.{Declared}
use Rattle.dm_tree.specs.Views.{entries_of, view_of_unit}
use Rattle.dm_agree.proofs.PartLemmas.{if-ok}
use Rattle.dm_align.specs.Units.{entry_of}
use Rattle.dm_align.proofs.AlignmentLemmas.{last-part}
use Rattle.dm_align.proofs.units.are_aligned.Goals as goal

pub returns : goal.returns
returns c =
    let units = c.args.units.now in
    let new_types = units.new_types.now in
    let old_types = units.old_types.now in
    let same = c.are_same_entries.ensures.0 c.if-not-are_same_entries.false in
    let declared = sym (ap (λ (entries : List Declared). map entry_of (entries_of new_types entries)) c.items-new.ensures)
    ∙ (same ∙ ap (λ (entries : List Declared). map entry_of (entries_of old_types entries)) c.items-old.ensures) in
    if-ok c.are_placed.result
    (λ answer says.
    last-part old_types new_types (view_of_unit old_types units.old.now) (view_of_unit new_types units.new.now) units.runs.now None (c.in_ok-are_same_structs.ensures.0 c.if-not-branch.false) tt declared
    (c.in_ok-all_agree.ensures.0 c.if-not-branch-2.false) answer (says old_types))
    c.are_placed.ensures
