-- What is added is known, and the places of runs come last.
use Rattle.std.proofs.Common.{List, Option, Some, map, option_map, ap, sym, ◌∙◌, subst}
use Rattle.dm_tree.specs.declared.unit.Declared.{Declared}
use Rattle.dm_tree.specs.Views.{entries_of, view_of_unit}
use Rattle.dm_agree.specs.declared.comparison.Added as code
use Rattle.dm_agree.specs.Comparing.{added_of}
use Rattle.dm_agree.proofs.PartLemmas.{if-ok}
use Rattle.dm_agree.proofs.StepLemmas.{denied}
use Rattle.dm_align.specs.Insertions.{put_in, AddsIt, IsOnly}
use Rattle.dm_align.specs.Units.{entry_of, without}
use Rattle.dm_align.proofs.AlignmentLemmas.{as-found, last-part, so-found}
use Rattle.dm_align.proofs.units.are_aligned_for.Goals as goal

pub returns-then-not-branch-2 : goal.returns-then-not-branch-2
returns-then-not-branch-2 c =
    let units = c.args.units.now in
    let new_types = units.new_types.now in
    let old_types = units.old_types.now in
    let old = view_of_unit old_types units.old.now in
    let new = view_of_unit new_types units.new.now in
    let it = c.args.it.now in
    let only = subst (λ (found : Option code.Added). IsOnly (AddsIt new_types new it) (option_map (added_of new_types) found)) c.in-Some.is c.in_ok-added.ensures.only in
    denied c.in_ok-others_agree.field-0 c.in_ok-others_agree.ensures c.if-not-branch-2.true
    (λ whole. (as-found old_types new_types old new units.runs.now it (added_of new_types c.in-Some.added) only whole).externals)

pub returns : goal.returns
returns c =
    let units = c.args.units.now in
    let new_types = units.new_types.now in
    let old_types = units.old_types.now in
    let old = view_of_unit old_types units.old.now in
    let new = view_of_unit new_types units.new.now in
    let it = c.args.it.now in
    let found = added_of new_types c.in-Some.added in
    let only = subst (λ (one : Option code.Added). IsOnly (AddsIt new_types new it) (option_map (added_of new_types) one)) c.in-Some.is c.in_ok-added.ensures.only in
    let same = c.are_other_entries.ensures.0 c.if-not-are_other_entries.false in
    let declared = sym (ap (λ (entries : List Declared). map entry_of (without it.first it.count (entries_of new_types entries))) c.items-new.ensures)
    ∙ (same ∙ ap (λ (entries : List Declared). map entry_of (entries_of old_types entries)) c.items-old.ensures) in
    if-ok c.are_placed.result
    (λ answer says.
    so-found old_types new_types old new units.runs.now it found only answer
    (last-part old_types new_types old new units.runs.now (Some (put_in it found)) (c.in_ok-are_same_structs.ensures.0 c.if-not-branch.false) only.0.1 declared
    (c.in_ok-others_agree.ensures.0 c.if-not-branch-2.false) answer (says old_types)))
    c.are_placed.ensures
