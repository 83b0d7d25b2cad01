-- The front and the back of what is left.
use Rattle.std.proofs.Common.{ℕ, ◌↔◌, ◌+◌, List, length, map, ap, ◌∙◌, subst, sym}
use Rattle.std.specs.List.{list_all}
use Rattle.dm_tree.specs.declared.unit.CoreExternal.{CoreExternal}
use Rattle.dm_tree.specs.TypeNumbers.{external_has_known}
use Rattle.dm_tree.specs.Units.{External}
use Rattle.dm_tree.specs.Views.{view_of_external}
use Rattle.dm_meaning.specs.Replaced.{Zipped}
use Rattle.dm_agree.specs.declared.comparison.Comparison.{Comparison}
use Rattle.dm_agree.specs.Comparing.{rewriting}
use Rattle.dm_agree.proofs.PartLemmas.{if-ok}
use Rattle.dm_agree.proofs.StepLemmas.{through, back, itself}
use Rattle.dm_align.specs.Units.{ExternalsAgree, without}
use Rattle.dm_align.proofs.EntryLemmas.{without-map}
use Rattle.dm_align.proofs.StepLemmas.{around-parts, around-short, both-parts, first-fails, list-take, list-drop, zipped-map}
use Rattle.dm_align.proofs.externals.other_externals_agree.Goals as goal

abbrev Agree : Comparison → CoreExternal → CoreExternal → Type 0
Agree it x y = ExternalsAgree (rewriting it) (view_of_external it.new_types.now x) (view_of_external it.old_types.now y)

shown : (it : Comparison) (new old : List CoreExternal)
    → Zipped (Agree it) new old ↔ Zipped (ExternalsAgree (rewriting it)) (map (view_of_external it.new_types.now) new) (map (view_of_external it.old_types.now) old)
shown it new old = zipped-map (ExternalsAgree (rewriting it)) (view_of_external it.new_types.now) (view_of_external it.old_types.now) new old

others : (it : Comparison) (from : ℕ) (new old : List CoreExternal) → Zipped (Agree it) (without from 1 new) old
    ↔ Zipped (ExternalsAgree (rewriting it)) (without from 1 (map (view_of_external it.new_types.now) new)) (map (view_of_external it.old_types.now) old)
others it from new old =
    through (shown it (without from 1 new) old)
    (subst (λ (one : List External). Zipped (ExternalsAgree (rewriting it)) (map (view_of_external it.new_types.now) (without from 1 new)) (map (view_of_external it.old_types.now) old)
    ↔ Zipped (ExternalsAgree (rewriting it)) one (map (view_of_external it.old_types.now) old)) (sym (without-map (view_of_external it.new_types.now) from 1 new)) itself)

pub returns-then-old-front : goal.returns-then-old-front
returns-then-old-front c =
    let it = c.args.it.now in
    let front : List CoreExternal = c.around.result.0.now in
    let behind : List CoreExternal = c.around.result.1.now in
    through (around-short (Agree it) c.args.new.now c.args.old.now c.args.added 1 front behind c.around.ensures.front c.around.ensures.back c.if-old-front.true)
    (others it c.args.added c.args.new.now c.args.old.now)

pub externals_agree-requires-clause-new : goal.externals_agree-requires-clause-new
externals_agree-requires-clause-new c =
    let known = external_has_known (length c.args.it.now.new_types.now.shapes) in
    ap (list_all known) c.around.ensures.front ∙ list-take known c.args.added c.args.new.now c.requires.new

pub externals_agree-requires-2-clause-new : goal.externals_agree-requires-2-clause-new
externals_agree-requires-2-clause-new c =
    let known = external_has_known (length c.args.it.now.new_types.now.shapes) in
    ap (list_all known) c.around.ensures.back ∙ list-drop known (c.args.added + 1) c.args.new.now c.requires.new

pub returns-then-not-branch : goal.returns-then-not-branch
returns-then-not-branch c =
    let it = c.args.it.now in
    let front : List CoreExternal = c.around.result.0.now in
    let behind : List CoreExternal = c.around.result.1.now in
    through (first-fails c.in_ok-externals_agree.field-0 (through c.in_ok-externals_agree.ensures (back (shown it front c.split_at.result.0.now))) c.if-not-branch.true)
    (through (around-parts (Agree it) c.args.new.now c.args.old.now c.args.added 1 front behind c.around.ensures.front c.around.ensures.back
    c.split_at.result.0.now c.split_at.result.1.now c.split_at.ensures.front c.split_at.ensures.back c.if-old-front.false) (others it c.args.added c.args.new.now c.args.old.now))

pub returns : goal.returns
returns c =
    let it = c.args.it.now in
    let front : List CoreExternal = c.around.result.0.now in
    let behind : List CoreExternal = c.around.result.1.now in
    if-ok c.externals_agree-2.result
    (λ answer says.
    through (both-parts answer (through says (back (shown it behind c.split_at.result.1.now)))
    ((shown it front c.split_at.result.0.now).1 (c.in_ok-externals_agree.ensures.0 c.if-not-branch.false)))
    (through (around-parts (Agree it) c.args.new.now c.args.old.now c.args.added 1 front behind c.around.ensures.front c.around.ensures.back
    c.split_at.result.0.now c.split_at.result.1.now c.split_at.ensures.front c.split_at.ensures.back c.if-old-front.false) (others it c.args.added c.args.new.now c.args.old.now)))
    c.externals_agree-2.ensures
