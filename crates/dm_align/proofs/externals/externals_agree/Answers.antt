-- One external declaration after another.
use Rattle.std.proofs.Common.{rules, List, length, refl}
use Rattle.std.proofs.lemmas.Option.{slice_get_read}
use Rattle.dm_tree.specs.declared.unit.CoreExternal.{CoreExternal}
use Rattle.dm_tree.specs.Views.{view_of_external}
use Rattle.dm_align.specs.Units.{ExternalsAgree}
use Rattle.dm_agree.specs.Comparing.{rewriting}
use Rattle.dm_agree.specs.declared.comparison.Comparison.{Comparison}
use Rattle.dm_agree.proofs.StepLemmas.{through}
use Rattle.dm_align.proofs.StepLemmas.{differ, one-more, all-are, other-lengths, zipped-map}
use Rattle.dm_align.proofs.externals.externals_agree.Goals as goal

abbrev Agree : Comparison → CoreExternal → CoreExternal → Type 0
Agree it x y = ExternalsAgree (rewriting it) (view_of_external it.new_types.now x) (view_of_external it.old_types.now y)

pub returns-then-new-old : goal.returns-then-new-old
returns-then-new-old c =
    let it = c.args.it.now in
    let new : List CoreExternal = c.args.new.now in
    let old : List CoreExternal = c.args.old.now in
    through (other-lengths (Agree it) new old c.if-new-old.true) (zipped-map (ExternalsAgree (rewriting it)) (view_of_external it.new_types.now) (view_of_external it.old_types.now) new old)

pub returns-then-not-branch : goal.returns-then-not-branch
returns-then-not-branch c =
    let it = c.args.it.now in
    let new : List CoreExternal = c.args.new.now in
    let old : List CoreExternal = c.args.old.now in
    let i = c.loop-i.i in
    through (differ (Agree it) new old i c.index-new-i.result c.index-old-i.result
    (slice_get_read new (length new) i c.index-new-i.result refl (search rules) c.index-new-i.is) (slice_get_read old (length old) i c.index-old-i.result refl (search rules) c.index-old-i.is)
    c.in_ok-external_agrees.field-0 c.in_ok-external_agrees.ensures c.if-not-branch.true) (zipped-map (ExternalsAgree (rewriting it)) (view_of_external it.new_types.now) (view_of_external it.old_types.now) new old)

pub loop-i-preserved : goal.loop-i-preserved
loop-i-preserved c =
    let it = c.args.it.now in
    let new : List CoreExternal = c.args.new.now in
    let old : List CoreExternal = c.args.old.now in
    let i = c.loop-i.i in
    one-more (Agree it) new old i c.index-new-i.result c.index-old-i.result
    (slice_get_read new (length new) i c.index-new-i.result refl (search rules) c.index-new-i.is) (slice_get_read old (length old) i c.index-old-i.result refl (search rules) c.index-old-i.is)
    c.in_ok-external_agrees.field-0 c.in_ok-external_agrees.ensures c.if-not-branch.false c.loop-i.invariant

pub returns : goal.returns
returns c =
    let it = c.args.it.now in
    let new : List CoreExternal = c.args.new.now in
    let old : List CoreExternal = c.args.old.now in
    through (all-are (Agree it) new old c.loop-i.i c.if-new-old.false (search rules) c.loop-i.invariant) (zipped-map (ExternalsAgree (rewriting it)) (view_of_external it.new_types.now) (view_of_external it.old_types.now) new old)
