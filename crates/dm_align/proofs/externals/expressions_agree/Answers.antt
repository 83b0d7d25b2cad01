-- One tree after another.
use Rattle.std.proofs.Common.{rules, ◌↔◌, List, length, map, refl}
use Rattle.std.proofs.lemmas.Option.{slice_get_read}
use Rattle.std.specs.Borrow.{Bor}
use Rattle.dm_tree.specs.declared.tree.Core.{Core}
use Rattle.dm_tree.specs.Views.{view}
use Rattle.dm_meaning.specs.Replaced.{Zipped}
use Rattle.dm_agree.specs.Agreement.{AgreesWhole}
use Rattle.dm_agree.specs.Parts.{nows}
use Rattle.dm_agree.proofs.AgreeLemmas.{known-get}
use Rattle.dm_agree.specs.Comparing.{rewriting}
use Rattle.dm_agree.specs.declared.comparison.Comparison.{Comparison}
use Rattle.dm_agree.proofs.StepLemmas.{through}
use Rattle.dm_align.proofs.StepLemmas.{differ, one-more, all-are, other-lengths, zipped-map}
use Rattle.dm_align.proofs.externals.expressions_agree.Goals as goal

abbrev Agree : Comparison → (Bor Core) → (Bor Core) → Type 0
Agree it x y = AgreesWhole (rewriting it) (view it.new_types.now x.now) (view it.old_types.now y.now)

shown : (it : Comparison) (new old : List (Bor Core)) → Zipped (Agree it) new old
    ↔ Zipped (AgreesWhole (rewriting it)) (map (view it.new_types.now) (nows new)) (map (view it.old_types.now) (nows old))
shown it new old =
    through (zipped-map (λ (x y : Core). AgreesWhole (rewriting it) (view it.new_types.now x) (view it.old_types.now y)) (λ (one : Bor Core). one.now) (λ (one : Bor Core). one.now) new old)
    (zipped-map (AgreesWhole (rewriting it)) (view it.new_types.now) (view it.old_types.now) (nows new) (nows old))

pub agrees_whole-requires-clause-new : goal.agrees_whole-requires-clause-new
agrees_whole-requires-clause-new c =
    known-get (length c.args.it.now.new_types.now.shapes) c.args.new.now c.loop-i.i c.index-new-i.result (search rules) c.index-new-i.is c.requires.new

pub agrees_whole-requires-clause-old : goal.agrees_whole-requires-clause-old
agrees_whole-requires-clause-old c =
    known-get (length c.args.it.now.old_types.now.shapes) c.args.old.now c.loop-i.i c.index-old-i.result (search rules) c.index-old-i.is c.requires.old

pub returns-then-new-old : goal.returns-then-new-old
returns-then-new-old c =
    let it = c.args.it.now in
    let new : List (Bor Core) = c.args.new.now in
    let old : List (Bor Core) = c.args.old.now in
    through (other-lengths (Agree it) new old c.if-new-old.true) (shown it new old)

pub returns-then-not-branch : goal.returns-then-not-branch
returns-then-not-branch c =
    let it = c.args.it.now in
    let new : List (Bor Core) = c.args.new.now in
    let old : List (Bor Core) = c.args.old.now in
    let i = c.loop-i.i in
    through (differ (Agree it) new old i c.index-new-i.result c.index-old-i.result
    (slice_get_read new (length new) i c.index-new-i.result refl (search rules) c.index-new-i.is) (slice_get_read old (length old) i c.index-old-i.result refl (search rules) c.index-old-i.is)
    c.in_ok-agrees_whole.field-0 c.in_ok-agrees_whole.ensures c.if-not-branch.true) (shown it new old)

pub loop-i-preserved : goal.loop-i-preserved
loop-i-preserved c =
    let it = c.args.it.now in
    let new : List (Bor Core) = c.args.new.now in
    let old : List (Bor Core) = c.args.old.now in
    let i = c.loop-i.i in
    one-more (Agree it) new old i c.index-new-i.result c.index-old-i.result
    (slice_get_read new (length new) i c.index-new-i.result refl (search rules) c.index-new-i.is) (slice_get_read old (length old) i c.index-old-i.result refl (search rules) c.index-old-i.is)
    c.in_ok-agrees_whole.field-0 c.in_ok-agrees_whole.ensures c.if-not-branch.false c.loop-i.invariant

pub returns : goal.returns
returns c =
    let it = c.args.it.now in
    let new : List (Bor Core) = c.args.new.now in
    let old : List (Bor Core) = c.args.old.now in
    through (all-are (Agree it) new old c.loop-i.i c.if-new-old.false (search rules) c.loop-i.invariant) (shown it new old)
