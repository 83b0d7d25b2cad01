-- One member after another.
use Rattle.std.proofs.Common.{rules, ◌≡◌, List, length, refl}
use Rattle.std.proofs.lemmas.Option.{slice_get_read}
use Rattle.dm_type.specs.declared.shape.Member.{Member}
use Rattle.dm_type.specs.Structs.{shown_member}
use Rattle.dm_type.specs.Tables.{Table}
use Rattle.dm_agree.proofs.StepLemmas.{through}
use Rattle.dm_align.proofs.StepLemmas.{differ, one-more, all-are, zipped-same}
use Rattle.dm_align.proofs.structs.are_same_members.Goals as goal

abbrev Same : Table → Table → Member → Member → Type 0
Same new old x y = shown_member new x ≡ shown_member old y

pub returns-then-not-is_same_member : goal.returns-then-not-is_same_member
returns-then-not-is_same_member c =
    let new : List Member = c.args.new.now in
    let old : List Member = c.args.old.now in
    let i = c.loop-i.i in
    through (differ (Same c.args.new_types.now c.args.old_types.now) new old i c.index-new-i.result c.index-old-i.result
    (slice_get_read new (length new) i c.index-new-i.result refl (search rules) c.index-new-i.is) (slice_get_read old (length old) i c.index-old-i.result refl (search rules) c.index-old-i.is)
    c.is_same_member.result c.is_same_member.ensures c.if-not-is_same_member.true) (zipped-same (shown_member c.args.new_types.now) (shown_member c.args.old_types.now) new old)

pub loop-i-preserved : goal.loop-i-preserved
loop-i-preserved c =
    let new : List Member = c.args.new.now in
    let old : List Member = c.args.old.now in
    let i = c.loop-i.i in
    one-more (Same c.args.new_types.now c.args.old_types.now) new old i c.index-new-i.result c.index-old-i.result
    (slice_get_read new (length new) i c.index-new-i.result refl (search rules) c.index-new-i.is) (slice_get_read old (length old) i c.index-old-i.result refl (search rules) c.index-old-i.is)
    c.is_same_member.result c.is_same_member.ensures c.if-not-is_same_member.false c.loop-i.invariant

pub returns : goal.returns
returns c =
    let new : List Member = c.args.new.now in
    let old : List Member = c.args.old.now in
    through (all-are (Same c.args.new_types.now c.args.old_types.now) new old c.loop-i.i c.if-new-old.false (search rules) c.loop-i.invariant)
    (zipped-same (shown_member c.args.new_types.now) (shown_member c.args.old_types.now) new old)
