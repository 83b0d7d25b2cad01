-- One pair less.
use Rattle.std.proofs.Common.{◌||◌, arith}
use Rattle.std.specs.List.{list_any}
use Rattle.dm_tree.specs.Initialisers.{is_same_span}
use Rattle.dm_agree.specs.Standing.{narrowing}
use Rattle.dm_align.specs.Places.{has}
use Rattle.dm_align.proofs.PlaceLemmas.{narrower, narrowest-there}
use Rattle.dm_align.proofs.places.add_narrowing.Goals as goal

pub loop-left-preserved : goal.loop-left-preserved
loop-left-preserved c span wanted =
    let some = c.loop-left-test.true in
    narrower c.loop-left.extents c.add_widened.new.extents c.args.inner span c.loop-left.left (has c.args.extents.now span || list_any (is_same_span span) (narrowing c.args.inner c.args.pairs)) (omega (arith, some))
    (c.in_ok-add_widened.ensures span wanted) (c.loop-left.invariant span wanted)

pub returns : goal.returns
returns c span wanted =
    let none = c.loop-left-test.false in
    narrowest-there c.loop-left.extents c.add_widened-2.new.extents c.args.inner span c.loop-left.left (has c.args.extents.now span || list_any (is_same_span span) (narrowing c.args.inner c.args.pairs)) (omega (arith, none))
    (c.in_ok-add_widened-2.ensures span wanted) (c.loop-left.invariant span wanted)
