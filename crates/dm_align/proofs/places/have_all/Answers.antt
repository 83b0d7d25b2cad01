-- One after another.
use Rattle.std.proofs.Common.{rules, subst}
use Rattle.std.proofs.lemmas.List.{nil_from_length}
use Rattle.dm_align.specs.Places.{AreWanted}
use Rattle.dm_align.specs.Units.{IsPlaced}
use Rattle.dm_align.proofs.PlaceLemmas.{one-fails, rest-decides, none-left}
use Rattle.dm_align.proofs.places.have_all.Goals as goal

pub returns-then-not-is_placed : goal.returns-then-not-is_placed
returns-then-not-is_placed c one starts are wanted =
    let so_far = c.loop-first.invariant one starts are wanted in
    let is = c.in-Some.ensures.cases.0 in
    let here = subst (AreWanted starts) is so_far.0 in
    one-fails (IsPlaced one) c.args.runs.now c.loop-first.left.now so_far.1 c.in-Some.first.now c.in-Some.rest.now is c.is_placed.result (c.is_placed.ensures one starts are here.0) c.if-not-is_placed.true

pub loop-first-preserved : goal.loop-first-preserved
loop-first-preserved c one starts are wanted =
    let so_far = c.loop-first.invariant one starts are wanted in
    let is = c.in-Some.ensures.cases.0 in
    let here = subst (AreWanted starts) is so_far.0 in
    (here.1, rest-decides (IsPlaced one) c.args.runs.now c.loop-first.left.now so_far.1 c.in-Some.first.now c.in-Some.rest.now is c.is_placed.result (c.is_placed.ensures one starts are here.0) c.if-not-is_placed.false)

pub returns : goal.returns
returns c one starts are wanted =
    none-left (IsPlaced one) c.args.runs.now c.loop-first.left.now (c.loop-first.invariant one starts are wanted).1 (nil_from_length c.loop-first.left.now (search rules))
