use Rattle.std.proofs.Common.{ap, ◌∙◌, sym, not}
use Rattle.dm_expand.specs.Items.{Item}
use Rattle.dm_expand.specs.Trails as trails
use Rattle.dm_expand.proofs.SearchLemmas.{found_at, passed_at, passed_all, otherwise-step, otherwise-nothing, otherwise-no_way}
use Rattle.dm_expand.proofs.trails.come_otherwise.Goals as goal

pub returns-then-length-eq0 : goal.returns-then-length-eq0
returns-then-length-eq0 c = otherwise-no_way c.args.name.now c.args.items.now (sym c.length.ensures ∙ c.if-length-eq0.true)

pub returns-then-not-begins : goal.returns-then-not-begins
returns-then-not-begins c =
    let item : Item = c.item-item.result in
    found_at (trails.come_otherwise c.args.name.now) (λ x. not (trails.begins_with c.args.name.now x.trail)) c.args.items.now c.loop-item.item-index item (otherwise-step c.args.name.now item)
    c.loop-item-test.true c.item-item.is c.loop-item.invariant
    (ap not (sym c.if-not-begins.true ∙ c.in_ok-begins.ensures ∙ ap (λ (x : Item). trails.begins_with c.args.name.now x.trail) c.item.view_is))

pub loop-item-preserved : goal.loop-item-preserved
loop-item-preserved c =
    let item : Item = c.item-item.result in
    passed_at (trails.come_otherwise c.args.name.now) (λ x. not (trails.begins_with c.args.name.now x.trail)) c.args.items.now c.loop-item.item-index item (otherwise-step c.args.name.now item)
    c.loop-item-test.true c.item-item.is c.loop-item.invariant
    (ap not (sym c.if-not-begins.false ∙ c.in_ok-begins.ensures ∙ ap (λ (x : Item). trails.begins_with c.args.name.now x.trail) c.item.view_is))

pub returns : goal.returns
returns c = passed_all (trails.come_otherwise c.args.name.now) c.args.items.now c.loop-item.item-index (otherwise-nothing c.args.name.now) c.loop-item-test.false c.loop-item.invariant
