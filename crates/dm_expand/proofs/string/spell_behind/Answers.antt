use Rattle.std.proofs.Common.{◌++◌, ap, ◌∙◌}
use Rattle.dm_expand.specs.Items.{Item}
use Rattle.dm_expand.specs.Strings.{spelled_behind, spelled_next}
use Rattle.dm_expand.proofs.StringLemmas.{added, added_all, spelled_behind-step, spelled_behind-nothing}
use Rattle.dm_expand.proofs.string.spell_behind.Goals as goal

pub loop-item-preserved : goal.loop-item-preserved
loop-item-preserved c =
    let item : Item = c.item-item.result in
    added spelled_behind (λ x. spelled_next x.pp) _ _ _ c.args.others.now c.loop-item.item-index item (spelled_behind-step item) c.loop-item-test.true c.item-item.is
    (c.in_ok-spell_next.ensures ∙ ap (λ (x : Item). c.loop-item.to.items ++ spelled_next x.pp) c.item.view_is) c.loop-item.invariant

pub returns : goal.returns
returns c = added_all spelled_behind _ _ c.args.others.now c.loop-item.item-index spelled_behind-nothing c.loop-item-test.false c.loop-item.invariant
