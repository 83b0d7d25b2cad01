use Rattle.std.proofs.Common.{List, ℕ, ap, ◌∙◌, sym, set, get_or}
use Rattle.std.proofs.lemmas.List.Edits.{map_over_more}
use Rattle.dm_expand.specs.Items.{Item}
use Rattle.dm_expand.specs.HideSets.{HiddenNumbers}
use Rattle.dm_expand.specs.Substitution.{hidden_besides}
use Rattle.dm_expand.proofs.substitute.hide_all.Goals as goal

pub loop-item-preserved : goal.loop-item-preserved
loop-item-preserved c =
    let items : List Item = c.loop-item.items in
    let i : ℕ = c.loop-item.item-index in
    let item : Item = c.item-item.result in (
      ap (λ (x : Item). set items i x) (c.in_ok-hide.ensures.hidden ∙ ap (λ (hiding : HiddenNumbers). hidden_besides hiding (get_or items i item)) c.loop-item.invariant.1 ∙ ap (hidden_besides c.args.hiding.now) (sym c.item-item.is))
          ∙ map_over_more (hidden_besides c.args.hiding.now) c.args.items.now items i item c.loop-item-test.true c.loop-item.invariant.0 c.item-item.is,
      c.in_ok-hide.ensures.same ∙ c.loop-item.invariant.1,
    )
