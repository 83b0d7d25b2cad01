use Rattle.std.proofs.Common.{◌++◌, ◌∷◌, [], List, ap, ◌∙◌, refl, sym, subst, take}
use Rattle.std.proofs.lemmas.List.{take_more}
use Rattle.dm_expand.specs.Items.{Item}
use Rattle.dm_expand.specs.HeadViews.{macros_of}
use Rattle.dm_expand.specs.Laws.{AreNoNames}
use Rattle.dm_expand.proofs.LawLemmas.{no_names-more}
use Rattle.dm_expand.proofs.needs.stay.Goals as goal

pub loop-item-preserved : goal.loop-item-preserved
loop-item-preserved c =
    let items : List Item = c.args.items.now in
    let item : Item = c.item-item.result in
    let i = c.loop-item.item-index in
    subst (AreNoNames (macros_of c.args.macros.now)) (sym (take_more items i item c.loop-item-test.true ∙ ap (λ (x : Item). take i items ++ x ∷ []) (sym c.item-item.is)))
    (no_names-more (macros_of c.args.macros.now) (take i items) item c.loop-item.invariant (c.if-not-names_nothing.ensures refl))
