use Rattle.std.proofs.Common.{◌≡◌, ◌+◌, ◌∷◌, List, map, drop, ap, ◌∙◌, sym, subst}
use Rattle.std.proofs.lemmas.List.{at_drop_more, at_drop_all}
use Rattle.dm_token.specs.declared.expansion.Expansion.{Expansion}
use Rattle.dm_token.specs.declared.expansion.Mark.{Mark}
use Rattle.dm_expand.specs.Items.{Item}
use Rattle.dm_expand.specs.Steps.{taken_by}
use Rattle.dm_expand.specs.Laws.{AreNumbered}
use Rattle.dm_expand.specs.Views.{taken_along}
use Rattle.dm_expand.proofs.TakeLemmas.{taken-nothing, taken-more, along-numbered}
use Rattle.dm_expand.proofs.progress.take_in.Goals as goal

pub loop-item-preserved : goal.loop-item-preserved
loop-item-preserved c =
    let made : List Expansion = c.loop-item.expansions in
    let argument : List Item = c.args.argument.now in
    let i = c.loop-item.item-index in
    let item : Item = c.item-item.result in
    let rest : List Item = drop (i + 1) argument in
    let same : c.item.inside.trail ≡ item.trail = ap (λ (x : Item). x.trail) c.item.view_is in (
      ap (map (taken_by rest)) (c.take_on.ensures ∙ ap (λ (trail : List Mark). map (taken_along trail) made) same)
          ∙ sym (taken-more item rest made)
          ∙ ap (λ (x : Item). map (taken_by (x ∷ rest)) made) c.item-item.is
          ∙ sym (at_drop_more (λ (xs : List Item). map (taken_by xs) made) argument i item c.loop-item-test.true)
          ∙ c.loop-item.invariant.0,
      (c.loop-item.invariant.1.0, subst (λ (es : List Expansion). AreNumbered c.args.first es c.loop-item.invariant.1.0) (sym c.take_on.ensures) (along-numbered c.item.inside.trail c.args.first made c.loop-item.invariant.1.0 c.loop-item.invariant.1.1)),
    )

pub returns : goal.returns
returns c =
    let made : List Expansion = c.loop-item.expansions in
    sym (taken-nothing made)
    ∙ sym (at_drop_all (λ (xs : List Item). map (taken_by xs) made) c.args.argument.now c.loop-item.item-index c.loop-item-test.false)
    ∙ c.loop-item.invariant.0
