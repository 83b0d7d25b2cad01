use Rattle.std.proofs.Common.{◌≡◌, ◌∷◌, ◌++◌, [], List, map, ap, ◌∙◌, sym, subst}
use Rattle.dm_token.specs.declared.expansion.Expansion.{Expansion}
use Rattle.dm_token.specs.declared.expansion.Mark.{Mark}
use Rattle.dm_expand.specs.Laws.{AreNumbered}
use Rattle.dm_expand.specs.Views.{taken_along}
use Rattle.dm_expand.proofs.TakeLemmas.{along-nothing, along-grown, along-numbered}
use Rattle.dm_expand.proofs.progress.take_along.Goals as goal

pub walk-preserved : goal.walk-preserved
walk-preserved c =
    let made : List Expansion = c.walk.expansions in
    let outer : List Mark = c.in-Some.outer.now in
    let inner : Mark = c.in-Some.mark in
    let is : c.walk.left.now ≡ outer ++ inner ∷ [] = c.in-Some.ensures in (
      ap (map (taken_along outer)) c.take_marked.ensures
          ∙ sym (along-grown outer inner made)
          ∙ ap (λ (trail : List Mark). map (taken_along trail) made) (sym is)
          ∙ c.walk.invariant.0,
      (c.walk.invariant.1.0, subst (λ (es : List Expansion). AreNumbered c.args.first es c.walk.invariant.1.0) (sym c.take_marked.ensures) (along-numbered (inner ∷ []) c.args.first made c.walk.invariant.1.0 c.walk.invariant.1.1)),
    )

pub returns : goal.returns
returns c =
    let made : List Expansion = c.walk.expansions in
    sym (along-nothing made) ∙ ap (λ (trail : List Mark). map (taken_along trail) made) (sym c.in_default.ensures) ∙ c.walk.invariant.0
