use Rattle.std.proofs.Common.{◌≡◌, ◌++◌, List, map, ap, ◌∙◌, sym, subst, append_assoc}
use Rattle.dm_token.specs.declared.expansion.Expansion.{Expansion}
use Rattle.dm_token.specs.declared.expansion.Mark.{Mark}
use Rattle.dm_expand.specs.Laws.{AreNumbered}
use Rattle.dm_expand.specs.Views.{taken_along}
use Rattle.dm_expand.proofs.TakeLemmas.{along-behind, along-numbered}
use Rattle.dm_expand.proofs.progress.take_on.Goals as goal

pub legs-preserved : goal.legs-preserved
legs-preserved c =
    let made : List Expansion = c.legs.expansions in
    let own : List Mark = c.parts.result.1.now in
    let trail : List Mark = c.in-Some.trail.now in
    let behind : List Mark = c.in-Some.behind.now in
    let is : c.legs.left.now ≡ trail ++ behind = c.in-Some.ensures.0 in (
      ap (map (taken_along (behind ++ own))) c.take_along.ensures
          ∙ sym (along-behind trail (behind ++ own) made)
          ∙ ap (λ (marks : List Mark). map (taken_along marks) made) (sym (append_assoc trail behind own))
          ∙ ap (λ (marks : List Mark). map (taken_along (marks ++ own)) made) (sym is)
          ∙ c.legs.invariant.0,
      (c.legs.invariant.1.0, subst (λ (es : List Expansion). AreNumbered c.args.first es c.legs.invariant.1.0) (sym c.take_along.ensures) (along-numbered trail c.args.first made c.legs.invariant.1.0 c.legs.invariant.1.1)),
    )

pub returns : goal.returns
returns c =
    let made : List Expansion = c.legs.expansions in
    let own : List Mark = c.parts.result.1.now in
    c.take_along-2.ensures
    ∙ ap (λ (marks : List Mark). map (taken_along (marks ++ own)) made) (sym c.in_default.ensures)
    ∙ c.legs.invariant.0
