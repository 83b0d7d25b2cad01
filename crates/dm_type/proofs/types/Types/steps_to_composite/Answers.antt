-- One step more.
use Rattle.std.proofs.Common.{◌≡◌, ℕ, List, [], ◌∷◌, ◌++◌, All, sym, ap, ◌∙◌, subst}
use Rattle.std.proofs.lemmas.List.Elements.{All-push}
use Rattle.dm_type.specs.declared.compose.Step.{Step}
use Rattle.dm_type.specs.Tables.{Table}
use Rattle.dm_type.specs.Composing.{IsOver, composed, wanted, carried_out}
use Rattle.dm_type.proofs.ComposingLemmas.{turned-push, carried-push}
use Rattle.dm_type.proofs.types.Types.steps_to_composite.Goals as goal

pub loop-pair-preserved : goal.loop-pair-preserved
loop-pair-preserved c =
    let table : Table = c.args.self.now in
    let left : List (ℕ × ℕ) = c.pop.new.self.items in
    let pair : ℕ × ℕ = c.in-Some.pair in
    let steps : List Step = c.loop-pair.steps.items in
    let popped : c.loop-pair.pairs.items ≡ left ++ pair ∷ [] = c.in-Some.ensures.items in (
      ap (λ ss. carried_out table ss (wanted table c.last_step.new.pairs.items)) c.in_ok-push-2.ensures.items
          ∙ carried-push table steps c.in_ok-step.step (wanted table c.last_step.new.pairs.items) (composed table pair ∷ wanted table left) c.in_ok-step.ensures.makes
          ∙ ap (carried_out table steps) (sym (turned-push (composed table) left pair))
          ∙ ap (λ ps. carried_out table steps (wanted table ps)) (sym popped)
          ∙ c.loop-pair.invariant.0,
      c.in_ok-step.ensures.pairs,
      subst (All (IsOver table)) (sym c.in_ok-push-2.ensures.items) (All-push (IsOver table) steps c.in_ok-step.step c.loop-pair.invariant.2 c.in_ok-step.ensures.over),
    )
