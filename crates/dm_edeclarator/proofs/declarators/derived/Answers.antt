-- One step more, from the last on.
use Rattle.std.specs.Prelude.{◌≡◌, [], ◌∷◌, ◌++◌, List}
use Rattle.std.proofs.Common.{sym, ap, ◌∙◌, subst}
use Rattle.dm_type.specs.declared.shape.Shape.{Shape}
use Rattle.dm_type.specs.CTypes.{CType}
use Rattle.dm_type.specs.Tables.{IsId}
use Rattle.dm_typing.specs.Known.{Known, Outcome, after}
use Rattle.dm_edeclarator.specs.Steps.{step_over, steps_over, StepFits, StepsFit}
use Rattle.dm_typing.specs.Typing.{derived, stepped}
use Rattle.dm_typing.specs.Views.{type_over, known_over, source_of}
use Rattle.dm_edeclarator.proofs.ReachLemmas.{begins, says, passes}
use Rattle.dm_typing.proofs.GivesLemmas.{grows-itself, grows-on}
use Rattle.dm_edeclarator.proofs.DeclaratorStepLemmas.{steps-more}
use Rattle.dm_edeclarator.proofs.FitLemmas.{all-parts, steps-later}
use Rattle.dm_edeclarator.proofs.declarators.derived.Goals as goal

pub loop-step-init : goal.loop-step-init
loop-step-init c =
    let old = c.args.known.now in
    let items : c.into_vec-steps.result.items ≡ c.args.steps = c.into_vec-steps.ensures in (
      begins old (λ later. derived (known_over later old) (type_over later c.args.base) (steps_over later c.args.steps))
          (λ later. derived (known_over later old) (type_over later c.args.base) (steps_over later c.into_vec-steps.result.items))
          (λ later. ap (λ steps. derived (known_over later old) (type_over later c.args.base) (steps_over later steps)) (sym items)),
      grows-itself old,
      c.requires.base,
      subst (StepsFit old.types) (sym items) c.requires.steps,
    )

pub stepped-requires-clause-kind : goal.stepped-requires-clause-kind
stepped-requires-clause-kind c = c.loop-step.invariant.2

pub stepped-requires-clause-step : goal.stepped-requires-clause-step
stepped-requires-clause-step c =
    let popped : c.loop-step.steps.items ≡ c.pop.new.self.items ++ c.in-Some.step ∷ [] = c.in-Some.ensures.items in
    (all-parts (StepFits c.loop-step.known.types) c.pop.new.self.items c.in-Some.step (subst (StepsFit c.loop-step.known.types) popped c.loop-step.invariant.3)).1

pub loop-step-preserved : goal.loop-step-preserved
loop-step-preserved c =
    let old = c.args.known.now in
    let now = c.loop-step.known in
    let new = c.stepped.new.known in
    let left = c.pop.new.self.items in
    let popped : c.loop-step.steps.items ≡ left ++ c.in-Some.step ∷ [] = c.in-Some.ensures.items in
    let whole : List Shape → Outcome CType = λ later. derived (known_over later old) (type_over later c.args.base) (steps_over later c.args.steps) in
    let next : List Shape → Known → CType → Outcome CType = λ later behind made. derived behind made (steps_over later left) in
    let more = c.stepped.ensures.grows in (
      passes IsId type_over (source_of c.args.typer.now) old now new whole (λ later. stepped (known_over later now) (type_over later c.loop-step.kind) (step_over later c.in-Some.step)) next c.in_ok-made.made
          (says old now whole (λ later. derived (known_over later now) (type_over later c.loop-step.kind) (steps_over later c.loop-step.steps.items))
          (λ later. after (stepped (known_over later now) (type_over later c.loop-step.kind) (step_over later c.in-Some.step)) (next later)) c.loop-step.invariant.0
          (λ later on. ap (derived (known_over later now) (type_over later c.loop-step.kind)) (ap (steps_over later) popped ∙ steps-more later left c.in-Some.step)))
          (record { shapes = more.shapes; numbered = c.in_ok-made.ensures.numbered; gives = c.in_ok-made.ensures.gives }),
      grows-on old now new c.loop-step.invariant.1 more,
      c.in_ok-made.ensures.numbered,
      steps-later now.types new.types left more.shapes (all-parts (StepFits now.types) left c.in-Some.step (subst (StepsFit now.types) popped c.loop-step.invariant.3)).0,
    )
