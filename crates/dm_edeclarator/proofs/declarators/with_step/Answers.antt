-- One step more at the end is the first of those that apply.
use Rattle.std.proofs.Common.{sym, ap, ◌∙◌, subst}
use Rattle.std.proofs.lemmas.List.Elements.{All-push}
use Rattle.dm_edeclarator.specs.Steps.{steps_over, StepFits, StepsFit}
use Rattle.dm_edeclarator.proofs.DeclaratorStepLemmas.{steps-more}
use Rattle.dm_edeclarator.proofs.declarators.with_step.Goals as goal

pub returns-clause-steps : goal.returns-clause-steps
returns-clause-steps c = λ later. ap (steps_over later) c.in_ok-push.ensures.ok ∙ steps-more later c.args.steps (record { at = c.args.at; step = c.args.step })

pub returns-clause-numbered : goal.returns-clause-numbered
returns-clause-numbered c = λ types fits all.
    subst (StepsFit types) (sym c.in_ok-push.ensures.ok) (All-push (StepFits types) c.args.steps (record { at = c.args.at; step = c.args.step }) all fits)
