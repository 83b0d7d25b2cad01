-- A function without the parameter void.
use Rattle.std.specs.Prelude.{◌∷◌}
use Rattle.std.proofs.Common.{ap, ◌∙◌}
use Rattle.dm_edeclarator.specs.Steps.{steps_over}
use Rattle.dm_typing.specs.Typing.{calling}
use Rattle.dm_edeclarator.proofs.declarators.with_function.Goals as goal

pub returns-clause-steps : goal.returns-clause-steps
returns-clause-steps c = λ later begins.
    c.in_ok-made.ensures.steps later ∙ ap (λ ones. calling c.args.at ones ∷ steps_over later c.args.steps) (c.without_void-parameters.ensures.parameters later begins)

pub returns-clause-numbered : goal.returns-clause-numbered
returns-clause-numbered c = λ all. c.in_ok-made.ensures.numbered c.args.known.now.types c.without_void-parameters.ensures.numbered all
