-- A step by what it makes.
use Rattle.std.proofs.Common.{sym, subst}
use Rattle.dm_edeclarator.specs.Steps.{step_at}
use Rattle.dm_typing.specs.Typing.{stepped}
use Rattle.dm_typing.specs.Views.{type_over, known_over, source_of, Gives}
use Rattle.dm_edeclarator.proofs.declarators.stepped.Goals as goal

pub returns-in-Pointing-clause-gives : goal.returns-in-Pointing-clause-gives
returns-in-Pointing-clause-gives c = λ later begins.
    subst (λ one. Gives (type_over later) (source_of c.args.typer.now) (known_over later c.pointer_step.new.known) c.pointer_step.result (stepped (known_over later c.args.known.now) (type_over later c.args.kind) (step_at later c.args.placed.at one)))
    (sym c.in-Pointing.is) (c.pointer_step.ensures.gives later begins)

pub returns-in-Arraying-clause-gives : goal.returns-in-Arraying-clause-gives
returns-in-Arraying-clause-gives c = λ later begins.
    subst (λ one. Gives (type_over later) (source_of c.args.typer.now) (known_over later c.array_step.new.known) c.array_step.result (stepped (known_over later c.args.known.now) (type_over later c.args.kind) (step_at later c.args.placed.at one)))
    (sym c.in-Arraying.is) (c.array_step.ensures.gives later begins)

pub returns-in-Calling-clause-gives : goal.returns-in-Calling-clause-gives
returns-in-Calling-clause-gives c = λ later begins.
    subst (λ one. Gives (type_over later) (source_of c.args.typer.now) (known_over later c.function_step.new.known) c.function_step.result (stepped (known_over later c.args.known.now) (type_over later c.args.kind) (step_at later c.args.placed.at one)))
    (sym c.in-Calling.is) (c.function_step.ensures.gives later begins)
