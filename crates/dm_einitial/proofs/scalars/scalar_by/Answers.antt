-- The value is taken, and only types are numbered meanwhile.
use Rattle.std.proofs.Common.{ap₂, sym, subst}
use Rattle.dm_typing.specs.Views.{known_over, type_over, source_of, Gives}
use Rattle.dm_typing.proofs.GivesLemmas.{grown}
use Rattle.dm_edecl.specs.Initialising.{scalar_initialised}
use Rattle.dm_einitial.specs.Steps.{initial_over}
use Rattle.dm_einitial.proofs.scalars.scalar_by.Goals as goal

pub returns-clause-gives : goal.returns-clause-gives
returns-clause-gives c = λ later begins.
    subst (λ o. Gives (initial_over later) (source_of c.args.typer.now) (known_over later c.as_value.new.known) c.scalar_initialised.result o)
    (sym (ap₂ (λ known value. scalar_initialised known c.args.fixed (type_over later c.args.kind) c.args.here value)
    (grown later c.args.known.now c.as_value.new.known c.as_value.ensures.grows) (sym (c.in_ok-value.ensures.value later begins))))
    (c.scalar_initialised.ensures.gives later begins)
