-- The kind after the promotions.
use Rattle.std.proofs.Common.{ap, ◌∙◌}
use Rattle.dm_typing.specs.Conversions.{as_kind}
use Rattle.dm_typing.specs.Views.{view_over}
use Rattle.dm_typing.proofs.typer.Typer.promoted.Goals as goal

pub returns-clause-value : goal.returns-clause-value
returns-clause-value c = λ later begins. c.in_ok-made.ensures.value later begins ∙ ap (λ kind. as_kind kind (view_over later c.args.core)) c.promote.ensures
