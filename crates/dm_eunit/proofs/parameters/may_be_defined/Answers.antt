-- A parameter with a complete type and a name, or none.
use Rattle.std.specs.Prelude.{not}
use Rattle.std.proofs.Common.{sym, ap, ◌∙◌}
use Rattle.dm_token.specs.declared.stop.Stop.TheVariants.{Refused}
use Rattle.dm_typing.specs.Views.{known_over, source_of, refusal_at}
use Rattle.dm_typing.proofs.GivesLemmas.{refused}
use Rattle.dm_edeclarator.specs.Steps.{parameter_over, parameter_at}
use Rattle.dm_syn.specs.Views as syntax
use Rattle.dm_eunit.proofs.ParameterLemmas.{incomplete, nameless, defined-so}
use Rattle.dm_eunit.proofs.parameters.may_be_defined.Goals as goal

pub returns-then-not-is_complete-clause-gives : goal.returns-then-not-is_complete-clause-gives
returns-then-not-is_complete-clause-gives c = λ later on.
    refused (parameter_over later) (source_of c.args.typer.now) (known_over later c.args.known.now) _ 5 (parameter_at (syntax.parameter c.args.parameter.now)) c.broken.result
    (incomplete c.args.known.now later c.args.alone c.args.parameter.now c.args.one on c.requires (sym c.if-is_none.false ∙ c.is_none.ensures later on) (sym c.is_complete.ensures ∙ c.if-not-is_complete.true))
    (c.broken.ensures ∙ ap (λ at. Refused (refusal_at (source_of c.args.typer.now) 5 at)) c.parameter_at.ensures)

pub returns-then-is_none-2-clause-gives : goal.returns-then-is_none-2-clause-gives
returns-then-is_none-2-clause-gives c = λ later on.
    refused (parameter_over later) (source_of c.args.typer.now) (known_over later c.args.known.now) _ 35 c.args.parameter.now.span.first c.broken-then-is_none-2.result
    (nameless c.args.known.now later c.args.alone c.args.parameter.now c.args.one on c.requires (sym c.if-is_none.false ∙ c.is_none.ensures later on) (sym c.is_complete.ensures ∙ c.if-not-is_complete.false)
    (c.is_none-2.ensures ∙ ap not c.if-is_none-2.true))
    c.broken-then-is_none-2.ensures

pub returns-clause-gives : goal.returns-clause-gives
returns-clause-gives c = λ later on.
    defined-so c.args.known.now later c.args.alone c.args.parameter.now c.args.one on c.requires (sym c.if-is_none.false ∙ c.is_none.ensures later on) (sym c.is_complete.ensures ∙ c.if-not-is_complete.false)
    (c.is_none-2.ensures ∙ ap not c.if-is_none-2.false)
