-- The specifiers are typed, and what follows them.
use Rattle.std.specs.Prelude.{refl}
use Rattle.std.proofs.Common.{◌∙◌}
use Rattle.dm_syn.specs.Views as syntax
use Rattle.dm_typing.specs.Views.{source_of, setting_of}
use Rattle.dm_estanding.proofs.ProceedingLemmas.{relays}
use Rattle.dm_eunit.specs.Functions.{external_over, ExternalFits}
use Rattle.dm_eunit.proofs.FunctionLemmas.{function-whole, specifiers-fail, function-made}
use Rattle.dm_eunit.proofs.functions.typed_function.Goals as goal

pub returns-in_err-said : goal.returns-in_err-said
returns-in_err-said c =
    let setting = setting_of c.args.typer.now in
    let specifiers = syntax.specifiers c.args.specifiers.now in
    let d = syntax.declarator c.args.declarator.now in
    let body = syntax.stmt c.args.body.now in
    relays ExternalFits external_over (source_of c.args.typer.now) c.args.standing.now _ (function-whole setting c.args.span specifiers d body c.args.standing.now)
    c.from_residual.result c.in_err-said.field-0.0 c.from_residual.ensures.1
    (specifiers-fail setting c.args.span specifiers d body c.args.standing.now _ c.in_err-said.field-0.0 c.in_err-said.ensures)

pub returns : goal.returns
returns c =
    let is = c.replace_constants-constants.ensures in
    function-made (setting_of c.args.typer.now) c.args.span (syntax.specifiers c.args.specifiers.now) (syntax.declarator c.args.declarator.now) (syntax.stmt c.args.body.now) c.args.standing.now
    c.specified.new.known _ c.in_ok-said.said c.replace_constants-constants.result c.in_ok-said.ensures is.rest (is.constants ∙ c.new.ensures) is.before refl refl
    c.function_headed.new.standing c.function_headed.result c.function_headed.ensures
