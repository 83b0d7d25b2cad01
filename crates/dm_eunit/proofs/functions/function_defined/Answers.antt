-- The function is declared, and its body typed.
use Rattle.std.specs.Prelude.{Ok, Err}
use Rattle.dm_syn.specs.Views as syntax
use Rattle.dm_typing.specs.Views.{source_of, setting_of}
use Rattle.dm_estanding.proofs.ProceedingLemmas.{relays}
use Rattle.dm_eunit.specs.Functions.{external_over, ExternalFits}
use Rattle.dm_eunit.proofs.FunctionLemmas.{defined-whole, body-named, body-fails, body-made}
use Rattle.dm_eunit.proofs.functions.function_defined.Goals as goal

pub returns-in_err-made : goal.returns-in_err-made
returns-in_err-made c =
    let setting = setting_of c.args.typer.now in
    let d = syntax.declarator c.args.declarator.now in
    let body = syntax.stmt c.args.body.now in
    let now = c.args.standing.now in
    let mid = c.function_declared.new.standing in
    let new = c.body_of.new.standing in
    relays ExternalFits external_over (source_of c.args.typer.now) now new (defined-whole setting c.args.said.now c.args.span c.args.constants d body c.args.heading now mid new)
    c.from_residual-in_err-made.result c.in_err-made.field-0.0 c.from_residual-in_err-made.ensures.1
    (body-fails setting c.args.said.now c.args.span c.args.constants d body c.args.heading now mid new c.in_ok-function.function c.in_ok-function.ensures c.in_err-made.field-0.0
    (body-named setting c.args.said.now c.args.span c.args.constants d body c.args.heading now mid new c.as_slice.result.now c.as_slice.ensures.value (Err c.in_err-made.field-0.0) c.in_err-made.ensures))

pub returns : goal.returns
returns c =
    let setting = setting_of c.args.typer.now in
    let d = syntax.declarator c.args.declarator.now in
    let body = syntax.stmt c.args.body.now in
    let now = c.args.standing.now in
    let mid = c.function_declared.new.standing in
    let new = c.body_of.new.standing in
    body-made setting c.args.said.now c.args.span c.args.constants d body c.args.heading now mid new c.in_ok-function.function c.in_ok-function.ensures c.in_ok-made.made
    (body-named setting c.args.said.now c.args.span c.args.constants d body c.args.heading now mid new c.as_slice.result.now c.as_slice.ensures.value (Ok c.in_ok-made.made) c.in_ok-made.ensures)
    c.requires.trees
