-- By what the declaration declares.
use Rattle.dm_syn.specs.Views as syntax
use Rattle.dm_typing.specs.Views.{source_of, setting_of}
use Rattle.dm_estanding.proofs.ProceedingLemmas.{relays}
use Rattle.dm_eunit.specs.Functions.{external_over, ExternalFits}
use Rattle.dm_eunit.proofs.ExternalLemmas.{outside-whole, outside-fails, outside-made}
use Rattle.dm_eunit.proofs.externals.declared_outside.Goals as goal

pub returns-in_err-typed : goal.returns-in_err-typed
returns-in_err-typed c =
    let setting = setting_of c.args.typer.now in
    let declaration = syntax.declaration c.args.declaration.now in
    let now = c.args.standing.now in
    let new = c.typed_declaration.new.standing in
    relays ExternalFits external_over (source_of c.args.typer.now) now new (outside-whole setting c.args.span declaration now new) c.from_residual.result c.in_err-typed.field-0.0
    c.from_residual.ensures.1 (outside-fails setting c.args.span declaration now new c.in_err-typed.field-0.0 c.in_err-typed.ensures)

pub returns : goal.returns
returns c =
    outside-made (setting_of c.args.typer.now) c.args.span (syntax.declaration c.args.declaration.now) c.args.standing.now c.typed_declaration.new.standing c.in_ok-typed.typed c.in_ok-typed.ensures
