-- The type of the function, behind the steps.
use Rattle.dm_syn.specs.Views as syntax
use Rattle.dm_typing.specs.Views.{type_over, known_over, source_of, setting_of}
use Rattle.dm_edeclarator.proofs.ReachLemmas.{relays}
use Rattle.dm_edecl.specs.Units.{typed_heading}
use Rattle.dm_eunit.specs.Headings.{headed_over, HeadedFits}
use Rattle.dm_eunit.specs.Parts.{headed}
use Rattle.dm_eunit.proofs.HeadingSteps.{heading-fails, kind-fails, kind-made}
use Rattle.dm_eunit.proofs.heading.typed_heading.Goals as goal

pub returns-in_err-begun : goal.returns-in_err-begun
returns-in_err-begun c =
    let setting = setting_of c.args.typer.now in
    let source = source_of c.args.typer.now in
    let one = syntax.declarator c.args.declarator.now in
    relays HeadedFits headed_over source c.args.known.now c.declarator_begun.new.known
    (λ later. headed (typed_heading setting (known_over later c.args.known.now) (type_over later c.args.base) one)) c.from_residual.result c.in_err-begun.field-0.0 c.from_residual.ensures.1
    (heading-fails source setting c.args.known.now c.declarator_begun.new.known c.args.base one c.in_err-begun.field-0.0 c.in_err-begun.ensures)

pub returns-in_err-kind : goal.returns-in_err-kind
returns-in_err-kind c =
    let setting = setting_of c.args.typer.now in
    let source = source_of c.args.typer.now in
    let one = syntax.declarator c.args.declarator.now in
    relays HeadedFits headed_over source c.args.known.now c.derived.new.known
    (λ later. headed (typed_heading setting (known_over later c.args.known.now) (type_over later c.args.base) one)) c.from_residual-in_err-kind.result c.in_err-kind.field-0.0
    c.from_residual-in_err-kind.ensures.1
    (kind-fails source setting c.args.known.now c.declarator_begun.new.known c.args.base one c.in_ok-begun.begun c.in_ok-begun.ensures c.derived.new.known c.in_err-kind.ensures.grows
    c.in_err-kind.field-0.0 c.in_err-kind.ensures.gives)

pub returns : goal.returns
returns c =
    kind-made (source_of c.args.typer.now) (setting_of c.args.typer.now) c.args.known.now c.declarator_begun.new.known c.args.base (syntax.declarator c.args.declarator.now) c.in_ok-begun.begun
    c.in_ok-begun.ensures c.derived.new.known c.in_ok-kind.ensures.grows c.in_ok-kind.kind c.in_ok-kind.ensures.numbered c.in_ok-kind.ensures.gives
