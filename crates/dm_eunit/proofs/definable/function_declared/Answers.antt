-- The function may be defined, and is declared.
use Rattle.std.specs.Prelude.{refl}
use Rattle.std.proofs.Common.{sym, ap, ◌∙◌}
use Rattle.dm_token.specs.declared.place.Span.{Span}
use Rattle.dm_syn.specs.Views as syntax
use Rattle.dm_typing.specs.Views.{source_of, setting_of}
use Rattle.dm_edeclarator.proofs.DeclaratorStepLemmas.{span-declarator}
use Rattle.dm_estanding.proofs.ProceedingLemmas.{relays}
use Rattle.dm_eunit.specs.Functions.{NumberFits, number_over}
use Rattle.dm_eunit.proofs.DefinableLemmas.{function-whole, function-fails, function-made}
use Rattle.dm_eunit.proofs.definable.function_declared.Goals as goal

pub returns-in_err-seen : goal.returns-in_err-seen
returns-in_err-seen c =
    let setting = setting_of c.args.typer.now in
    let now = c.args.standing.now in
    let d = syntax.declarator c.args.declarator.now in
    let here-is = sym (ap (λ (span : Span). span.first) (span-declarator c.args.declarator.now)) in
    relays NumberFits number_over (source_of c.args.typer.now) now _
    (function-whole setting now c.args.said.now d c.args.kind c.args.declarator.now.span.first c.name_at-at.result c.in_ok-entry.entry here-is c.name_at-at.ensures c.in_ok-entry.ensures.entry)
    c.from_residual-in_err-seen.result c.in_err-seen.field-0.0 c.from_residual-in_err-seen.ensures.1
    (function-fails setting now c.args.said.now d c.args.kind c.args.declarator.now.span.first c.name_at-at.result c.in_ok-entry.entry here-is c.name_at-at.ensures c.in_ok-entry.ensures.entry
    (source_of c.args.typer.now) _ c.definable.ensures.grows c.in_err-seen.field-0.0
    (λ later on before stands lawful. c.in_err-seen.ensures.gives later on before stands lawful))

pub returns : goal.returns
returns c =
    let setting = setting_of c.args.typer.now in
    let now = c.args.standing.now in
    let d = syntax.declarator c.args.declarator.now in
    let here-is = sym (ap (λ (span : Span). span.first) (span-declarator c.args.declarator.now)) in
    function-made setting now c.args.said.now d c.args.kind c.args.declarator.now.span.first c.name_at-at.result c.in_ok-entry.entry here-is c.name_at-at.ensures c.in_ok-entry.ensures.entry
    (source_of c.args.typer.now) _ c.definable.ensures.grows c.function_here.new.self refl refl c.in_ok-seen.seen c.in_ok-number.number
    (sym c.has_linkage.ensures ∙ c.if-not-has_linkage.false)
    (λ later on before stands lawful. c.in_ok-seen.ensures.gives later on before stands lawful)
    c.in_ok-number.ensures.known c.in_ok-number.ensures.number c.in_ok-number.ensures.within
