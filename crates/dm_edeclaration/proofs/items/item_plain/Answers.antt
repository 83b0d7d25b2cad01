-- The entry may be declared, and is.
use Rattle.std.specs.Prelude.{false, refl}
use Rattle.std.proofs.Common.{sym, ap}
use Rattle.dm_token.specs.declared.place.Span.{Span}
use Rattle.dm_syn.specs.Views as syntax
use Rattle.dm_typing.specs.Views.{source_of, setting_of}
use Rattle.dm_typing.proofs.LaterLemmas.{begins-on}
use Rattle.dm_edecl.specs.Declaring.{item_plain}
use Rattle.dm_edeclarator.proofs.DeclaratorStepLemmas.{span-declarator}
use Rattle.dm_estanding.specs.Summaries.{entry_over}
use Rattle.dm_estanding.proofs.ProceedingLemmas.{relays}
use Rattle.dm_edeclaration.specs.Steps.{specified_over, rule_broken, bare_over, LocalFits}
use Rattle.dm_edeclaration.proofs.ItemLemmas.{permits-fails, own-entry, plain-by, plain-next, plain-made}
use Rattle.dm_edeclaration.proofs.items.item_plain.Goals as goal

pub returns-in_err-seen : goal.returns-in_err-seen
returns-in_err-seen c =
    let setting = setting_of c.args.typer.now in
    let now = c.args.standing.now in
    let d = syntax.declarator c.args.declarator.now in
    let here = c.args.declarator.now.span.first in
    let at = c.name_at-at.result in
    let entry = c.in_ok-entry.entry in
    let here-is = sym (ap (λ (span : Span). span.first) (span-declarator c.args.declarator.now)) in
    relays LocalFits bare_over (source_of c.args.typer.now) now _
    (λ later before. item_plain setting (specified_over later c.args.said.now) before d (own-entry setting now c.args.said.now d c.args.kind here at entry here-is c.name_at-at.ensures c.in_ok-entry.ensures.entry later before))
    c.from_residual-in_err-seen.result c.in_err-seen.field-0.0 c.from_residual-in_err-seen.ensures.1
    (permits-fails LocalFits bare_over (source_of c.args.typer.now) now _
    (λ later before. item_plain setting (specified_over later c.args.said.now) before d (own-entry setting now c.args.said.now d c.args.kind here at entry here-is c.name_at-at.ensures c.in_ok-entry.ensures.entry later before))
    (λ later before. rule_broken (specified_over later c.args.said.now) before false here at (entry_over later entry))
    (plain-next setting now c.args.said.now d c.args.kind here at entry here-is c.name_at-at.ensures c.in_ok-entry.ensures.entry)
    (λ later. entry_over later entry) c.in_err-seen.field-0.0 c.declarable.ensures.grows.shapes
    (λ later on before stands lawful. c.in_err-seen.ensures.gives later on before stands lawful)
    (λ later on before stands. plain-by setting now c.args.said.now d c.args.kind here at entry here-is c.name_at-at.ensures c.in_ok-entry.ensures.entry later
    (begins-on now.known.types.shapes c.declarable.new.known.types.shapes later c.declarable.ensures.grows.shapes on) before stands))

pub returns : goal.returns
returns c =
    let setting = setting_of c.args.typer.now in
    let now = c.args.standing.now in
    let d = syntax.declarator c.args.declarator.now in
    let here-is = sym (ap (λ (span : Span). span.first) (span-declarator c.args.declarator.now)) in
    plain-made setting now c.args.said.now d c.args.kind c.args.declarator.now.span.first c.name_at-at.result c.in_ok-entry.entry here-is c.name_at-at.ensures c.in_ok-entry.ensures.entry
    _ c.declared_here.new.self c.declarable.ensures.grows refl refl c.in_ok-seen.seen c.in_ok-number.number
    c.in_ok-number.ensures.known c.in_ok-number.ensures.number c.in_ok-number.ensures.within
    (source_of c.args.typer.now) c.defines_object-defines.result c.defines_object-defines.ensures
    (λ later on before stands lawful. c.in_ok-seen.ensures.gives later on before stands lawful)
