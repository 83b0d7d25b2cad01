-- A member of a complete type that none before it is called, or the rule that it breaks.
use Rattle.std.specs.Prelude.{◌≡◌, true, false, List, [], ◌∷◌, ◌++◌, All, not, map, unwrap_or, Ok}
use Rattle.std.proofs.Common.{sym, ap, ap₂, ◌∙◌, subst}
use Rattle.std.proofs.lemmas.List.{map-append}
use Rattle.std.proofs.lemmas.List.Elements.{All-push}
use Rattle.dm_token.specs.declared.place.Span.{Span}
use Rattle.dm_token.specs.declared.stop.Stop.TheVariants.{Refused}
use Rattle.dm_type.specs.declared.shape.Member.{Member}
use Rattle.dm_type.specs.Tables.{type_of}
use Rattle.dm_syn.specs.Scopes.{declarator_name}
use Rattle.dm_syn.specs.Spans.{declarator_span}
use Rattle.dm_syn.specs.Views as syntax
use Rattle.dm_typing.specs.Known.{given}
use Rattle.dm_typing.specs.Conversions.{is_complete}
use Rattle.dm_typing.specs.Typing.{is_named, name_of}
use Rattle.dm_typing.specs.Views.{type_over, known_over, source_of, setting_of, refusal_at}
use Rattle.dm_edeclarator.specs.Steps.{member_over, MemberFits, fields_over}
use Rattle.dm_typing.proofs.GivesLemmas.{obeyed, disobeyed, refused, complete-later}
use Rattle.dm_typing.proofs.LaterLemmas.{type-later}
use Rattle.dm_edeclarator.proofs.DeclaratorStepLemmas.{span-declarator}
use Rattle.dm_edeclarator.proofs.NamingLemmas.{named-over}
use Rattle.dm_edeclarator.proofs.tagged.typed_field.Goals as goal

pub returns-then-not-is_complete-clause-gives : goal.returns-then-not-is_complete-clause-gives
returns-then-not-is_complete-clause-gives c = λ later begins.
    let known = c.args.known.now in
    let declarator = c.args.declarator.now in
    let here = (declarator_span (syntax.declarator declarator)).first in
    refused {A = List Member} (fields_over later) (source_of c.args.typer.now) (known_over later known) _ 5 here c.broken.result
    (disobeyed (is_complete (known_over later known) (type_over later c.args.kind)) 5 here _ (complete-later later known (type_over later c.args.kind) (type_of known.types c.args.kind) (type-later known.types.shapes later c.args.kind begins c.requires.kind) ∙ (sym c.is_complete.ensures ∙ c.if-not-is_complete.true)))
    (c.broken.ensures ∙ ap (λ (span : Span). Refused (refusal_at (source_of c.args.typer.now) 5 span.first)) (sym (span-declarator declarator)))

pub returns-then-not-added-clause-gives : goal.returns-then-not-added-clause-gives
returns-then-not-added-clause-gives c = λ later begins.
    let known = c.args.known.now in
    let declarator = c.args.declarator.now in
    let here = (declarator_span (syntax.declarator declarator)).first in
    let name = declarator_name (syntax.declarator declarator) in
    let named : name_of (setting_of c.args.typer.now) name ≡ c.in_ok-name.name = ap (name_of (setting_of c.args.typer.now)) (sym c.declarator_name-at.ensures) ∙ sym c.in_ok-name.ensures in
    let same : not (is_named (name_of (setting_of c.args.typer.now) name) (fields_over later c.args.fields)) ≡ false =
    ap (λ n. not (is_named n (fields_over later c.args.fields))) named
    ∙ (ap not (named-over later c.in_ok-name.name 0 c.args.fields) ∙ (sym c.in_ok-added.ensures.new ∙ c.if-not-added.true)) in
    refused {A = List Member} (fields_over later) (source_of c.args.typer.now) (known_over later known) _ 6 (unwrap_or name here) c.broken-then-not-added.result
    (obeyed (is_complete (known_over later known) (type_over later c.args.kind)) 5 here _ (complete-later later known (type_over later c.args.kind) (type_of known.types c.args.kind) (type-later known.types.shapes later c.args.kind begins c.requires.kind) ∙ (sym c.is_complete.ensures ∙ c.if-not-is_complete.false))
    ∙ disobeyed (not (is_named (name_of (setting_of c.args.typer.now) name) (fields_over later c.args.fields))) 6 (unwrap_or name here) _ same)
    (c.broken-then-not-added.ensures
    ∙ ap (λ at. Refused (refusal_at (source_of c.args.typer.now) 6 at))
    (c.unwrap_or.ensures ∙ ap₂ unwrap_or c.declarator_name-at.ensures (ap (λ (span : Span). span.first) (sym (span-declarator declarator)))))

pub returns-clause-gives : goal.returns-clause-gives
returns-clause-gives c = λ later begins.
    let known = c.args.known.now in
    let declarator = c.args.declarator.now in
    let here = (declarator_span (syntax.declarator declarator)).first in
    let name = declarator_name (syntax.declarator declarator) in
    let named : name_of (setting_of c.args.typer.now) name ≡ c.in_ok-name.name = ap (name_of (setting_of c.args.typer.now)) (sym c.declarator_name-at.ensures) ∙ sym c.in_ok-name.ensures in
    let other : not (is_named (name_of (setting_of c.args.typer.now) name) (fields_over later c.args.fields)) ≡ true =
    ap (λ n. not (is_named n (fields_over later c.args.fields))) named
    ∙ (ap not (named-over later c.in_ok-name.name 0 c.args.fields) ∙ (sym c.in_ok-added.ensures.new ∙ c.if-not-added.false)) in
    obeyed (is_complete (known_over later known) (type_over later c.args.kind)) 5 here _ (complete-later later known (type_over later c.args.kind) (type_of known.types c.args.kind) (type-later known.types.shapes later c.args.kind begins c.requires.kind) ∙ (sym c.is_complete.ensures ∙ c.if-not-is_complete.false))
    ∙ (obeyed (not (is_named (name_of (setting_of c.args.typer.now) name) (fields_over later c.args.fields))) 6 (unwrap_or name here) _ other
    ∙ ap (given (known_over later known)) (sym (ap (map (member_over later)) (c.in_ok-added.ensures.pushed (ap Ok c.if-not-added.false))
    ∙ (map-append (member_over later) c.args.fields (record { name = c.in_ok-name.name; kind = c.args.kind } ∷ [])
    ∙ ap (λ n. fields_over later c.args.fields ++ record { name = n; kind = type_over later c.args.kind } ∷ []) (sym named)))))

pub returns-clause-numbered : goal.returns-clause-numbered
returns-clause-numbered c =
    subst (λ made. All (MemberFits c.args.known.now.types) made) (sym (c.in_ok-added.ensures.pushed (ap Ok c.if-not-added.false)))
    (All-push (MemberFits c.args.known.now.types) c.args.fields (record { name = c.in_ok-name.name; kind = c.args.kind }) c.requires.fields c.requires.kind)
