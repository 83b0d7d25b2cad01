-- The type that a tag means is that of an enum, which is int, or none.
use Rattle.std.specs.Prelude.{◌≡◌, ℕ, IfSome, option_map, Err, refl}
use Rattle.std.proofs.Common.{ap, sym, subst, ◌∙◌}
use Rattle.dm_type.specs.Tables.{IsId}
use Rattle.dm_tree.specs.Scenes.{is_integer}
use Rattle.dm_typing.specs.Known.{given}
use Rattle.dm_typing.specs.Typing.{enum_named}
use Rattle.dm_typing.specs.Views.{known_over, source_of, type_over, Gives}
use Rattle.dm_typing.proofs.GivesLemmas.{obeyed, disobeyed, refused, given-so, grown}
use Rattle.dm_typing.proofs.LaterLemmas.{begins-on, type-later}
use Rattle.dm_enames.proofs.TagStepLemmas.{by-found, by-nothing}
use Rattle.dm_enames.proofs.tags.enum_named.Goals as goal

pub returns-then-not-is_integer-clause-gives : goal.returns-then-not-is_integer-clause-gives
returns-then-not-is_integer-clause-gives c = λ later begins found is.
    let known = known_over later c.args.known.now in
    let span = c.args.span in
    by-found (λ it. Gives {A = ℕ} (type_over later) (source_of c.args.typer.now) known (Err c.broken.result) (enum_named known span it)) found (type_over later c.in-Some.kind) (ap (option_map (type_over later)) (sym c.in-Some.is) ∙ is) (λ entry same.
    refused {A = ℕ} (type_over later) (source_of c.args.typer.now) known _ 4 span.first c.broken.result
    (disobeyed (is_integer entry.kind) 4 span.first _
    (ap is_integer (sym same ∙ type-later c.args.known.now.types.shapes later c.in-Some.kind begins (subst (λ meant. IfSome meant (IsId c.args.known.now.types)) c.in-Some.is c.requires.kind)) ∙ (sym c.is_integer.ensures ∙ c.if-not-is_integer.true)))
    c.broken.ensures)

pub returns-in_ok-int-in-Some-clause-gives : goal.returns-in_ok-int-in-Some-clause-gives
returns-in_ok-int-in-Some-clause-gives c = λ later begins found is.
    let old = c.args.known.now in
    let new = c.intern.new.self in
    let known = known_over later old in
    let span = c.args.span in
    by-found (λ it. enum_named known span it ≡ given (known_over later new) (type_over later c.in_ok-int-in-Some.int)) found (type_over later c.in-Some.kind) (ap (option_map (type_over later)) (sym c.in-Some.is) ∙ is) (λ entry same.
    obeyed (is_integer entry.kind) 4 span.first _
    (ap is_integer (sym same ∙ type-later old.types.shapes later c.in-Some.kind (begins-on old.types.shapes new.types.shapes later c.intern.ensures.grows.shapes begins) (subst (λ meant. IfSome meant (IsId old.types)) c.in-Some.is c.requires.kind))
    ∙ (sym c.is_integer.ensures ∙ c.if-not-is_integer.false))
    ∙ given-so known (known_over later new) _ _ (grown later old new c.intern.ensures.grows) (sym (c.in_ok-int-in-Some.ensures.number.1 later begins)))

pub returns-in-None-clause-gives : goal.returns-in-None-clause-gives
returns-in-None-clause-gives c = λ later begins found is.
    let known = known_over later c.args.known.now in
    let span = c.args.span in
    by-nothing (λ it. Gives {A = ℕ} (type_over later) (source_of c.args.typer.now) known (Err c.broken-in-None.result) (enum_named known span it)) found (ap (option_map (type_over later)) (sym c.in-None.is) ∙ is)
    (refused {A = ℕ} (type_over later) (source_of c.args.typer.now) known _ 1 span.first c.broken-in-None.result refl c.broken-in-None.ensures)
