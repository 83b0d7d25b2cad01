-- An array of complete elements that isn't too large.
use Rattle.std.specs.Prelude.{ℕ, ◌<◌, ◌&&◌, Some}
use Rattle.std.proofs.Common.{sym, ap, ◌∙◌, subst}
use Rattle.dm_type.specs.CTypes.{array}
use Rattle.dm_type.specs.Tables.{type_of}
use Rattle.dm_typing.specs.Conversions.{is_complete}
use Rattle.dm_typing.specs.Typing.{length_fits}
use Rattle.dm_typing.specs.Views.{type_over, known_over, source_of}
use Rattle.dm_edeclarator.proofs.DeclaratorStepLemmas.{fits-later}
use Rattle.dm_typing.proofs.GivesLemmas.{obeyed, disobeyed, refused, given-so, grown}
use Rattle.dm_typing.proofs.LaterLemmas.{begins-on, type-later}
use Rattle.dm_edeclarator.proofs.declarators.sized_array.Goals as goal

pub returns-in-None-clause-gives : goal.returns-in-None-clause-gives
returns-in-None-clause-gives c = λ later begins.
    let old = c.args.known.now in
    let type = type_over later c.args.kind in
    refused {A = ℕ} (type_over later) (source_of c.args.typer.now) (known_over later old) _ 5 c.args.at c.broken.result
    (disobeyed (is_complete (known_over later old) type && length_fits (known_over later old) type (Some c.args.length)) 5 c.args.at _
    (fits-later later old type (type_of old.types c.args.kind) c.args.length (type-later old.types.shapes later c.args.kind begins c.requires.kind) ∙ sym c.in-None.ensures.fits))
    c.broken.ensures

pub intern-requires : goal.intern-requires
intern-requires c = (c.requires.kind, subst (λ n. 0 < n) (sym c.in-Some.ensures.same) c.requires.length)

pub returns-in_ok-made-in-Some-clause-gives : goal.returns-in_ok-made-in-Some-clause-gives
returns-in_ok-made-in-Some-clause-gives c = λ later begins.
    let old = c.args.known.now in
    let new = c.intern.new.self in
    let type = type_over later c.args.kind in
    let before = begins-on old.types.shapes new.types.shapes later c.intern.ensures.grows.shapes begins in
    obeyed (is_complete (known_over later old) type && length_fits (known_over later old) type (Some c.args.length)) 5 c.args.at _
    (fits-later later old type (type_of old.types c.args.kind) c.args.length (type-later old.types.shapes later c.args.kind before c.requires.kind) ∙ sym c.in-Some.ensures.fits)
    ∙ given-so (known_over later old) (known_over later new) _ _ (grown later old new c.intern.ensures.grows)
    (sym (c.in_ok-made-in-Some.ensures.number.1 later begins ∙ ap (λ n. array type (Some n)) c.in-Some.ensures.same))
