-- An array of complete elements.
use Rattle.std.specs.Prelude.{ℕ, true, ◌&&◌, None}
use Rattle.std.proofs.Common.{sym, ap, ◌∙◌}
use Rattle.dm_type.specs.Tables.{type_of}
use Rattle.dm_typing.specs.Conversions.{is_complete}
use Rattle.dm_typing.specs.Typing.{length_fits}
use Rattle.dm_typing.specs.Views.{type_over, known_over, source_of}
use Rattle.dm_typing.proofs.GivesLemmas.{obeyed, disobeyed, refused, given-so, grown, complete-later}
use Rattle.dm_typing.proofs.LaterLemmas.{begins-on, type-later}
use Rattle.dm_edeclarator.proofs.declarators.open_array.Goals as goal

pub returns-then-not-is_complete-clause-gives : goal.returns-then-not-is_complete-clause-gives
returns-then-not-is_complete-clause-gives c = λ later begins.
    let old = c.args.known.now in
    let type = type_over later c.args.kind in
    refused {A = ℕ} (type_over later) (source_of c.args.typer.now) (known_over later old) _ 5 c.args.at c.broken.result
    (disobeyed (is_complete (known_over later old) type && length_fits (known_over later old) type None) 5 c.args.at _
    (ap (λ b. b && true) (complete-later later old type (type_of old.types c.args.kind) (type-later old.types.shapes later c.args.kind begins c.requires) ∙ (sym c.is_complete.ensures ∙ c.if-not-is_complete.true))))
    c.broken.ensures

pub returns-clause-gives : goal.returns-clause-gives
returns-clause-gives c = λ later begins.
    let old = c.args.known.now in
    let new = c.intern.new.self in
    let type = type_over later c.args.kind in
    let before = begins-on old.types.shapes new.types.shapes later c.intern.ensures.grows.shapes begins in
    obeyed (is_complete (known_over later old) type && length_fits (known_over later old) type None) 5 c.args.at _
    (ap (λ b. b && true) (complete-later later old type (type_of old.types c.args.kind) (type-later old.types.shapes later c.args.kind before c.requires) ∙ (sym c.is_complete.ensures ∙ c.if-not-is_complete.false)))
    ∙ given-so (known_over later old) (known_over later new) _ _ (grown later old new c.intern.ensures.grows) (sym (c.in_ok-made.ensures.number.1 later begins))
