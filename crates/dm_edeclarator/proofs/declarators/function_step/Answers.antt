-- The result of a function.
use Rattle.std.specs.Prelude.{ℕ, map, All}
use Rattle.std.proofs.Common.{sym, ap, ◌∙◌, subst}
use Rattle.dm_type.specs.CTypes.{function, all_of}
use Rattle.dm_type.specs.Tables.{type_of, IsId}
use Rattle.dm_edeclarator.specs.Steps.{kind_in}
use Rattle.dm_typing.specs.Typing.{is_result}
use Rattle.dm_typing.specs.Views.{type_over, known_over, source_of}
use Rattle.dm_edeclarator.proofs.DeclaratorStepLemmas.{result-later, kinds-over, kinds-fit}
use Rattle.dm_typing.proofs.GivesLemmas.{obeyed, disobeyed, refused, given-so, grown}
use Rattle.dm_typing.proofs.LaterLemmas.{begins-on, type-later}
use Rattle.dm_edeclarator.proofs.declarators.function_step.Goals as goal

pub returns-then-not-is_result-clause-gives : goal.returns-then-not-is_result-clause-gives
returns-then-not-is_result-clause-gives c = λ later begins.
    let old = c.args.known.now in
    refused {A = ℕ} (type_over later) (source_of c.args.typer.now) (known_over later old) _ 5 c.args.at c.broken.result
    (disobeyed (is_result (known_over later old) (type_over later c.args.kind)) 5 c.args.at _
    (result-later later old (type_over later c.args.kind) (type_of old.types c.args.kind) (type-later old.types.shapes later c.args.kind begins c.requires.kind) ∙ (sym c.is_result.ensures ∙ c.if-not-is_result.true)))
    c.broken.ensures

pub intern-requires : goal.intern-requires
intern-requires c =
    let types = c.args.known.now.types in
    (c.requires.kind, subst (All (IsId types)) (sym (c.in_ok-kinds.ensures ∙ ap (map kind_in) c.items.ensures)) (kinds-fit types c.args.parameters c.requires.parameters))

pub returns-clause-gives : goal.returns-clause-gives
returns-clause-gives c = λ later begins.
    let old = c.args.known.now in
    let new = c.intern.new.self in
    let before = begins-on old.types.shapes new.types.shapes later c.intern.ensures.grows.shapes begins in
    obeyed (is_result (known_over later old) (type_over later c.args.kind)) 5 c.args.at _
    (result-later later old (type_over later c.args.kind) (type_of old.types c.args.kind) (type-later old.types.shapes later c.args.kind before c.requires.kind) ∙ (sym c.is_result.ensures ∙ c.if-not-is_result.false))
    ∙ given-so (known_over later old) (known_over later new) _ _ (grown later old new c.intern.ensures.grows)
    (sym (c.in_ok-made.ensures.number.1 later begins
    ∙ ap (λ kinds. function (type_over later c.args.kind) (all_of kinds)) (ap (map (type_over later)) (c.in_ok-kinds.ensures ∙ ap (map kind_in) c.items.ensures) ∙ sym (kinds-over later c.args.parameters))))
