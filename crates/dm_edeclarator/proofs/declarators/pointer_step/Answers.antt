-- Nothing points to a function.
use Rattle.std.specs.Prelude.{ℕ, not}
use Rattle.std.proofs.Common.{sym, ap, ◌∙◌}
use Rattle.dm_tree.specs.Scenes.{is_function}
use Rattle.dm_typing.specs.Specifiers.{with_said_const}
use Rattle.dm_typing.specs.Views.{type_over, known_over, source_of}
use Rattle.dm_typing.proofs.GivesLemmas.{obeyed, disobeyed, refused, given-so, grown}
use Rattle.dm_typing.proofs.LaterLemmas.{begins-on, type-later}
use Rattle.dm_edeclarator.proofs.declarators.pointer_step.Goals as goal

pub returns-then-is_function-clause-gives : goal.returns-then-is_function-clause-gives
returns-then-is_function-clause-gives c = λ later begins.
    let old = c.args.known.now in
    refused {A = ℕ} (type_over later) (source_of c.args.typer.now) (known_over later old) _ 5 c.args.at c.broken.result
    (disobeyed (not (is_function (type_over later c.args.kind))) 5 c.args.at _
    (ap (λ type. not (is_function type)) (type-later old.types.shapes later c.args.kind begins c.requires) ∙ ap not (sym c.is_function.ensures ∙ c.if-is_function.true)))
    c.broken.ensures

pub returns-clause-gives : goal.returns-clause-gives
returns-clause-gives c = λ later begins.
    let old = c.args.known.now in
    let mid = c.intern.new.self in
    let new = c.with_const_said.new.known in
    let second = begins-on mid.types.shapes new.types.shapes later c.with_const_said.ensures.grows.shapes begins in
    let first = begins-on old.types.shapes mid.types.shapes later c.intern.ensures.grows.shapes second in
    obeyed (not (is_function (type_over later c.args.kind))) 5 c.args.at _
    (ap (λ type. not (is_function type)) (type-later old.types.shapes later c.args.kind first c.requires) ∙ ap not (sym c.is_function.ensures ∙ c.if-is_function.false))
    ∙ given-so (known_over later old) (known_over later new) _ _ (grown later old mid c.intern.ensures.grows ∙ grown later mid new c.with_const_said.ensures.grows)
    (sym (c.in_ok-made.ensures.made later begins ∙ ap (with_said_const c.args.is_const) (c.in_ok-plain.ensures.number.1 later second)))
