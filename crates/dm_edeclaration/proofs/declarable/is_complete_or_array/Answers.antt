-- The type is complete, or that of an array that is initialised.
use Rattle.std.specs.Prelude.{◌&&◌, ◌||◌}
use Rattle.std.proofs.Common.{sym, ap, ◌∙◌}
use Rattle.dm_tree.specs.Scenes.{is_array}
use Rattle.dm_typing.specs.Views.{type_over}
use Rattle.dm_typing.proofs.GivesLemmas.{complete-later}
use Rattle.dm_typing.proofs.LaterLemmas.{type-later}
use Rattle.dm_edeclaration.proofs.declarable.is_complete_or_array.Goals as goal

pub returns-then-is_complete : goal.returns-then-is_complete
returns-then-is_complete c = λ later on.
    let known = c.args.known.now in
    let type = type-later known.types.shapes later c.args.kind on c.requires in
    sym (ap (λ test. test || c.args.initialised && is_array (type_over later c.args.kind)) (complete-later later known _ _ type ∙ sym c.is_complete.ensures ∙ c.if-is_complete.true))

pub returns-then-initialised : goal.returns-then-initialised
returns-then-initialised c = λ later on.
    let known = c.args.known.now in
    let type = type-later known.types.shapes later c.args.kind on c.requires in
    c.is_array.ensures ∙ ap is_array (sym type)
    ∙ sym (ap (λ test. test || c.args.initialised && is_array (type_over later c.args.kind)) (complete-later later known _ _ type ∙ sym c.is_complete.ensures ∙ c.if-is_complete.false)
    ∙ ap (λ test. test && is_array (type_over later c.args.kind)) c.if-initialised.true)

pub returns-else-initialised : goal.returns-else-initialised
returns-else-initialised c = λ later on.
    let known = c.args.known.now in
    let type = type-later known.types.shapes later c.args.kind on c.requires in
    c.if-initialised.false
    ∙ sym (ap (λ test. test || c.args.initialised && is_array (type_over later c.args.kind)) (complete-later later known _ _ type ∙ sym c.is_complete.ensures ∙ c.if-is_complete.false)
    ∙ ap (λ test. test && is_array (type_over later c.args.kind)) c.if-initialised.false)
