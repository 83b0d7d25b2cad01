-- An object that may be written, and a value that is assignable to it.
use Rattle.std.specs.Prelude.{length, [], ◌∷◌, ◌&&◌}
use Rattle.std.proofs.Common.{ap, ap₂, sym, ◌∙◌}
use Rattle.std.proofs.lemmas.Bool.{and_from}
use Rattle.dm_type.specs.CTypes.{bare}
use Rattle.dm_tree.specs.declared.tree.Core.{Core, out-Core}
use Rattle.dm_tree.specs.Trees.{kind_of}
use Rattle.dm_tree.specs.Trees as label
use Rattle.dm_tree.specs.TypeNumbers.{are_known}
use Rattle.dm_typing.specs.Known.{given}
use Rattle.dm_typing.specs.Conversions.{made, as_type}
use Rattle.dm_typing.specs.Rules.{is_modifiable, is_assignable}
use Rattle.dm_typing.specs.Views.{view_over, known_over, source_of}
use Rattle.dm_typing.proofs.GivesLemmas.{obeyed, disobeyed, refused}
use Rattle.dm_typing.proofs.ValueLemmas.{kind-view, kind-known, node-known, bare-later}
use Rattle.dm_ebinary.proofs.assignments.typed_store.Goals as goal

pub returns-then-not-fits-clause-gives : goal.returns-then-not-fits-clause-gives
returns-then-not-fits-clause-gives c = λ later begins.
    let known = known_over later c.args.known.now in
    let object = view_over later c.args.object in
    let value = view_over later c.args.value in
    refused {A = Core} (view_over later) (source_of c.args.typer.now) known _ 28 c.args.at.inner.first c.broken.result
    (disobeyed (is_modifiable known object && is_assignable known value (kind_of object)) 28 c.args.at.inner.first _ (sym (c.in_ok-fits.ensures later begins) ∙ c.if-not-fits.true))
    c.broken.ensures

pub returns-clause-gives : goal.returns-clause-gives
returns-clause-gives c = λ later begins.
    let known = known_over later c.args.known.now in
    let object = view_over later c.args.object in
    let value = view_over later c.args.value in
    let kind = kind-view (record { shapes = later; structs = [] }) c.args.object in
    obeyed (is_modifiable known object && is_assignable known value (kind_of object)) 28 c.args.at.inner.first _ (sym (c.in_ok-fits.ensures later begins) ∙ c.if-not-fits.false)
    ∙ ap (given known)
    (ap₂ (λ type it. made (source_of c.args.typer.now) c.args.at label.store type (object ∷ it ∷ []))
    (ap bare kind ∙ sym (bare-later c.args.known.now.types later (out-Core c.args.object).kind c.bare-kind.result begins
    (kind-known (length c.args.known.now.types.shapes) c.args.object c.requires.object) c.bare-kind.ensures))
    (ap (λ type. as_type type value) kind ∙ sym (c.in_ok-value.ensures.value later begins))
    ∙ sym (c.in_ok-made.ensures.view (record { shapes = later; structs = [] })))

pub returns-clause-numbered : goal.returns-clause-numbered
returns-clause-numbered c =
    let n = length c.args.known.now.types.shapes in
    node-known n c.bare-kind.result c.in_ok-made.made (are_known n c.args.object && are_known n c.in_ok-value.value) (c.in_ok-made.ensures.known n) c.bare-kind.ensures.0
    (and_from (are_known n c.args.object) (are_known n c.in_ok-value.value) c.requires.object c.in_ok-value.ensures.numbered)
