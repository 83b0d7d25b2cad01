-- A function may stand there, or is lacking.
use Rattle.std.specs.Prelude.{length, [], refl, true}
use Rattle.std.proofs.Common.{ap, sym, ◌∙◌}
use Rattle.dm_tree.specs.declared.tree.Core.{Core}
use Rattle.dm_tree.specs.declared.unit.Sort.TheVariants.{Function}
use Rattle.dm_tree.specs.Trees as label
use Rattle.dm_typing.specs.Conversions.{made}
use Rattle.dm_typing.specs.Known.{given}
use Rattle.dm_typing.specs.Views.{view_over, known_over, source_of, setting_of}
use Rattle.dm_typing.proofs.GivesLemmas.{refused}
use Rattle.dm_enames.proofs.ObjectLemmas.{named-as, named-lacking, use-function}
use Rattle.dm_typing.proofs.ValueLemmas.{node-known}
use Rattle.dm_enames.proofs.objects.named_function.Goals as goal

pub returns-then-not-may_use-clause-gives : goal.returns-then-not-may_use-clause-gives
returns-then-not-may_use-clause-gives c = λ later entry says.
    let setting = setting_of c.args.typer.now in
    let known = known_over later c.args.known.now in
    let name = c.args.name.now in
    let n = c.args.entity.now.number in
    let sort = says.sort ∙ c.requires.sort in
    refused {A = Core} (view_over later) (source_of c.args.typer.now) known _ 37 c.args.at.inner.first c.broken.result
    (named-lacking setting c.args.used known c.args.at name entry Function n (label.function n) entry.kind sort c.requires.number refl
    (use-function setting name entry c.args.used c.args.entity.now.linkage sort says.linkage ∙ (sym c.may_use.ensures ∙ c.if-not-may_use.true)))
    c.broken.ensures

pub returns-clause-gives : goal.returns-clause-gives
returns-clause-gives c = λ later entry says.
    let setting = setting_of c.args.typer.now in
    let known = known_over later c.args.known.now in
    let name = c.args.name.now in
    let n = c.args.entity.now.number in
    let sort = says.sort ∙ c.requires.sort in
    named-as setting c.args.used known c.args.at name entry Function n (label.function n) entry.kind sort c.requires.number refl
    (use-function setting name entry c.args.used c.args.entity.now.linkage sort says.linkage ∙ (sym c.may_use.ensures ∙ c.if-not-may_use.false))
    ∙ ap (λ type. given known (made (source_of c.args.typer.now) c.args.at (label.function n) type [])) says.kind
    ∙ ap (given known) (sym (c.function-made.ensures.view (record { shapes = later; structs = [] })))

pub returns-clause-numbered : goal.returns-clause-numbered
returns-clause-numbered c =
    let n = length c.args.known.now.types.shapes in
    node-known n c.args.entity.now.kind c.function-made.result true (c.function-made.ensures.known n) c.requires.kind refl
