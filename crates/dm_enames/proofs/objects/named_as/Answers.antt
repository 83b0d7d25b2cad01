-- The sort of the entity decides.
use Rattle.std.specs.Prelude.{length, [], refl, true}
use Rattle.std.proofs.Common.{ap, sym, ◌∙◌}
use Rattle.dm_int.specs.declared.Kind.TheVariants as k
use Rattle.dm_type.specs.CTypes.{integer}
use Rattle.dm_tree.specs.Trees as label
use Rattle.dm_typing.specs.Conversions.{made}
use Rattle.dm_typing.specs.Known.{given}
use Rattle.dm_typing.specs.Views.{known_over, source_of, setting_of}
use Rattle.dm_typing.proofs.GivesLemmas.{given-so, grown}
use Rattle.dm_enames.proofs.ObjectLemmas.{named-as, use-other}
use Rattle.dm_typing.proofs.ValueLemmas.{node-known}
use Rattle.dm_enames.proofs.objects.named_as.Goals as goal

pub returns-in-Object-clause-gives : goal.returns-in-Object-clause-gives
returns-in-Object-clause-gives c = λ later begins entry says.
    let setting = setting_of c.args.typer.now in
    let known = known_over later c.args.known.now in
    let name = c.args.name.now in
    let n = c.args.entity.now.number in
    let sort = says.sort ∙ c.in-Object.is in
    named-as setting c.args.used known c.args.at name entry _ n (label.object n) entry.kind sort c.requires.number refl (use-other setting name entry c.args.used _ sort refl)
    ∙ ap (λ type. given known (made (source_of c.args.typer.now) c.args.at (label.object n) type [])) says.kind
    ∙ ap (given known) (sym (c.object.ensures.view (record { shapes = later; structs = [] })))

pub returns-in-Object-clause-numbered : goal.returns-in-Object-clause-numbered
returns-in-Object-clause-numbered c =
    let n = length c.args.known.now.types.shapes in
    node-known n c.args.entity.now.kind c.object.result true (c.object.ensures.known n) c.requires.kind refl

pub returns-in_ok-kind-in-Enumerator-clause-gives : goal.returns-in_ok-kind-in-Enumerator-clause-gives
returns-in_ok-kind-in-Enumerator-clause-gives c = λ later begins entry says.
    let setting = setting_of c.args.typer.now in
    let known = known_over later c.args.known.now in
    let name = c.args.name.now in
    let n = c.args.entity.now.number in
    let sort = says.sort ∙ c.in-Enumerator.is in
    named-as setting c.args.used known c.args.at name entry _ n (label.enumerator n) (integer k.Int) sort c.requires.number refl (use-other setting name entry c.args.used _ sort refl)
    ∙ given-so known (known_over later c.intern.new.self) _ _ (grown later c.args.known.now c.intern.new.self c.intern.ensures.grows)
    (sym (c.enumerator.ensures.view (record { shapes = later; structs = [] })
    ∙ ap (λ type. made (source_of c.args.typer.now) c.args.at (label.enumerator n) type []) (c.in_ok-kind-in-Enumerator.ensures.number.1 later begins)))

pub returns-in_ok-kind-in-Enumerator-clause-numbered : goal.returns-in_ok-kind-in-Enumerator-clause-numbered
returns-in_ok-kind-in-Enumerator-clause-numbered c =
    let n = length c.intern.new.self.types.shapes in
    node-known n c.in_ok-kind-in-Enumerator.kind c.enumerator.result true (c.enumerator.ensures.known n) c.in_ok-kind-in-Enumerator.ensures.number.0 refl

pub returns-in-Function-clause-gives : goal.returns-in-Function-clause-gives
returns-in-Function-clause-gives c = λ later begins entry says. c.named_function.ensures.gives later entry says
