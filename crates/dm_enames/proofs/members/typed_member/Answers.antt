-- A member is found by its name.
use Rattle.std.specs.Prelude.{length, [], option_map, IfSome}
use Rattle.std.proofs.Common.{ap, sym, subst, ◌∙◌}
use Rattle.dm_type.specs.Tables.{IsId}
use Rattle.dm_tree.specs.TypeNumbers.{are_known}
use Rattle.dm_tree.specs.declared.tree.Core.{Core}
use Rattle.dm_enames.specs.Meanings.{member_over}
use Rattle.dm_typing.specs.Rules.{member_by_name}
use Rattle.dm_typing.specs.Views.{view_over, known_over, source_of}
use Rattle.dm_typing.proofs.GivesLemmas.{found-it, found-none, refused, given-so, grown}
use Rattle.dm_typing.proofs.LaterLemmas.{known-later}
use Rattle.dm_typing.proofs.ValueLemmas.{node-known}
use Rattle.dm_enames.proofs.members.typed_member.Goals as goal

pub returns-in-None-clause-gives : goal.returns-in-None-clause-gives
returns-in-None-clause-gives c = λ later begins.
    let known = known_over later c.args.known.now in
    let whole = view_over later c.args.whole in
    refused {A = Core} (view_over later) (source_of c.args.typer.now) (known_over later c.member_by_name.new.known) _ 12 c.args.at.inner.first c.broken.result
    (found-none (member_by_name known _ whole) 12 c.args.at.inner.first _
    (ap (λ name. member_by_name known name whole) (sym c.in_ok-name.ensures)
    ∙ (sym (c.in_ok-found.ensures.found later begins) ∙ ap (option_map (member_over later)) c.in-None.is)))
    c.broken.ensures

pub returns-in_ok-made-in-Some-clause-gives : goal.returns-in_ok-made-in-Some-clause-gives
returns-in_ok-made-in-Some-clause-gives c = λ later begins.
    let known = known_over later c.args.known.now in
    let whole = view_over later c.args.whole in
    found-it (member_by_name known _ whole) (member_over later c.in-Some.one) 12 c.args.at.inner.first _
    (ap (λ name. member_by_name known name whole) (sym c.in_ok-name.ensures)
    ∙ (sym (c.in_ok-found.ensures.found later begins) ∙ ap (option_map (member_over later)) c.in-Some.is))
    ∙ given-so known (known_over later c.member_by_name.new.known) _ _ (grown later c.args.known.now c.member_by_name.new.known c.member_by_name.ensures.grows)
    (sym (c.in_ok-made-in-Some.ensures.view (record { shapes = later; structs = [] })))

pub returns-in_ok-made-in-Some-clause-numbered : goal.returns-in_ok-made-in-Some-clause-numbered
returns-in_ok-made-in-Some-clause-numbered c =
    let types = c.member_by_name.new.known.types in
    let n = length types.shapes in
    node-known n c.in-Some.one.1 c.in_ok-made-in-Some.made (are_known n c.args.whole) (c.in_ok-made-in-Some.ensures.known n)
    (subst (λ found. IfSome found (λ one. IsId types one.1)) c.in-Some.is c.in_ok-found.ensures.numbered)
    (known-later c.args.known.now.types.shapes types.shapes c.args.whole c.member_by_name.ensures.grows.shapes c.requires)
