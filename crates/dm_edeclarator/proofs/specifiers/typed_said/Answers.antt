-- The type that is named, if one is.
use Rattle.std.specs.Prelude.{ℕ, IfSome, option_map}
use Rattle.std.proofs.Common.{sym, ap, ◌∙◌, subst}
use Rattle.dm_type.specs.Tables.{IsId}
use Rattle.dm_typing.specs.Specifiers.{type_said}
use Rattle.dm_edeclarator.specs.Steps.{where_of, said_over, type_allowed}
use Rattle.dm_typing.specs.Views.{type_over, known_over, source_of, Gives}
use Rattle.dm_typing.proofs.GivesLemmas.{found-it, found-none, refused, grown, grows-on}
use Rattle.dm_typing.proofs.LaterLemmas.{begins-on}
use Rattle.dm_edeclarator.proofs.specifiers.typed_said.Goals as goal

pub returns-in-None-clause-gives : goal.returns-in-None-clause-gives
returns-in-None-clause-gives c = λ later begins.
    refused {A = ℕ} (type_over later) (source_of c.args.typer.now) (known_over later c.type_said.new.known) _ 3 c.args.here c.broken.result
    (found-none (type_said (said_over later c.args.said.now)) 3 c.args.here _ (sym (c.in_ok-found.ensures.named later begins) ∙ ap (option_map (type_over later)) c.in-None.is))
    c.broken.ensures

pub type_allowed-requires : goal.type_allowed-requires
type_allowed-requires c = subst (λ found. IfSome found (IsId c.type_said.new.known.types)) c.in-Some.is c.in_ok-found.ensures.numbered

pub returns-in-Some-clause-gives : goal.returns-in-Some-clause-gives
returns-in-Some-clause-gives c = λ later begins.
    let old = c.args.known.now in
    let mid = c.type_said.new.known in
    let new = c.type_allowed.new.known in
    let said = said_over later c.args.said.now in
    let type = type_over later c.in-Some.kind in
    let before = begins-on mid.types.shapes new.types.shapes later c.type_allowed.ensures.grows.shapes begins in
    subst (λ outcome. Gives (type_over later) (source_of c.args.typer.now) (known_over later new) c.type_allowed.result outcome)
    (sym (found-it (type_said said) type 3 c.args.here (type_allowed (known_over later old) (where_of c.args.stands) c.args.here said)
    (sym (c.in_ok-found.ensures.named later before) ∙ ap (option_map (type_over later)) c.in-Some.is)
    ∙ ap (λ known. type_allowed known (where_of c.args.stands) c.args.here said type) (grown later old mid c.type_said.ensures.grows)))
    (c.type_allowed.ensures.gives later begins)

pub returns-in-Some-clause-grows : goal.returns-in-Some-clause-grows
returns-in-Some-clause-grows c = grows-on c.args.known.now c.type_said.new.known c.type_allowed.new.known c.type_said.ensures.grows c.type_allowed.ensures.grows
