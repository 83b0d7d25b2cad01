-- The operand may be cast.
use Rattle.std.specs.Prelude.{length, map, [], ◌&&◌}
use Rattle.std.proofs.Common.{ap, sym, ◌∙◌}
use Rattle.std.proofs.lemmas.Bool.{and_from}
use Rattle.dm_tree.specs.declared.tree.Core.{Core}
use Rattle.dm_tree.specs.TypeNumbers.{are_known, all_pass}
use Rattle.dm_typing.specs.Known.{given}
use Rattle.dm_typing.specs.Rules.{may_be_cast}
use Rattle.dm_typing.specs.Views.{view_over, known_over, source_of, type_over}
use Rattle.dm_typing.proofs.GivesLemmas.{obeyed, disobeyed, refused}
use Rattle.dm_typing.proofs.LaterLemmas.{trees-known}
use Rattle.dm_typing.proofs.ValueLemmas.{node-known}
use Rattle.dm_eunary.proofs.cast.typed_cast.Goals as goal

pub returns-then-not-may_be_cast-clause-gives : goal.returns-then-not-may_be_cast-clause-gives
returns-then-not-may_be_cast-clause-gives c = λ later begins.
    refused {A = Core} (view_over later) (source_of c.args.typer.now) (known_over later c.args.known.now) _ 18 c.args.at.inner.first c.broken.result
    (disobeyed (may_be_cast (known_over later c.args.known.now) (view_over later c.args.operand) (type_over later c.args.kind)) 18 c.args.at.inner.first _
    (sym (c.may_be_cast.ensures later begins) ∙ c.if-not-may_be_cast.true))
    c.broken.ensures

pub returns-clause-gives : goal.returns-clause-gives
returns-clause-gives c = λ later begins.
    obeyed (may_be_cast (known_over later c.args.known.now) (view_over later c.args.operand) (type_over later c.args.kind)) 18 c.args.at.inner.first _
    (sym (c.may_be_cast.ensures later begins) ∙ c.if-not-may_be_cast.false)
    ∙ ap (given (known_over later c.args.known.now)) (sym (c.in_ok-made.ensures.view (record { shapes = later; structs = [] })))

pub returns-clause-numbered : goal.returns-clause-numbered
returns-clause-numbered c =
    let n = length c.args.known.now.types.shapes in
    node-known n c.args.kind c.in_ok-made.made (are_known n c.args.operand && all_pass (map (are_known n) c.args.constants)) (c.in_ok-made.ensures.known n) c.requires.kind
    (and_from (are_known n c.args.operand) (all_pass (map (are_known n) c.args.constants)) c.requires.operand (trees-known c.args.known.now.types c.args.constants c.requires.constants))
