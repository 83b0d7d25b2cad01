-- An object that may be written, and a right operand.
use Rattle.std.specs.Prelude.{option_map, IfSome}
use Rattle.std.proofs.Common.{ap, sym, ◌∙◌, subst}
use Rattle.dm_tree.specs.declared.tree.Core.{Core}
use Rattle.dm_typing.specs.Rules.{updated}
use Rattle.dm_typing.specs.Views.{view_over, known_over, source_of}
use Rattle.dm_ebinary.specs.Stores.{updated_over, IsUpdated}
use Rattle.dm_typing.proofs.GivesLemmas.{found-it, found-none, refused, given-so, grown}
use Rattle.dm_typing.proofs.LaterLemmas.{known-later}
use Rattle.dm_ebinary.proofs.assignments.updated.Goals as goal

pub changed-requires-clause-object : goal.changed-requires-clause-object
changed-requires-clause-object c = known-later c.args.known.now.types.shapes c.operand_of.new.known.types.shapes c.args.object c.operand_of.ensures.grows.shapes c.requires.object

pub changed-requires-clause-value : goal.changed-requires-clause-value
changed-requires-clause-value c = known-later c.args.known.now.types.shapes c.operand_of.new.known.types.shapes c.args.value c.operand_of.ensures.grows.shapes c.requires.value

pub changed-requires-clause-operand : goal.changed-requires-clause-operand
changed-requires-clause-operand c = subst (λ found. IfSome found (IsUpdated c.operand_of.new.known.types)) c.in-Some.is c.in_ok-found.ensures.numbered

pub returns-in-None-clause-gives : goal.returns-in-None-clause-gives
returns-in-None-clause-gives c = λ later begins.
    let object = view_over later c.args.object in
    let value = view_over later c.args.value in
    refused {A = Core} (view_over later) (source_of c.args.typer.now) (known_over later c.operand_of.new.known) _ 29 c.args.at.inner.first c.broken.result
    (found-none (updated (known_over later c.args.known.now) c.args.op object value) 29 c.args.at.inner.first _
    (sym (ap (option_map (updated_over later value)) (sym c.in-None.is) ∙ c.in_ok-found.ensures.operand later begins)))
    c.broken.ensures

pub returns-in_ok-made-in-Some-clause-gives : goal.returns-in_ok-made-in-Some-clause-gives
returns-in_ok-made-in-Some-clause-gives c = λ later begins.
    let object = view_over later c.args.object in
    let value = view_over later c.args.value in
    found-it (updated (known_over later c.args.known.now) c.args.op object value) (updated_over later value c.in-Some.right) 29 c.args.at.inner.first _
    (sym (ap (option_map (updated_over later value)) (sym c.in-Some.is) ∙ c.in_ok-found.ensures.operand later begins))
    ∙ given-so (known_over later c.args.known.now) (known_over later c.operand_of.new.known) _ _ (grown later c.args.known.now c.operand_of.new.known c.operand_of.ensures.grows)
    (sym (c.in_ok-made-in-Some.ensures.view later begins))
