-- A member of what a pointer points to.
use Rattle.std.specs.Prelude.{length, []}
use Rattle.std.proofs.Common.{ap, sym, subst, ◌∙◌}
use Rattle.dm_tree.specs.Trees.{Tree, kind_of}
use Rattle.dm_tree.specs.TypeNumbers.{are_known}
use Rattle.dm_tree.specs.declared.tree.Core.{Core}
use Rattle.dm_typing.specs.Conversions.{complete_target}
use Rattle.dm_typing.specs.Known.{Outcome}
use Rattle.dm_typing.specs.Typing.{typed_member}
use Rattle.dm_typing.specs.Views.{view_over, type_over, known_over, source_of, setting_of, Gives}
use Rattle.dm_typing.proofs.GivesLemmas.{found-it, found-none, refused, target-later, target-none}
use Rattle.dm_typing.proofs.LaterLemmas.{begins-on}
use Rattle.dm_typing.proofs.ValueLemmas.{node-known}
use Rattle.dm_enames.proofs.members.typed_arrow.Goals as goal

pub typed_member-requires : goal.typed_member-requires
typed_member-requires c =
    let n = length c.args.known.now.types.shapes in
    node-known n c.in-Some.to c.in_ok-whole-in-Some.whole (are_known n c.args.pointing) (c.in_ok-whole-in-Some.ensures.known n) c.in-Some.ensures.numbered c.requires

pub returns-in-None-clause-gives : goal.returns-in-None-clause-gives
returns-in-None-clause-gives c = λ later begins.
    refused {A = Core} (view_over later) (source_of c.args.typer.now) (known_over later c.args.known.now) _ 12 c.args.at.inner.first c.broken.result
    (found-none (complete_target (known_over later c.args.known.now) (kind_of (view_over later c.args.pointing))) 12 c.args.at.inner.first _
    (target-none c.args.known.now later c.args.pointing begins c.requires c.in-None.ensures.target))
    c.broken.ensures

pub returns-in_ok-whole-in-Some-clause-gives : goal.returns-in_ok-whole-in-Some-clause-gives
returns-in_ok-whole-in-Some-clause-gives c = λ later begins.
    let old = c.args.known.now in
    let new = c.typed_member.new.known in
    let known = known_over later old in
    let tree = view_over later c.args.pointing in
    let source = source_of c.args.typer.now in
    let setting = setting_of c.args.typer.now in
    let P : Outcome Tree → Type 0 = λ outcome. Gives (view_over later) source (known_over later new) c.typed_member.result outcome in
    subst P
    (ap (typed_member setting known c.args.at c.args.name) (c.in_ok-whole-in-Some.ensures.view (record { shapes = later; structs = [] }))
    ∙ sym (found-it (complete_target known (kind_of tree)) (type_over later c.in-Some.to) 12 c.args.at.inner.first _
    (target-later old later c.args.pointing c.in-Some.to (begins-on old.types.shapes new.types.shapes later c.typed_member.ensures.grows.shapes begins) c.requires c.in-Some.ensures.target c.in-Some.ensures.numbered)))
    (c.typed_member.ensures.gives later begins)
