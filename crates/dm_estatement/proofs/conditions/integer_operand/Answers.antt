-- By the kind of the operand, whatever numbers come.
use Rattle.std.specs.Prelude.{◌≡◌}
use Rattle.std.proofs.Common.{sym, ap, ap₂, ◌∙◌}
use Rattle.dm_tree.specs.Constants.{integer_kind}
use Rattle.dm_tree.specs.Trees.{kind_of}
use Rattle.dm_typing.specs.Views.{view_over, known_over, source_of}
use Rattle.dm_typing.proofs.GivesLemmas.{found-it, found-none, refused, grown, given-so}
use Rattle.dm_typing.proofs.LaterLemmas.{begins-on}
use Rattle.dm_typing.proofs.ValueLemmas.{kind-later}
use Rattle.dm_edecl.specs.Statements.{Subject, subject}
use Rattle.dm_estatement.specs.declared.conditions.Subject.{Subject as SubjectHeld}
use Rattle.dm_estatement.specs.Parts.{subject_over}
use Rattle.dm_estatement.proofs.conditions.integer_operand.Goals as goal

pub returns-in-None-clause-gives : goal.returns-in-None-clause-gives
returns-in-None-clause-gives c = λ later begins.
    refused {A = SubjectHeld} (subject_over later) (source_of c.args.typer.now) (known_over later c.args.known.now) _ 32 c.args.here c.broken.result
    (found-none (integer_kind (kind_of (view_over later c.args.value))) 32 c.args.here _
    (ap integer_kind (kind-later c.args.known.now.types.shapes later c.args.value begins c.requires) ∙ (sym c.integer_kind.ensures ∙ c.in-None.is)))
    c.broken.ensures

pub returns-in_ok-tree-in-Some-clause-gives : goal.returns-in_ok-tree-in-Some-clause-gives
returns-in_ok-tree-in-Some-clause-gives c = λ later begins.
    let old = c.args.known.now in
    let new = c.promoted.new.known in
    let tree = view_over later c.args.value in
    let kind = c.in-Some.kind in
    let seen : view_over later c.in_ok-tree-in-Some.tree ≡ (subject tree kind).tree = c.in_ok-tree-in-Some.ensures.value later begins in
    found-it (integer_kind (kind_of tree)) kind 32 c.args.here _
    (ap integer_kind (kind-later old.types.shapes later c.args.value (begins-on old.types.shapes new.types.shapes later c.promoted.ensures.grows.shapes begins) c.requires) ∙ (sym c.integer_kind.ensures ∙ c.in-Some.is))
    ∙ given-so {A = Subject} (known_over later old) (known_over later new) (subject tree kind) _ (grown later old new c.promoted.ensures.grows)
    (ap₂ (λ (made : _) (k : _). record { tree = made; kind = k }) (sym seen) (sym c.promote.ensures))
