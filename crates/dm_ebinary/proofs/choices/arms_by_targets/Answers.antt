-- By what both arms point to.
use Rattle.std.specs.Prelude.{if◌then◌else◌, Some, None}
use Rattle.std.proofs.Common.{ap, ap₂, ◌∙◌}
use Rattle.dm_type.specs.Tables.{type_of}
use Rattle.dm_tree.specs.Trees.{kind_of}
use Rattle.dm_typing.specs.Rules.{arms_by_targets}
use Rattle.dm_typing.specs.Views.{view_over, known_over}
use Rattle.dm_typing.proofs.LaterLemmas.{begins-on, type-later}
use Rattle.dm_ebinary.proofs.ChoiceStepLemmas.{targets-later, type-if}
use Rattle.dm_ebinary.proofs.choices.arms_by_targets.Goals as goal

pub returns-in_ok-found-in-Some-target-clause-kind : goal.returns-in_ok-found-in-Some-target-clause-kind
returns-in_ok-found-in-Some-target-clause-kind c = λ later begins.
    let held = c.args.known.now in
    let types = held.types in
    let a = c.args.a.now in
    let b = c.args.b.now in
    let before = begins-on types.shapes c.pointer_arms.new.known.types.shapes later c.pointer_arms.ensures.grows.shapes begins in
    c.in_ok-found-in-Some-target.ensures.kind later begins
    ∙ ap₂ (λ to from. arms_by_targets (known_over later held) (view_over later a) (view_over later b) (Some to) (Some from))
    (type-later types.shapes later c.in-Some.to before c.in-Some.ensures.numbered) (type-later types.shapes later c.in-Some-target.from before c.in-Some-target.ensures.numbered)
    ∙ targets-later held later a b before c.requires.left c.requires.right (Some (type_of types c.in-Some.to)) (Some (type_of types c.in-Some-target.from))
    c.in-Some.ensures.target c.in-Some-target.ensures.target

pub returns-in-None-target-clause-kind : goal.returns-in-None-target-clause-kind
returns-in-None-target-clause-kind c = λ later begins.
    let a = c.args.a.now in
    let b = c.args.b.now in
    type-if later a c.is_null.result c.type_if.result c.type_if.ensures
    ∙ ap (λ t. if t then Some (kind_of (view_over later a)) else None) (c.is_null.ensures later begins)
    ∙ targets-later c.args.known.now later a b begins c.requires.left c.requires.right _ None c.in-Some.ensures.target c.in-None-target.ensures.target

pub returns-in-Some-target-2-clause-kind : goal.returns-in-Some-target-2-clause-kind
returns-in-Some-target-2-clause-kind c = λ later begins.
    let a = c.args.a.now in
    let b = c.args.b.now in
    type-if later b c.is_null-in-Some-target-2.result c.type_if-in-Some-target-2.result c.type_if-in-Some-target-2.ensures
    ∙ ap (λ t. if t then Some (kind_of (view_over later b)) else None) (c.is_null-in-Some-target-2.ensures later begins)
    ∙ targets-later c.args.known.now later a b begins c.requires.left c.requires.right None (Some (type_of c.args.known.now.types c.in-Some-target-2._from)) c.in-None.ensures.target c.in-Some-target-2.ensures.target

pub returns-in-None-target-2-clause-kind : goal.returns-in-None-target-2-clause-kind
returns-in-None-target-2-clause-kind c = λ later begins.
    targets-later c.args.known.now later c.args.a.now c.args.b.now begins c.requires.left c.requires.right None None c.in-None.ensures.target c.in-None-target-2.ensures.target
