-- The object is defined with a type that is complete.
use Rattle.std.specs.Prelude.{true}
use Rattle.std.proofs.Common.{sym, ap, ◌∙◌, subst}
use Rattle.dm_tree.specs.Typing.{has_linkage}
use Rattle.dm_typing.specs.Views.{type_over, source_of}
use Rattle.dm_typing.proofs.GivesLemmas.{complete-later}
use Rattle.dm_typing.proofs.LaterLemmas.{type-later}
use Rattle.dm_edecl.specs.Linkages.{known_kind}
use Rattle.dm_einitial.proofs.InitialLemmas.{initial-later}
use Rattle.dm_estanding.specs.Summaries.{MayBeAdded}
use Rattle.dm_edeclaration.specs.Steps.{IsNamed}
use Rattle.dm_edeclaration.proofs.ItemLemmas.{object-made, never-whole}
use Rattle.dm_edeclaration.proofs.initialised.object_defined.Goals as goal

pub returns-then-not-is_complete : goal.returns-then-not-is_complete
returns-then-not-is_complete c = λ entry means starts.
    let now = c.args.standing.now in
    let object = c.args.object.now in
    never-whole entry object.number object.here object.at (source_of c.args.typer.now) now now c.args.kind c.args.initial c.broken-then-not-is_complete.result
    (λ later on s stands. sym (c.may_define.ensures later on s stands) ∙ c.if-not-may_define.false)
    (λ later on. complete-later later now.known _ _ (type-later now.known.types.shapes later c.args.kind on c.requires.kind) ∙ sym c.is_complete.ensures ∙ c.if-not-is_complete.true)
    c.broken-then-not-is_complete.ensures (IsNamed entry object.number)

pub returns : goal.returns
returns c = λ entry means starts.
    let now = c.args.standing.now in
    let new = c.object_here.new.self in
    let object = c.args.object.now in
    let linked = ap has_linkage means.2 ∙ sym c.has_linkage-linked.ensures in
    object-made entry object.number object.here object.at (source_of c.args.typer.now) now new c.args.kind c.args.initial starts
    (λ later on s stands. sym (c.may_define.ensures later on s stands) ∙ c.if-not-may_define.false)
    (λ later on. complete-later later now.known _ _ (type-later now.known.types.shapes later c.args.kind on c.requires.kind) ∙ sym c.is_complete.ensures ∙ c.if-not-is_complete.false)
    (λ later on s stands added.
    let kind = type_over later c.args.kind in
    c.in_ok-object_here.ensures.known later on s stands entry linked
    (λ yes. subst (λ name. MayBeAdded (known_kind object.number kind s.known).declared s.linked name object.number kind true) means.0 (added (linked ∙ yes))))
    c.in_ok-object_here.ensures.within
    (initial-later now.known.types new.known.types c.args.initial c.in_ok-object_here.ensures.within.shapes c.requires.initial)
