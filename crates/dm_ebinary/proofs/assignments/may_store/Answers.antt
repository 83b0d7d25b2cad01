-- The object first, then the value.
use Rattle.std.specs.Prelude.{◌&&◌, []}
use Rattle.std.proofs.Common.{ap, sym, ◌∙◌}
use Rattle.dm_tree.specs.Trees.{kind_of}
use Rattle.dm_typing.specs.Rules.{is_assignable}
use Rattle.dm_typing.specs.Views.{view_over, known_over}
use Rattle.dm_typing.proofs.ValueLemmas.{kind-view}
use Rattle.dm_ebinary.proofs.assignments.may_store.Goals as goal

pub returns-then-not-modifiable : goal.returns-then-not-modifiable
returns-then-not-modifiable c = λ later begins.
    ap (λ t. t && is_assignable (known_over later c.args.known.now) (view_over later c.args.value.now) (kind_of (view_over later c.args.object.now)))
    (sym c.if-not-modifiable.true ∙ c.in_ok-modifiable.ensures later begins)

pub returns : goal.returns
returns c = λ later begins.
    c.is_assignable.ensures later begins
    ∙ ap (is_assignable (known_over later c.args.known.now) (view_over later c.args.value.now)) (sym (kind-view (record { shapes = later; structs = [] }) c.args.object.now))
    ∙ ap (λ t. t && is_assignable (known_over later c.args.known.now) (view_over later c.args.value.now) (kind_of (view_over later c.args.object.now)))
    (sym c.if-not-modifiable.false ∙ c.in_ok-modifiable.ensures later begins)
