-- The value of an lvalue by its type, and that of any other tree.
use Rattle.std.specs.Prelude.{length, []}
use Rattle.std.proofs.Common.{ap, sym, ◌∙◌}
use Rattle.dm_tree.specs.TypeNumbers.{are_known}
use Rattle.dm_typing.specs.Views.{view_over}
use Rattle.dm_typing.proofs.LaterLemmas.{begins-on, known-later}
use Rattle.dm_typing.proofs.ValueLemmas.{value-stays, array-value, object-value, node-known}
use Rattle.dm_typing.proofs.typer.Typer.as_value.Goals as goal

pub returns-then-not-is_lvalue-clause-value : goal.returns-then-not-is_lvalue-clause-value
returns-then-not-is_lvalue-clause-value c = λ later begins.
    sym (value-stays (view_over later c.args.core) (sym (c.is_lvalue.ensures (record { shapes = later; structs = [] })) ∙ c.if-not-is_lvalue.true))

pub returns-in_ok-made-in-Some-clause-value : goal.returns-in_ok-made-in-Some-clause-value
returns-in_ok-made-in-Some-clause-value c = λ later begins.
    c.in_ok-made-in-Some.ensures.view (record { shapes = later; structs = [] })
    ∙ array-value c.args.known.now.types later c.args.core c.in-Some.inner c.in_ok-kind-in-Some.kind
    (begins-on c.args.known.now.types.shapes c.intern.new.self.types.shapes later c.intern.ensures.grows.shapes begins) c.requires c.in-Some.ensures.numbered c.in-Some.ensures.elements
    (sym (c.is_lvalue.ensures (record { shapes = later; structs = [] })) ∙ c.if-not-is_lvalue.false)
    (c.in_ok-kind-in-Some.ensures.number.1 later begins)

pub returns-in_ok-made-in-Some-clause-numbered : goal.returns-in_ok-made-in-Some-clause-numbered
returns-in_ok-made-in-Some-clause-numbered c =
    let n = length c.intern.new.self.types.shapes in
    node-known n c.in_ok-kind-in-Some.kind c.in_ok-made-in-Some.made (are_known n c.args.core) (c.in_ok-made-in-Some.ensures.known n) c.in_ok-kind-in-Some.ensures.number.0
    (known-later c.args.known.now.types.shapes c.intern.new.self.types.shapes c.args.core c.intern.ensures.grows.shapes c.requires)

pub returns-in_ok-made-in-None-clause-value : goal.returns-in_ok-made-in-None-clause-value
returns-in_ok-made-in-None-clause-value c = λ later begins.
    c.in_ok-made-in-None.ensures.view (record { shapes = later; structs = [] })
    ∙ object-value c.args.known.now.types later c.args.core c.bare-kind.result begins c.requires c.bare-kind.ensures c.in-None.ensures.elements
    (sym (c.is_lvalue.ensures (record { shapes = later; structs = [] })) ∙ c.if-not-is_lvalue.false)

pub returns-in_ok-made-in-None-clause-numbered : goal.returns-in_ok-made-in-None-clause-numbered
returns-in_ok-made-in-None-clause-numbered c =
    let n = length c.args.known.now.types.shapes in
    node-known n c.bare-kind.result c.in_ok-made-in-None.made (are_known n c.args.core) (c.in_ok-made-in-None.ensures.known n) c.bare-kind.ensures.0 c.requires
