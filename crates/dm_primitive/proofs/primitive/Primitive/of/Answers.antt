-- The type is that of its shape.
use Rattle.std.proofs.Common.{List, ℕ, map, ap, sym, ◌∙◌}
use Rattle.dm_type.specs.CTypes.{function, all_of}
use Rattle.dm_type.specs.Tables.{as_is, type_of, types_of}
use Rattle.dm_meaning.specs.Primitives.{Prim}
use Rattle.dm_primitive.proofs.primitive.Primitive.of.Goals as goal

pub returns-clause-same : goal.returns-clause-same
returns-clause-same c = λ layout memory arguments input output.
    let table = c.args.types.now in
    ap (λ type. Prim c.args.name.now type layout memory arguments input output)
    (c.shape.ensures.exact ∙ (ap (as_is (types_of table.shapes)) c.in-Function.is
    ∙ ap (λ (parameters : List ℕ). function (type_of table c.in-Function.gives) (all_of (map (type_of table) parameters))) (sym c.items.ensures)))
    ∙ c.named.ensures.same layout memory arguments input output
