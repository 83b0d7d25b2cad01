-- A pointer first.
use Rattle.std.specs.Prelude.{◌&&◌}
use Rattle.std.proofs.Common.{ap, sym, ◌∙◌}
use Rattle.dm_typing.specs.Conversions.{is_null}
use Rattle.dm_typing.specs.Views.{view_over, known_over}
use Rattle.dm_ebinary.proofs.operations.is_beside_null.Goals as goal

pub returns-then-is_pointer : goal.returns-then-is_pointer
returns-then-is_pointer c = λ later begins.
    c.is_null.ensures later begins
    ∙ ap (λ t. t && is_null (known_over later c.args.known.now) (view_over later c.args.tree.now)) (sym c.if-is_pointer.true ∙ c.is_pointer.ensures)

pub returns-else-is_pointer : goal.returns-else-is_pointer
returns-else-is_pointer c = λ later begins.
    ap (λ t. t && is_null (known_over later c.args.known.now) (view_over later c.args.tree.now)) (sym c.if-is_pointer.false ∙ c.is_pointer.ensures)
