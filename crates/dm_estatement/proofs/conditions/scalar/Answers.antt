-- By whether it is a scalar, whatever numbers come.
use Rattle.std.proofs.Common.{sym, ap, ◌∙◌}
use Rattle.dm_tree.specs.declared.tree.Core.{Core}
use Rattle.dm_tree.specs.Scenes.{is_scalar}
use Rattle.dm_tree.specs.Trees.{kind_of}
use Rattle.dm_typing.specs.Views.{view_over, known_over, source_of}
use Rattle.dm_typing.proofs.GivesLemmas.{obeyed, disobeyed, refused}
use Rattle.dm_typing.proofs.ValueLemmas.{kind-later}
use Rattle.dm_estatement.proofs.conditions.scalar.Goals as goal

pub returns-then-not-is_scalar-clause-gives : goal.returns-then-not-is_scalar-clause-gives
returns-then-not-is_scalar-clause-gives c = λ later begins.
    refused {A = Core} (view_over later) (source_of c.args.typer.now) (known_over later c.args.known.now) _ 32 c.args.here c.broken.result
    (disobeyed (is_scalar (kind_of (view_over later c.args.value))) 32 c.args.here _
    (ap is_scalar (kind-later c.args.known.now.types.shapes later c.args.value begins c.requires) ∙ (sym c.is_scalar.ensures ∙ c.if-not-is_scalar.true)))
    c.broken.ensures

pub returns-clause-gives : goal.returns-clause-gives
returns-clause-gives c = λ later begins.
    obeyed (is_scalar (kind_of (view_over later c.args.value))) 32 c.args.here _
    (ap is_scalar (kind-later c.args.known.now.types.shapes later c.args.value begins c.requires) ∙ (sym c.is_scalar.ensures ∙ c.if-not-is_scalar.false))
