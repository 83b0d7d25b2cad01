-- Those of a declaration.
use Rattle.std.proofs.Common.{List, map, ap, sym, ◌∙◌}
use Rattle.dm_tree.specs.declared.tree.Local.{Local}
use Rattle.dm_tree.specs.Views.{view_of_local}
use Rattle.dm_effect.specs.Questions.{as_local}
use Rattle.dm_effect.proofs.DeclaratorLemmas.{locals-are}
use Rattle.dm_stable.proofs.marks.locals_of.Goals as goal

pub returns-in-Declare : goal.returns-in-Declare
returns-in-Declare c types =
    locals-are types c.args.node.now c.in-Declare.field-0 c.in-Declare.locals c.in-Declare.is ∙ ap (λ (all : List Local). map as_local (map (view_of_local types) all)) (sym c.items.ensures)
