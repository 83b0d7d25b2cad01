-- A declaration has the declarators of its list.
use Rattle.std.proofs.Common.{List, map, ap, sym, ◌∙◌}
use Rattle.std.specs.List.{list_any}
use Rattle.dm_tree.specs.declared.tree.Local.{Local}
use Rattle.dm_tree.specs.Views.{view_of_local}
use Rattle.dm_effect.specs.Questions.{as_local}
use Rattle.dm_effect.specs.Safe.{initialises_apart}
use Rattle.dm_effect.proofs.DeclaratorLemmas.{locals-Declare}
use Rattle.dm_effect.proofs.declarators.initialises.Goals as goal

pub returns-in-Declare : goal.returns-in-Declare
returns-in-Declare c types =
    locals-Declare types (initialises_apart c.args.token c.args.object) c.args.node.now c.in-Declare.field-0 c.in-Declare.locals c.in-Declare.is
    ∙ (ap (λ (all : List Local). list_any (initialises_apart c.args.token c.args.object) (map as_local (map (view_of_local types) all))) (sym c.items.ensures) ∙ sym (c.any_initialises.ensures types))
