-- The depth of braces falls. What is known so far, and the expressions of the rest, are the whole.
use Rattle.std.proofs.Common.{◌+◌, ◌*◌, map, drop}
use denote.Param.Weighed.{most}
use Rattle.dm_syn.specs.declared.declaration.Initialiser.{size-Initialiser}
use Rattle.dm_syn.specs.Views as syntax
use Rattle.dm_typing.specs.Views.{known_over, setting_of}
use Rattle.dm_edecl.specs.Initialising.{all_expressions_alone}
use Rattle.dm_einitial.specs.Steps.{dropped}
use Rattle.dm_edeclarator.proofs.ReachLemmas.{Reaches}
use Rattle.dm_einitial.proofs.lists.+alone.Given as goal

abbrev pub decreases-expressions_alone : goal.decreases-expressions_alone
decreases-expressions_alone l = 2 * size-Initialiser l.initialiser.now

abbrev pub decreases-all_expressions_alone : goal.decreases-all_expressions_alone
decreases-all_expressions_alone l = 2 * most size-Initialiser l.items.now + 1

abbrev pub invariant-all_expressions_alone-loop-item : goal.invariant-all_expressions_alone-loop-item
invariant-all_expressions_alone-loop-item l =
    Reaches l.fn.known l.known (λ later. dropped (all_expressions_alone (setting_of l.typer) (known_over later l.fn.known) (syntax.initialisers (map syntax.initialiser l.items))))
    (λ later. dropped (all_expressions_alone (setting_of l.typer) (known_over later l.known) (syntax.initialisers (map syntax.initialiser (drop l.item-index l.items)))))
