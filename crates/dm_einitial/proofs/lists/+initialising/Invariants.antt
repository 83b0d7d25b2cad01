-- The depth of braces falls. The parts so far, and what the rest of the items give, are the whole.
use Rattle.std.proofs.Common.{◌≡◌, ◌+◌, ◌*◌, map, drop, length}
use denote.Param.Weighed.{most}
use Rattle.dm_syn.specs.declared.declaration.Initialiser.{size-Initialiser}
use Rattle.dm_syn.specs.Views as syntax
use Rattle.dm_typing.specs.Views.{type_over, known_over, setting_of}
use Rattle.dm_edecl.specs.Initialising.{typed_initialisers}
use Rattle.dm_einitial.specs.Steps.{initials_over, InitialsFit}
use Rattle.dm_einitial.proofs.ListLemmas.{ahead}
use Rattle.dm_edeclarator.proofs.ReachLemmas.{Reaches}
use Rattle.dm_einitial.proofs.lists.+initialising.Given as goal

abbrev pub decreases-typed_initialiser : goal.decreases-typed_initialiser
decreases-typed_initialiser l = 4 * size-Initialiser l.initialiser.now

abbrev pub decreases-in_braces : goal.decreases-in_braces
decreases-in_braces l = 4 * most size-Initialiser l.items.now + 3

abbrev pub decreases-typed_initialisers : goal.decreases-typed_initialisers
decreases-typed_initialisers l = 4 * most size-Initialiser l.items.now + 2

abbrev pub decreases-typed_item : goal.decreases-typed_item
decreases-typed_item l = 4 * size-Initialiser l.item.now + 1

abbrev pub invariant-typed_initialisers-loop-item : goal.invariant-typed_initialisers-loop-item
invariant-typed_initialisers-loop-item l =
    Reaches l.fn.known l.known
    (λ later. typed_initialisers (setting_of l.typer) l.fixed (known_over later l.fn.known) (type_over later l.kind) l.span 0 (syntax.initialisers (map syntax.initialiser l.items)))
    (λ later. ahead (initials_over later l.parts)
    (typed_initialisers (setting_of l.typer) l.fixed (known_over later l.known) (type_over later l.kind) l.span l.item-index (syntax.initialisers (map syntax.initialiser (drop l.item-index l.items)))))
    × InitialsFit l.known.types l.parts × (length l.parts ≡ l.item-index)
