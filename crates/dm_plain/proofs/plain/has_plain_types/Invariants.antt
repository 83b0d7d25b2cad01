-- What the whole tree names stands in a tree that waits.
use Rattle.std.proofs.Common.{◌≡◌, false}
use Rattle.dm_type.specs.Tables.{Table}
use Rattle.dm_tree.specs.Views.{entries_of, view}
use Rattle.dm_effect.specs.Scoped.{is_automatic}
use Rattle.dm_plain.specs.Walks.{names_local, waits, nodes_left}
use Rattle.dm_plain.proofs.plain.has_plain_types.Given as goal

abbrev pub invariant-loop-one : goal.invariant-loop-one
invariant-loop-one l = (types : Table) → waits (is_automatic (entries_of types l.unit.declared)) types l.waiting.items ≡ names_local (is_automatic (entries_of types l.unit.declared)) false (view types l.tree)

abbrev pub decreases-loop-one : goal.decreases-loop-one
decreases-loop-one l = nodes_left l.waiting.items
