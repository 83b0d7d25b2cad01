-- The depth of braces falls. The values so far, and those of the initialisers that are left, are all.
use Rattle.std.proofs.Common.{◌≡◌, ◌+◌, ◌*◌, ◌≤◌, ◌++◌, map, length}
use denote.Param.Weighed.{most}
use Rattle.dm_tree.specs.declared.tree.Initial.{size-Initial}
use Rattle.dm_layout.specs.Kinds.{type_of_object}
use Rattle.dm_value.specs.Views.{view_of_value}
use Rattle.dm_start.specs.Scenes.{parts_from, types_in, InitialsFit}
use Rattle.dm_start.proofs.initial.+initial.Given as goal

abbrev pub decreases-first_value : goal.decreases-first_value
decreases-first_value l = 2 * size-Initial l.initial.now

abbrev pub decreases-first_parts : goal.decreases-first_parts
decreases-first_parts l = 2 * most size-Initial l.items.now + 1

abbrev pub invariant-first_parts-loop-item : goal.invariant-first_parts-loop-item
invariant-first_parts-loop-item l =
    let kind = type_of_object (types_in l.scene) l.fn.kind in
    (most size-Initial l.left ≤ most size-Initial l.fn.items)
    × InitialsFit l.scene l.left
    × (length l.given.items + length l.left ≡ length l.fn.items)
    × (map view_of_value l.given.items ++ parts_from l.scene kind l.number l.left ≡ parts_from l.scene kind 0 l.fn.items)

abbrev pub decreases-first_parts-loop-item : goal.decreases-first_parts-loop-item
decreases-first_parts-loop-item l = length l.left
