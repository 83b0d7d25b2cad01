use Rattle.std.proofs.Common.{◌≡◌, ◌++◌, map, length}
use Rattle.std.specs.List.{filter_map}
use Rattle.dm_unit.specs.Conditions.{items, token_for, use_for, replaced, names_asked}
use Rattle.dm_unit.proofs.condition.replace_defined.Given as goal

abbrev pub invariant-loop-first : goal.invariant-loop-first
invariant-loop-first l =
    (l.replaced.tokens.items ++ map (token_for l.fn.table) (items 0 l.rest) ≡ replaced l.fn.table l.fn.operands)
    × (l.replaced.uses.items ++ filter_map (use_for l.fn.table) (items 0 l.rest) ≡ names_asked l.fn.table l.fn.operands)

abbrev pub decreases-loop-first : goal.decreases-loop-first
decreases-loop-first l = length l.rest
