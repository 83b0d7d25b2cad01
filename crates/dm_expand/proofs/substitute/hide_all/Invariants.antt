use Rattle.std.proofs.Common.{◌≡◌, ◌++◌, map, take, drop}
use Rattle.dm_expand.specs.Substitution.{hidden_besides}
use Rattle.dm_expand.proofs.substitute.hide_all.Given as goal

abbrev pub invariant-loop-item : goal.invariant-loop-item
invariant-loop-item l =
    (l.items ≡ map (hidden_besides l.fn.hiding) (take l.item-index l.fn.items) ++ drop l.item-index l.fn.items) × (l.hiding ≡ l.fn.hiding)
