use Rattle.std.proofs.Common.{◌≡◌, ◌++◌, drop}
use Rattle.dm_expand.specs.Strings.{spelled_behind}
use Rattle.dm_expand.proofs.string.spell_behind.Given as goal

abbrev pub invariant-loop-item : goal.invariant-loop-item
invariant-loop-item l = l.to.items ++ spelled_behind (drop l.item-index l.others) ≡ l.fn.to.items ++ spelled_behind l.others
