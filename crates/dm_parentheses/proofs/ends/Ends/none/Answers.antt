use Rattle.std.proofs.Common.{refl}
use Rattle.dm_parentheses.specs.Table.{all_ends}
use Rattle.dm_parentheses.proofs.ends.Ends.none.Goals as goal

pub invariant_of-result : goal.invariant_of-result
unfolding all_ends
invariant_of-result c = rw c.new.ensures.items refl
