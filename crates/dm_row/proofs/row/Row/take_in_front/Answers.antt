use Rattle.dm_row.proofs.SideLemmas.{popped-left, sides-left_popped}
use Rattle.dm_row.proofs.row.Row.take_in_front.Goals as goal

pub invariant_of-self-2 : goal.invariant_of-self-2
invariant_of-self-2 g c = popped-left c.self.inside.left.items c.self.inside.passed c.self.inside.right.items c.self.inside.ahead c.self.invariant _ _ c.in-Some.ensures.items

pub returns : goal.returns
returns g c = sides-left_popped c.self.inside.left.items c.self.inside.right.items c.args.self.now c.self.view_is _ _ c.in-Some.ensures.items
