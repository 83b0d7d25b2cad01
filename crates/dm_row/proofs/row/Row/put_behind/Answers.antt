use Rattle.std.proofs.Common.{arith}
use Rattle.dm_row.proofs.SideLemmas.{few_ahead-results, few_ahead-ready, pushed-right, sides-right}
use Rattle.dm_row.proofs.row.Row.put_behind.Goals as goal

pub with-next-requires-clause-results : goal.with-next-requires-clause-results
with-next-requires-clause-results g c = let h = few_ahead-results _ _ _ _ c.self.invariant in omega (arith, h)

pub with-next-requires-clause-ready : goal.with-next-requires-clause-ready
with-next-requires-clause-ready g c = let h = few_ahead-ready _ _ _ _ c.self.invariant in omega (arith, h)

pub invariant_of-self-2 : goal.invariant_of-self-2
invariant_of-self-2 g c =
    let room = c.if-len-ge-MOST.false in let counted = c.len.ensures in let whole = c.self.inside.right.ok.0 in
    pushed-right c.self.inside.left.items c.self.inside.passed c.self.inside.right.items c.self.inside.ahead c.self.invariant c.args.item c.push.new.self.items c.with-next.result (omega (arith, room, counted, whole)) c.in_ok-push.ensures.items c.with-next.ensures

pub returns : goal.returns
returns g c = sides-right c.self.inside.left.items c.self.inside.right.items c.args.self.now c.self.view_is _ _ c.in_ok-push.ensures.items
