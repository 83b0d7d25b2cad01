use Rattle.dm_pexpr.proofs.DeclaratorNodeLemmas.{no-pointer, all-pointers, one-pointer}
use Rattle.dm_pexpr.proofs.reader.Reader.pointers.Goals as goal

pub loop-next-preserved : goal.loop-next-preserved
loop-next-preserved c =
    let more = one-pointer _ _ c.args.at c.loop-next.after c.in-Some.next c.behind_consts-after.result c.loop-next.pointers c.push.new.self _ c.in_ok-push.ensures.ok
    c.loop-next.invariant.0 c.loop-next.invariant.1 c.loop-next.invariant.2 c.in-Some.ensures c.behind_consts-after.ensures.behind in
    (more.0, more.1, more.2, λ h. c.behind_consts-after.ensures.within c.in-Some.ensures.2)

pub returns-clause-stars : goal.returns-clause-stars
returns-clause-stars c =
    all-pointers _ _ _ _ _ _ c.loop-next.invariant.0 (no-pointer _ _ _ _ c.in_default.ensures)
