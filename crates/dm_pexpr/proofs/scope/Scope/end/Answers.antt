use Rattle.std.proofs.Common.{arith}
use Rattle.dm_pexpr.proofs.ScopeLemmas.{one-further}
use Rattle.dm_pexpr.proofs.scope.Scope.end.Goals as goal

pub loop-self-preserved : goal.loop-self-preserved
loop-self-preserved c =
    one-further c.args.self.now c.loop-self.self c.take_back.new.self c.args.kept c.in_ok-take_back.ensures (omega arith)
    c.loop-self.invariant.0 c.loop-self.invariant.1 c.loop-self.invariant.2
