use Rattle.dm_expand.proofs.HiddenLemmas.{among-more}
use Rattle.dm_expand.proofs.hidden.is_among.Goals as goal

pub loop-other-preserved : goal.loop-other-preserved
loop-other-preserved c = among-more c.args.numbers.now c.args.number c.loop-other.other-index c.loop-other.found c.loop-other-test.true c.loop-other.invariant
