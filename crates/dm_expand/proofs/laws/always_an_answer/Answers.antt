use Rattle.dm_expand.proofs.ProgressLemmas.{expanded-follows}
use Rattle.dm_expand.proofs.laws.always_an_answer.Goals as goal

pub returns : goal.returns
returns c = λ macros tokens progress within. expanded-follows macros tokens progress within
