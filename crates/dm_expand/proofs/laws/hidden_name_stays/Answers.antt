use Rattle.dm_expand.proofs.ProgressLemmas.{expanded-put}
use Rattle.dm_expand.proofs.LawLemmas.{head_of-hidden}
use Rattle.dm_expand.proofs.laws.hidden_name_stays.Goals as goal

pub returns : goal.returns
returns c = λ macros macro item rest progress is hides. expanded-put macros item item rest progress (head_of-hidden macros macro item rest progress is hides)
