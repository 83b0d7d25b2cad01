use Rattle.dm_expand.proofs.LawLemmas.{expanded-no_names}
use Rattle.dm_expand.proofs.laws.text_without_names_stays.Goals as goal

pub returns : goal.returns
returns c = λ macros tokens progress are. expanded-no_names macros tokens progress are
