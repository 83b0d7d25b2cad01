use Rattle.dm_kept.proofs.CurrentLemmas.{project-same}
use Rattle.dm_kept.proofs.laws.all_readings_again_are_the_same.Goals as goal

pub returns : goal.returns
returns c files units known new readings others begun of are is = project-same files (c.readings_learn_nothing.ensures.again files) units known new readings others begun is of are
