-- None is there.
use Rattle.dm_rules.proofs.WordLemmas.{none-there}
use Rattle.dm_rules.proofs.words.Words.new.Goals as goal

pub returns : goal.returns
returns c other = none-there c.new.result c.new.ensures other
