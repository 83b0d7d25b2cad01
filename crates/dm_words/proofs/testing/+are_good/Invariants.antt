-- Each turn takes a word or two.
use Rattle.std.proofs.Common.{length}
use Rattle.dm_words.proofs.testing.+are_good.Given as goal

abbrev pub decreases-are_good : goal.decreases-are_good
decreases-are_good l = length l.words.now
