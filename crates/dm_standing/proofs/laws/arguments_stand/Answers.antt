use Rattle.dm_standing.proofs.OccurrenceLemmas.{arguments_there}
use Rattle.dm_standing.proofs.laws.arguments_stand.Goals as goal

pub returns : goal.returns
returns c types one it count run typed laid parts subtree occur = arguments_there one it count run subtree occur (c.occurrences_stand.ensures types one it run typed laid parts)
