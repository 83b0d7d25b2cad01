use Rattle.dm_standing.proofs.OccurrenceLemmas.{all_stand}
use Rattle.dm_standing.proofs.laws.occurrences_stand.Goals as goal

pub returns : goal.returns
returns c types one it run typed laid parts = all_stand one it run (c.places_are_nested.ensures.nested types one typed laid) (c.places_are_nested.ensures.expressions types one typed laid) parts
