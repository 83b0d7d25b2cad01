-- The words are the same parts.
use Rattle.dm_words.proofs.RequestLemmas.{asks_once}
use Rattle.dm_words.proofs.laws.one_request.Goals as goal

pub returns : goal.returns
returns c = asks_once
