use Rattle.dm_parts.proofs.PartLemmas.{made-count, made-places}
use Rattle.dm_parts.proofs.laws.tokens_begin_where_they_are_counted.Goals as goal

pub returns-clause-count : goal.returns-clause-count
returns-clause-count c tokens made is = made-count tokens made is

pub returns-clause-places : goal.returns-clause-places
returns-clause-places c tokens made n token is at begins = made-places tokens made n token is at begins
