use Rattle.dm_unit.proofs.SourceLemmas.{flat-stops, read-result, read-stops}
use Rattle.dm_unit.proofs.definition.read_tokens.Goals as goal

pub returns-in-Err-clause-stop : goal.returns-in-Err-clause-stop
returns-in-Err-clause-stop c = flat-stops c.args.file c.args.text.now c.in-Err.stop c.in-Err.ensures.flat

pub returns-clause-tokens : goal.returns-clause-tokens
returns-clause-tokens c = read-result c.args.file c.args.text.now c.in-Ok.flat.characters c.tokens.result c.in-Ok.ensures.flat c.tokens.ensures.tokens

pub returns-clause-stop : goal.returns-clause-stop
returns-clause-stop c = read-stops c.args.file c.args.text.now c.in-Ok.flat.characters c.tokens.result c.in-Ok.ensures.flat c.tokens.ensures.stop
