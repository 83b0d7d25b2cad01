use Rattle.dm_unit.proofs.StepLemmas.{held-tokens}
use Rattle.dm_unit.proofs.part.tokens_of.Goals as goal

pub returns : goal.returns
returns c = held-tokens c.args.loader.now c.args.file c.tokens.result.now c.requires.held c.tokens.ensures
