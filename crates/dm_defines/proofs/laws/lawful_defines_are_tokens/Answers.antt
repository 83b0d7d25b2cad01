use Rattle.dm_defines.proofs.DefineLemmas.{all-texts}
use Rattle.dm_defines.proofs.laws.lawful_defines_are_tokens.Goals as goal

pub returns : goal.returns
returns c unit lawful = all-texts unit.define lawful.define
