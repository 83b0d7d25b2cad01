use Rattle.dm_lexed.proofs.WordLemmas.{become-words, words-plain}
use Rattle.dm_lexed.proofs.UnitLemmas.{unit-words}
use Rattle.dm_lexed.proofs.laws.readings_have_plain_tokens.Goals as goal

pub returns : goal.returns
returns c setting unit old new reading is = words-plain reading.tokens (become-words reading.pp.tokens reading.tokens (unit-words setting unit old new reading.pp is.1) is.2.0)
