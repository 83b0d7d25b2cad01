use Rattle.dm_lex.proofs.AloneLemmas.{one_token-from_class, class_of-one_token}
use Rattle.dm_lex.proofs.one_token_alone.Goals as goal

pub returns : goal.returns
returns c = λ text kind. (one_token-from_class text kind, class_of-one_token text kind)
