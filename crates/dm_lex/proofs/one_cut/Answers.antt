use Rattle.dm_lex.specs.Cuts.{first_state}
use Rattle.dm_lex.proofs.UniqueLemmas.{one_cut, open_no_cut, open_same}
use Rattle.dm_lex.proofs.ExistLemmas.{cut_exists}
use Rattle.dm_lex.proofs.one_cut.Goals as goal

pub returns-clause-unique : goal.returns-clause-unique
returns-clause-unique c = λ pieces others text cut cut'. one_cut first_state pieces others text cut cut'

pub returns-clause-some : goal.returns-clause-some
returns-clause-some c = λ text. cut_exists first_state text

pub returns-clause-none : goal.returns-clause-none
returns-clause-none c = λ pieces others text left open' cut. open_no_cut first_state pieces others text left open'.0 open'.1 cut

pub returns-clause-open_once : goal.returns-clause-open_once
returns-clause-open_once c = λ pieces others text left rest open' open''. open_same first_state pieces others text left rest open'.0 open'.1 open''.0 open''.1
