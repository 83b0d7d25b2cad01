use Rattle.std.proofs.Common.{sym}
use Rattle.std.proofs.lemmas.Bool.{cond-true, cond-false, le-leb, lt-leb}
use Rattle.dm_lex.specs.Lengths.{or_longer}
use Rattle.dm_lex.proofs.scan.or_longer.Goals as goal

pub returns-then-found-length : goal.returns-then-found-length
unfolding or_longer
returns-then-found-length c = sym (cond-true _ _ _ (le-leb _ _ c.if-found-length.true))

pub returns-else-found-length : goal.returns-else-found-length
unfolding or_longer
returns-else-found-length c = sym (cond-false _ _ _ (lt-leb _ _ c.if-found-length.false))
