use Rattle.dm_lex.specs.Lengths.{plain_literal_length}
use Rattle.dm_lex.proofs.scan.plain_literal_length.Goals as goal

pub returns-clause-far : goal.returns-clause-far
unfolding plain_literal_length
returns-clause-far c = c.quoted_length.ensures.far
