use Rattle.dm_lex.specs.Lengths.{number_length}
use Rattle.dm_lex.proofs.scan.number_length.Goals as goal

pub returns-clause-far : goal.returns-clause-far
unfolding number_length
returns-clause-far c = rw (c.max.ensures, c.digits_length.ensures.far, c.fraction_length.ensures.far)
