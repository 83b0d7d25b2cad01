use Rattle.dm_lex.specs.Lengths.{header_length}
use Rattle.dm_lex.proofs.scan.header_length.Goals as goal

pub returns-clause-far : goal.returns-clause-far
unfolding header_length
returns-clause-far c = rw (c.max.ensures, c.name_length.ensures.far, c.name_length-2.ensures.far)
