use Rattle.dm_lex.specs.Lengths.{literal_length}
use Rattle.dm_lex.proofs.scan.literal_length.Goals as goal

pub returns-clause-far : goal.returns-clause-far
unfolding literal_length
returns-clause-far c =
    rw (c.max-2.ensures, c.max.ensures, c.plain_literal_length-plain.ensures.far, c.wide_literal_length-wide.ensures.far, c.utf8_literal_length-utf8.ensures.far)
