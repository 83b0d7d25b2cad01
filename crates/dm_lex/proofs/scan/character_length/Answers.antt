use Rattle.dm_lex.specs.Lengths.{character_length}
use Rattle.dm_lex.proofs.scan.character_length.Goals as goal

pub returns-clause-far : goal.returns-clause-far
unfolding character_length
returns-clause-far c =
    rw (c.max.ensures, c.plain_character_length-plain.ensures.far, c.wide_character_length-wide.ensures.far)
