use Rattle.dm_spell.proofs.RowLemmas.{rows_of-at}
use Rattle.dm_spell.proofs.spellings.row_of.Goals as goal

pub returns-clause-row : goal.returns-clause-row
returns-clause-row c =
    rw (rows_of-at 0 c.args.text.now c.args.ends.now c.args.number c.requires.number, c.place_of-from.ensures.from, c.place_of-from.ensures.to)
