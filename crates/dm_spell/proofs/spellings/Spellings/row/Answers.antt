use Rattle.std.proofs.Common.{arith, ap, length}
use Rattle.dm_spell.proofs.RowLemmas.{length-rows_of}
use Rattle.dm_spell.proofs.spellings.Spellings.row.Goals as goal

pub row_of-requires-clause-number : goal.row_of-requires-clause-number
row_of-requires-clause-number g c =
    let rows = ap length c.self.view_is in
    omega (arith, length-rows_of 0 c.self.inside.text.now c.self.inside.ends.now)
