use Rattle.std.proofs.Common.{arith, ap, length, subst, List, ℕ, ◌<◌}
use Rattle.dm_spell.specs.Rows.{row_at}
use Rattle.dm_spell.proofs.RowLemmas.{length-rows_of, rows_of-filled}
use Rattle.dm_spell.proofs.spellings.Spellings.count.Goals as goal

pub returns-clause-count : goal.returns-clause-count
returns-clause-count g c =
    let rows = ap length c.self.view_is in
    omega (arith, length-rows_of 0 c.self.inside.text.now c.self.inside.ends.now)

pub returns-clause-filled : goal.returns-clause-filled
returns-clause-filled g c =
    let fields = c.self.inside in
    subst (λ (rows : List (List ℕ)). (k : ℕ) → k < length rows → 0 < length (row_at rows k)) c.self.view_is
    (λ k below. rows_of-filled 0 fields.text.now fields.ends.now k c.self.invariant.0 below)
