use Rattle.std.proofs.Common.{◌≡◌, ℕ, ◌-◌, ◌<◌, length}
use Rattle.dm_spell.specs.Rows.{row_at}
use Rattle.dm_spell.proofs.spellings.Spellings.find.Given as goal

abbrev pub invariant-loop-number : goal.invariant-loop-number
invariant-loop-number g l = (k : ℕ) → k < l.number → k < length l.self → row_at l.self k ≡ l.word → ⊥

abbrev pub decreases-loop-number : goal.decreases-loop-number
decreases-loop-number g l = length l.self - l.number
