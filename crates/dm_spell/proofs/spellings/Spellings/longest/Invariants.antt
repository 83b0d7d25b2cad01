use Rattle.std.proofs.Common.{◌-◌, length}
use Rattle.dm_spell.proofs.RowLemmas.{BestBelow}
use Rattle.dm_spell.proofs.spellings.Spellings.longest.Given as goal

abbrev pub invariant-loop-number : goal.invariant-loop-number
invariant-loop-number g l = BestBelow l.self l.rest l.number l.found l.most

abbrev pub decreases-loop-number : goal.decreases-loop-number
decreases-loop-number g l = length l.self - l.number
