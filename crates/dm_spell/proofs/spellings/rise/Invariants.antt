use Rattle.std.proofs.Common.{◌≡◌, drop}
use Rattle.dm_spell.specs.Rows.{rises}
use Rattle.dm_spell.proofs.spellings.rise.Given as goal

abbrev pub invariant-loop-end : goal.invariant-loop-end
invariant-loop-end l = rises 0 l.ends l.length ≡ rises l.from (drop l.end-index l.ends) l.length
