-- The new numbers of old declarations, as the code has them.
--     moved_past block d      the number of an old declaration where a block of numbers is put in
use Rattle.std.specs.Prelude.{ℕ, ◌+◌, nat_lt, Option, Some, None, if◌then◌else◌}
use Rattle.dm_agree.specs.declared.moves.Block.{Block}

abbrev pub moved_past : Option Block → ℕ → ℕ
moved_past None d = d
moved_past (Some block) d = if nat_lt d block.first then d else d + block.count
