-- The texts so far are copied.
use Rattle.std.proofs.Common.{◌≡◌, take}
use Rattle.dm_planning.proofs.planning.copies.Given as goal

abbrev pub invariant-loop-text : goal.invariant-loop-text
invariant-loop-text l = l.copied ≡ take l.text-index l.texts
