use Rattle.std.proofs.Common.{◌≡◌, ◌+◌, drop}
use Rattle.std.specs.List.{prefix_len}
use Rattle.dm_ctok.specs.Digits.{is_digit}
use Rattle.dm_ctok.proofs.digits.digits_len.Given as goal

abbrev pub invariant-loop-at : goal.invariant-loop-at
invariant-loop-at l = prefix_len (is_digit l.base) l.bytes ≡ l.at + prefix_len (is_digit l.base) (drop l.at l.bytes)
