use Rattle.std.proofs.Common.{◌≡◌, ◌≤◌, drop}
use Rattle.dm_ctok.specs.Digits.{value_of}
use Rattle.dm_ctok.proofs.DigitLemmas.{from}
use Rattle.dm_ctok.proofs.digits.value_of.Given as goal

abbrev pub invariant-loop-digit : goal.invariant-loop-digit
invariant-loop-digit l = record {
  whole : from l.base l.value (drop l.digit-index l.digits) ≡ value_of l.base l.digits;
  small : l.value ≤ l.most;
}
