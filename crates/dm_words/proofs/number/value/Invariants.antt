-- What the digits that are left make of the number so far is the value.
use Rattle.std.proofs.Common.{◌≡◌, drop}
use Rattle.dm_words.specs.Readings.{value_after}
use Rattle.dm_words.proofs.number.value.Given as goal

abbrev pub invariant-loop-digit : goal.invariant-loop-digit
invariant-loop-digit l = value_after l.value (drop l.digit-index l.text) ≡ value_after 0 l.text
