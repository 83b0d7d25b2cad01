-- None of the numbers so far is it.
use Rattle.std.proofs.Common.{◌≡◌, drop}
use Rattle.dm_typing.specs.Typing.{is_among}
use Rattle.dm_enames.proofs.tags.is_among.Given as goal

abbrev pub invariant-loop-other : goal.invariant-loop-other
invariant-loop-other l = record {
  left : is_among l.number l.numbers ≡ is_among l.number (drop l.other-index l.numbers);
}
