-- With the newlines so far there are so many, and before there were fewer.
use Rattle.std.proofs.Common.{◌≡◌, ◌+◌, take}
use Rattle.dm_token.specs.Places.{newlines}
use Rattle.dm_subjects.proofs.LineLemmas.{FewBefore}
use Rattle.dm_subjects.proofs.lines.behind_newlines.Given as goal

abbrev pub invariant-loop-at : goal.invariant-loop-at
invariant-loop-at l = record {
  counted : newlines (take l.at l.bytes) + l.left ≡ l.fn.count;
  few : FewBefore l.bytes l.fn.count l.at;
}
