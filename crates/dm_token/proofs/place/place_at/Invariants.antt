-- The line and the column count the bytes so far.
use Rattle.std.proofs.Common.{◌≡◌, ◌+◌, ◌≤◌, take}
use Rattle.dm_token.specs.Places.{newlines, since_newline}
use Rattle.dm_token.proofs.place.place_at.Given as goal

abbrev pub invariant-loop-byte : goal.invariant-loop-byte
invariant-loop-byte l = record {
  line_counts : l.line ≡ 1 + newlines (take l.byte-index l.byte-items);
  column_counts : l.column ≡ 1 + since_newline (take l.byte-index l.byte-items);
  line_small : l.line ≤ 1 + l.byte-index;
  column_small : l.column ≤ 1 + l.byte-index;
}
