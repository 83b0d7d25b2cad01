use Rattle.std.proofs.Common.{◌≡◌, ◌+◌, ◌≤◌, take}
use Rattle.dm_token.specs.Places.{newlines, since_newline}
use Rattle.dm_lex.proofs.lexer.moved.Given as goal

abbrev pub invariant-loop-at : goal.invariant-loop-at
invariant-loop-at l = record {
  line_counts : l.line ≡ 1 + newlines (take l.at l.bytes);
  column_counts : l.column ≡ 1 + since_newline (take l.at l.bytes);
  line_small : l.line ≤ 1 + l.at;
  column_small : l.column ≤ 1 + l.at;
}
