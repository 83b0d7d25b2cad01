use Rattle.std.proofs.Common.{◌-◌, length}
use Rattle.dm_lex.specs.Progress.{IsProgress, IsBefore}
use Rattle.dm_lex.proofs.tokens.Given as goal

abbrev pub invariant-loop-lexer : goal.invariant-loop-lexer
invariant-loop-lexer l = record {
  progress : IsProgress l.source l.lexer;
  before : IsBefore l.source.flat.now.characters l.lexer.at l.cursor;
}

abbrev pub decreases-loop-lexer : goal.decreases-loop-lexer
decreases-loop-lexer l = length l.initial.source.flat.now.characters - l.lexer.at
