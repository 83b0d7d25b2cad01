use Rattle.std.proofs.Common.{ap, arith}
use Rattle.dm_token.specs.declared.place.Place.{Place}
use Rattle.dm_lex.proofs.PlaceLemmas.{line_small, column_small}
use Rattle.dm_lex.proofs.lexer.moved.Goals as goal

pub loop-at-init : goal.loop-at-init
loop-at-init c =
    let line = ap (λ (p : Place). p.line) c.requires.from in
    let column = ap (λ (p : Place). p.column) c.requires.from in
    record {
      line_counts = line;
      column_counts = column;
      line_small = omega (arith, line, line_small c.args.bytes.now c.args.from.byte);
      column_small = omega (arith, column, column_small c.args.bytes.now c.args.from.byte);
    }
