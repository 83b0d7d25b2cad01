use Rattle.std.proofs.Common.{◌≡◌, ◌∙◌, ap, subst, sym, arith, List, [], length, drop}
use Rattle.std.proofs.lemmas.List.{drop_all, length-map}
use Rattle.dm_phase.specs.declared.Character.{Character}
use Rattle.dm_lex.specs.Cuts.{CutsTo, first_state}
use Rattle.dm_phase.specs.PositionLaws.{flat_of-in_order}
use Rattle.dm_lex.proofs.ProgressLemmas.{progress_none}
use Rattle.dm_lex.proofs.tokens.Goals as goal

pub loop-lexer-init : goal.loop-lexer-init
loop-lexer-init c = record {
  progress = progress_none _ _ c.in_ok-lexer.ensures.at c.in_ok-lexer.ensures.state c.in_ok-lexer.ensures.single c.in_ok-lexer.ensures.double c.in_ok-lexer.ensures.here c.in_ok-lexer.ensures.tokens;
  before = record {
    sound = c.cursor-cursor.ensures.sound;
    left = c.cursor-cursor.ensures.whole ∙ ap (λ n. drop n c.args.flat.now.characters) (sym c.cursor-cursor.ensures.first);
    before = omega (arith, c.cursor-cursor.ensures.first);
  };
}

pub take_piece-requires-clause-source : goal.take_piece-requires-clause-source
take_piece-requires-clause-source c = record {
  text = c.bytes-text.ensures;
  in_order = flat_of-in_order c.args.file c.args.bytes.now c.args.flat.now.characters c.requires.flat;
  short = c.requires.short;
}

pub take_piece-requires-clause-more : goal.take_piece-requires-clause-more
take_piece-requires-clause-more c =
    omega (arith, c.loop-lexer-test.true, ap length c.bytes-text.ensures, length-map c.args.flat.now.characters (λ (character : Character). character.byte))

pub returns-clause-tokens : goal.returns-clause-tokens
returns-clause-tokens c =
    let has = c.loop-lexer.invariant.progress.pieces.1 in
    let text : List Character = c.args.flat.now.characters in
    let size = length-map text (λ (character : Character). character.byte) in
    let done : drop c.loop-lexer.lexer.at text ≡ [] = drop_all c.loop-lexer.lexer.at text (omega (arith, c.loop-lexer-test.false, ap length c.bytes-text.ensures, size)) in (
      c.loop-lexer.invariant.progress.pieces.0,
      subst (λ (left : List Character). CutsTo first_state c.loop-lexer.invariant.progress.pieces.0 text left) done has.cut,
      c.from_vec.ensures ∙ sym has.tokens_are,
    )
