use Rattle.std.proofs.Common.{◌≡◌, ◌∙◌, sym, take, drop, refl, ap, arith, ◌+◌, ◌-◌, ℕ, List, length}
use Rattle.dm_phase.specs.declared.Character.{Character}
use Rattle.std.specs.Prelude.{slice_range}
use Rattle.dm_lex.specs.Cuts.{bytes_of}
use Rattle.dm_lex.specs.Tokens.{start_of, end_of}
use Rattle.dm_lex.specs.Progress.{offset_of}
use Rattle.dm_lex.proofs.ProgressLemmas.{offset_inside, bytes_of-part, start_of-part, end_of-part}
use Rattle.dm_lex.proofs.lexer.make_token.Goals as goal

pub overflow_add-result : goal.overflow_add-result
overflow_add-result c =
    let k : ℕ = c.args.lexer.now.at + c.args.found.length - 1 in
    let h = offset_inside (length c.args.source.now.bytes.now) c.args.source.now.flat.now.characters k c.requires.source.in_order (omega arith) in
    omega (arith, h.1, c.requires.source.short, ap (λ (d : Character). d.at + d.width) c.character_at-last.ensures.character)

pub returns-clause-token : goal.returns-clause-token
returns-clause-token c =
    let text : List Character = c.args.source.now.flat.now.characters in
    let at : ℕ = c.args.lexer.now.at in
    let n : ℕ = c.args.found.length in
    let size : at + n - at ≡ n = omega arith in
    let spelled : slice_range (bytes_of text) at (at + n) ≡ bytes_of (take n (drop at text)) = ap (λ m. take m (drop at (bytes_of text))) size ∙ sym (bytes_of-part text at n) in
    let start : offset_of text at ≡ start_of (take n (drop at text)) = sym (start_of-part text at n (omega arith) c.requires.some) in
    let end : c.character_at-last.result.at + c.character_at-last.result.width ≡ end_of (take n (drop at text)) =
    sym (end_of-part text at n (at + n - 1) refl c.requires.some (omega arith) ∙ ap (λ (d : Character). d.at + d.width) c.character_at-last.ensures.character) in
    rw (c.in_ok-text.ensures, spelled, end, c.requires.here, start, c.is_start.ensures)

pub returns-clause-before : goal.returns-clause-before
returns-clause-before c = record {
  sound = c.character_at-last.ensures.before.sound;
  left = c.character_at-last.ensures.before.left;
  before = omega (arith, c.character_at-last.ensures.before.before, c.requires.some);
}
