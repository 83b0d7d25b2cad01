-- The cursor goes on to the character.
use Rattle.std.proofs.Common.{◌≡◌, ◌∙◌, ◌+◌, ◌-◌, ap, sym, arith, length, length-drop, drop, get_or, get_or-drop, add-zero, ℕ, List}
use Rattle.std.proofs.lemmas.List.{drop-drop, get_or_default}
use Rattle.dm_phase.specs.declared.Character.{Character}
use Rattle.dm_phase.specs.declared.cursor.Cursor.{Cursor}
use Rattle.dm_phase.specs.Walking.{ahead}
use Rattle.dm_lex.specs.Progress.{IsBefore, no_character}
use Rattle.dm_lex.proofs.lexer.character_at.Goals as goal

-- what is left from the character on
left_at : (text : List Character) (at : ℕ) (old new : Cursor) → IsBefore text at old → ahead new ≡ drop (at - old.index) (ahead old) → ahead new ≡ drop at text
left_at text at old new is further =
    let total : old.index + (at - old.index) ≡ at = omega (arith, is.before) in
    further ∙ ap (drop (at - old.index)) is.left ∙ drop-drop (at - old.index) old.index text ∙ ap (λ n. drop n text) total

pub advance-requires-clause-inside : goal.advance-requires-clause-inside
advance-requires-clause-inside c =
    omega (arith, c.requires.inside, c.requires.before.before, ap length c.requires.before.left, length-drop c.args.cursor.now.index c.args.source.now.flat.now.characters)

pub first-requires-clause-some : goal.first-requires-clause-some
first-requires-clause-some c =
    omega (arith, c.requires.inside, ap length (left_at c.args.source.now.flat.now.characters c.args.at c.args.cursor.now c.advance.new.self c.requires.before c.advance.ensures.further), length-drop c.args.at c.args.source.now.flat.now.characters)

pub returns-clause-character : goal.returns-clause-character
returns-clause-character c =
    let text : List Character = c.args.source.now.flat.now.characters in
    let left = left_at text c.args.at c.args.cursor.now c.advance.new.self c.requires.before c.advance.ensures.further in
    get_or_default text c.args.at no_character c.first.result c.requires.inside
    ∙ ap (λ n. get_or text n c.first.result) (sym (add-zero c.args.at))
    ∙ sym (get_or-drop c.args.at text 0 c.first.result)
    ∙ ap (λ (t : List Character). get_or t 0 c.first.result) (sym left)
    ∙ c.first.ensures.first

pub returns-clause-before : goal.returns-clause-before
returns-clause-before c =
    let text : List Character = c.args.source.now.flat.now.characters in
    let total : c.advance.new.self.index ≡ c.args.at = omega (arith, c.advance.ensures.index, c.requires.before.before) in
    record {
      sound = c.advance.ensures.sound;
      left = left_at text c.args.at c.args.cursor.now c.advance.new.self c.requires.before c.advance.ensures.further ∙ ap (λ n. drop n text) (sym total);
      before = omega (arith, total);
    }
