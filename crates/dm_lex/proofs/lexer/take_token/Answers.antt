use Rattle.std.proofs.Common.{◌≡◌, ◌∙◌, ℕ, get_or, ap, arith, sym, subst, refl, [], ◌∷◌, ◌++◌, length, drop}
use Rattle.dm_phase.specs.declared.Character.{Character}
use Rattle.dm_token.specs.declared.token.PpToken.{PpToken}
use Rattle.dm_token.specs.Places.{place_of}
use Rattle.dm_lex.specs.Classes.{kind_of}
use Rattle.dm_lex.specs.Cuts.{line_behind}
use Rattle.dm_lex.specs.Reach.{IsBest}
use Rattle.dm_token.specs.declared.place.Place.{Place}
use Rattle.dm_lex.specs.declared.lexer.Source.{Source}
use Rattle.dm_lex.specs.declared.lexer.Lexer.{Lexer}
use Rattle.dm_lex.specs.Progress.{offset_of, no_character, IsHere}
use Rattle.dm_lex.proofs.ProgressLemmas.{offset_inside, file_of-here, progress_token}
use Rattle.dm_lex.proofs.lexer.take_token.Goals as goal

pub moved-here-requires-clause-inside : goal.moved-here-requires-clause-inside
moved-here-requires-clause-inside c =
    let h = offset_inside (length c.args.source.now.bytes.now) c.args.source.now.flat.now.characters c.args.lexer.now.at c.requires.source.in_order c.requires.more in
    omega (arith, h.0, ap (λ (d : Character). d.at) c.character_at-start.ensures.character)

-- the place of the token
here_is : (source : Source) (lexer : Lexer) (here : Place) (start : ℕ) (character : Character) → IsHere source.file source.bytes.now source.flat.now.characters lexer.at lexer.here →
    here ≡ place_of lexer.here.file source.bytes.now start → get_or source.flat.now.characters lexer.at no_character ≡ character → start ≡ character.at →
    here ≡ place_of source.file source.bytes.now (offset_of source.flat.now.characters lexer.at)
here_is source lexer here start character is place same at =
    place ∙ ap (λ n. place_of lexer.here.file source.bytes.now n) (at ∙ sym (ap (λ (d : Character). d.at) same))
    ∙ ap (λ f. place_of f source.bytes.now (offset_of source.flat.now.characters lexer.at)) (file_of-here _ _ _ _ _ is)

pub make_token-requires-clause-here : goal.make_token-requires-clause-here
make_token-requires-clause-here c =
    here_is c.args.source.now c.args.lexer.now _ _ c.character_at-start.result c.requires.progress.here c.moved-here.ensures c.character_at-start.ensures.character refl

pub returns-clause-progress : goal.returns-clause-progress
returns-clause-progress c =
    let source = c.args.source.now in
    let lexer = c.args.lexer.now in
    progress_token source lexer _ c.token_at-found.result c.line_behind-line.result c.requires.source c.requires.progress c.requires.more c.requires.blank c.requires.comment
    (subst (λ h. IsBest (kind_of h) (drop lexer.at source.text.now) c.token_at-found.result) c.allows_header-header.ensures c.token_at-found.ensures.best)
    c.token_at-found.ensures.single c.token_at-found.ensures.double (here_is source lexer _ _ c.character_at-start.result c.requires.progress.here c.moved-here.ensures c.character_at-start.ensures.character refl)
    (c.line_behind-line.ensures ∙ ap (line_behind lexer.state.line) c.spelling_of.ensures)
    (c.in_ok-push.ensures.items ∙ ap (λ (t : PpToken). lexer.tokens.items ++ t ∷ []) c.in_ok-token.ensures.token) refl refl
