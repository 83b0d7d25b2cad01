use Rattle.std.proofs.Common.{◌≡◌, ◌∙◌, ap, subst, sym, arith, ℕ, List, length, drop}
use Rattle.dm_phase.specs.declared.Character.{Character}
use Rattle.dm_token.specs.Answer.{IsInside, place_of-inside}
use Rattle.dm_token.specs.declared.place.Place.{Place}
use Rattle.dm_token.specs.declared.stop.Refusal.{Refusal}
use Rattle.dm_token.specs.Places.{place_of}
use Rattle.dm_token.specs.Refusals as refusals
use Rattle.dm_lex.specs.Cuts.{bytes_of, IsOpen}
use Rattle.dm_lex.specs.Tokens.{start_of}
use Rattle.dm_lex.specs.Progress.{offset_of}
use Rattle.dm_lex.proofs.ProgressLemmas.{offset_inside, bytes_of-rest, start_of-rest, file_of-here}
use Rattle.dm_lex.proofs.lexer.open_comment.Goals as goal
use Rattle.dm_lex.proofs.lexer.open_comment.Goals.{After-moved}

pub moved-requires-clause-inside : goal.moved-requires-clause-inside
moved-requires-clause-inside c =
    let h = offset_inside (length c.args.source.now.bytes.now) c.args.source.now.flat.now.characters c.args.lexer.now.at c.requires.source.in_order c.requires.more in
    omega (arith, h.0, ap (λ (d : Character). d.at) c.character_at-at.ensures.character)

-- the place of the comment
place_is : (c : After-moved) → c.moved.result ≡ place_of c.args.source.now.file c.args.source.now.bytes.now (offset_of c.args.source.now.flat.now.characters c.args.lexer.now.at)
place_is c =
    let source = c.args.source.now in
    let at : ℕ = c.args.lexer.now.at in
    c.moved.ensures
    ∙ ap (λ n. place_of c.args.lexer.now.here.file source.bytes.now n) (sym (ap (λ (d : Character). d.at) c.character_at-at.ensures.character))
    ∙ ap (λ f. place_of f source.bytes.now (offset_of source.flat.now.characters at)) (file_of-here _ _ _ _ _ c.requires.progress.here)

pub returns-clause-stop : goal.returns-clause-stop
returns-clause-stop c =
    let source = c.args.source.now in
    let text : List Character = source.flat.now.characters in
    let at : ℕ = c.args.lexer.now.at in
    let left : drop at source.text.now ≡ bytes_of (drop at text) = ap (drop at) c.requires.source.text ∙ sym (bytes_of-rest text at) in
    let place : c.moved.result ≡ place_of source.file source.bytes.now (start_of (drop at text)) =
    place_is c ∙ ap (place_of source.file source.bytes.now) (sym (start_of-rest text at c.requires.more)) in (
      c.requires.progress.pieces.0,
      drop at text,
      (c.requires.progress.pieces.1.cut, subst (λ (t : List ℕ). IsOpen t) left c.requires.comment),
      ap (λ (p : Place). let r : Refusal = record { number = refusals.comment; detail = 0; place = p } in r) place,
    )

pub returns-clause-inside : goal.returns-clause-inside
returns-clause-inside c =
    let source = c.args.source.now in
    let text : List Character = source.flat.now.characters in
    let h = offset_inside (length source.bytes.now) text c.args.lexer.now.at c.requires.source.in_order c.requires.more in
    subst (λ (p : Place). IsInside source.file source.bytes.now p) (sym (place_is c)) (place_of-inside source.file (offset_of text c.args.lexer.now.at) source.bytes.now h.0)
