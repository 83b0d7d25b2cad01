-- What a step of the cut keeps.
use Rattle.std.proofs.Common.{◌≡◌, ℕ, zero, suc, ◌+◌, ◌-◌, ◌<◌, ◌≤◌, max, Bool, true, false, cond, eqb, List, [], ◌∷◌, ◌++◌, length, get_or, take, drop, refl, ap, sym, ◌∙◌, subst, arith, length-drop, length-take}
use Rattle.std.proofs.lemmas.List.{at_drop_more, take-append-drop, take-map, drop-map, drop-drop, get_or-map, get_or-drop, length-map}
use Rattle.std.proofs.lemmas.Bool.{and_left}
use Rattle.dm_token.specs.declared.place.Place.{Place}
use Rattle.dm_token.specs.declared.token.PpToken.{PpToken}
use Rattle.dm_token.specs.Places.{place_of}
use Rattle.dm_phase.specs.declared.Character.{Character}
use Rattle.dm_phase.specs.Positions.{InOrder}
use Rattle.dm_lex.specs.declared.state.State.{State}
use Rattle.dm_lex.specs.declared.scan.Found.{Found}
use Rattle.dm_lex.specs.Classes.{kind_of, behind, apostrophe, quotation_mark}
use Rattle.dm_lex.specs.Cuts.{Piece, token, blank, comment, characters_of, bytes_of, is_blank, is_comment, opens_blank, opens_block, opens_line, IsToken, IsPiece, allows_header, state_behind, first_state, line_behind, CutsTo}
use Rattle.dm_lex.specs.Reach.{IsBest, IsCommentLength, StaysOpen}
use Rattle.dm_lex.specs.Tokens.{tokens_of, token_from, start_of, end_of}
use Rattle.dm_lex.specs.Progress.{no_character, offset_of, state_after, HasCut, IsHere, IsSource, IsProgress}
use Rattle.dm_lex.specs.declared.lexer.Source.{Source}
use Rattle.dm_lex.specs.declared.lexer.Lexer.{Lexer}
use Rattle.dm_lex.specs.declared.state.Line.{Line}
use Rattle.dm_lex.specs.declared.state.Line.TheVariants.{Start}
use Rattle.dm_token.specs.Places.{newline}

-- one more piece
CutsTo-more : (state : State) (pieces : List Piece) (piece : Piece) (text rest : List Character) →
    CutsTo state pieces text (characters_of piece ++ rest) → IsPiece (allows_header (state_after state pieces)) piece rest → CutsTo state (pieces ++ piece ∷ []) text rest
unfolding CutsTo state_after
CutsTo-more state [] piece text rest cut is = (rest, cut, is, refl)
CutsTo-more state (first ∷ pieces) piece text rest cut is =
    (cut.0, cut.1, cut.2, CutsTo-more (state_behind state first) pieces piece cut.0 rest cut.3 is)

state_after-more : (state : State) (pieces : List Piece) (piece : Piece) → state_after state (pieces ++ piece ∷ []) ≡ state_behind (state_after state pieces) piece
unfolding state_after
state_after-more state [] piece = refl
state_after-more state (first ∷ pieces) piece = state_after-more (state_behind state first) pieces piece

tokens_of-more : (file : ℕ) (bytes : List ℕ) (state : State) (pieces : List Piece) (piece : Piece) →
    tokens_of file bytes state (pieces ++ piece ∷ []) ≡ tokens_of file bytes state pieces ++ tokens_of file bytes (state_after state pieces) (piece ∷ [])
unfolding tokens_of state_after
tokens_of-more file bytes state [] piece = refl
tokens_of-more file bytes state (token kind spelling ∷ pieces) piece =
    ap (λ tokens. token_from file bytes state kind spelling ∷ tokens) (tokens_of-more file bytes (state_behind state (token kind spelling)) pieces piece)
tokens_of-more file bytes state (blank character ∷ pieces) piece = tokens_of-more file bytes (state_behind state (blank character)) pieces piece
tokens_of-more file bytes state (comment text ∷ pieces) piece = tokens_of-more file bytes (state_behind state (comment text)) pieces piece

-- a piece of n characters is cut
pub HasCut-more : (file : ℕ) (bytes : List ℕ) (text : List Character) (at n : ℕ) (state : State) (tokens : List PpToken) (pieces : List Piece) (piece : Piece) →
    HasCut file bytes text at state tokens pieces → characters_of piece ≡ take n (drop at text) → IsPiece (allows_header state) piece (drop (at + n) text) →
    HasCut file bytes text (at + n) (state_behind state piece) (tokens ++ tokens_of file bytes state (piece ∷ [])) (pieces ++ piece ∷ [])
HasCut-more file bytes text at n state tokens pieces piece has spelled is =
    let whole : drop at text ≡ characters_of piece ++ drop (at + n) text =
    sym (ap (λ (s : List Character). s ++ drop (at + n) text) spelled ∙ (ap (λ (r : List Character). take n (drop at text) ++ r) (sym (drop-drop n at text)) ∙ take-append-drop n (drop at text))) in
    record {
      cut = CutsTo-more first_state pieces piece text (drop (at + n) text) (subst (λ (left : List Character). CutsTo first_state pieces text left) whole has.cut)
          (subst (λ s. IsPiece (allows_header s) piece (drop (at + n) text)) (sym has.state_is) is);
      state_is = state_after-more first_state pieces piece ∙ ap (λ s. state_behind s piece) has.state_is;
      tokens_are = tokens_of-more file bytes first_state pieces piece
          ∙ (ap (λ (s : List PpToken). s ++ tokens_of file bytes (state_after first_state pieces) (piece ∷ [])) has.tokens_are
          ∙ ap (λ s. tokens ++ tokens_of file bytes s (piece ∷ [])) has.state_is);
    }

-- the bytes of a part
pub bytes_of-part : (text : List Character) (at n : ℕ) → bytes_of (take n (drop at text)) ≡ take n (drop at (bytes_of text))
bytes_of-part text at n = sym (ap (take n) (drop-map (λ (c : Character). c.byte) at text) ∙ take-map (λ (c : Character). c.byte) n (drop at text))

pub bytes_of-rest : (text : List Character) (at : ℕ) → bytes_of (drop at text) ≡ drop at (bytes_of text)
bytes_of-rest text at = sym (drop-map (λ (c : Character). c.byte) at text)

-- a blank is a piece
pub blank_is : (text : List Character) (spelled : List ℕ) (at : ℕ) (header : Bool) → spelled ≡ bytes_of text → at < length text → is_blank (get_or spelled at 0) ≡ true →
    IsPiece header (blank (get_or text at no_character)) (drop (at + 1) text)
blank_is text spelled at header same inside is =
    subst (λ b. is_blank b ≡ true) (ap (λ (s : List ℕ). get_or s at 0) same ∙ get_or-map (λ (c : Character). c.byte) text at no_character 0 inside) is

pub blank_spelled : (text : List Character) (at : ℕ) → at < length text → get_or text at no_character ∷ [] ≡ take 1 (drop at text)
blank_spelled text at inside = sym (at_drop_more (take 1) text at no_character inside ∙ one (drop (at + 1) text))
  where
    one : (rest : List Character) → take 1 (get_or text at no_character ∷ rest) ≡ get_or text at no_character ∷ []
    one [] = refl
    one (c ∷ rest) = refl

-- a comment is a piece
pub comment_is : (text : List Character) (spelled : List ℕ) (at n : ℕ) (header : Bool) → spelled ≡ bytes_of text → IsCommentLength (drop at spelled) n → 0 < n →
    IsPiece header (comment (take n (drop at text))) (drop (at + n) text)
comment_is text spelled at n header same is some =
    let front : bytes_of (take n (drop at text)) ≡ take n (drop at spelled) = bytes_of-part text at n ∙ ap (λ (s : List ℕ). take n (drop at s)) (sym same) in
    let rest : bytes_of (drop (at + n) text) ≡ drop n (drop at spelled) = bytes_of-rest text (at + n) ∙ (sym (drop-drop n at (bytes_of text)) ∙ ap (λ (s : List ℕ). drop n (drop at s)) (sym same)) in
    subst (λ (f : List ℕ). is_comment f (bytes_of (drop (at + n) text)) ≡ true) (sym front)
    (subst (λ (r : List ℕ). is_comment (take n (drop at spelled)) r ≡ true) (sym rest) (is.is some))

opens_blank-not : (byte : ℕ) (others : List ℕ) → is_blank byte ≡ false → opens_blank (byte ∷ others) ≡ false
unfolding opens_blank behind
opens_blank-not byte others is = and_left _ _ is

no_blank_at : (spelled : List ℕ) (at : ℕ) → at < length spelled → is_blank (get_or spelled at 0) ≡ false → opens_blank (drop at spelled) ≡ false
no_blank_at spelled at inside is = at_drop_more opens_blank spelled at 0 inside ∙ opens_blank-not _ _ is

-- a token is a piece
pub token_is : (text : List Character) (spelled : List ℕ) (at : ℕ) (header : Bool) (found : Found) → spelled ≡ bytes_of text → at < length text → is_blank (get_or spelled at 0) ≡ false →
    IsCommentLength (drop at spelled) 0 → IsBest (kind_of header) (drop at spelled) found → IsPiece header (token found.kind (take found.length (drop at text))) (drop (at + found.length) text)
token_is text spelled at header found same inside no_blank no_comment best =
    let n : ℕ = found.length in
    let front : bytes_of (take n (drop at text)) ≡ take n (drop at spelled) = bytes_of-part text at n ∙ ap (λ (s : List ℕ). take n (drop at s)) (sym same) in
    let rest : bytes_of (drop (at + n) text) ≡ drop n (drop at spelled) = bytes_of-rest text (at + n) ∙ (sym (drop-drop n at (bytes_of text)) ∙ ap (λ (s : List ℕ). drop n (drop at s)) (sym same)) in
    let joined : take n (drop at spelled) ++ drop n (drop at spelled) ≡ drop at spelled = take-append-drop n (drop at spelled) in
    let size : length (take n (drop at spelled)) ≡ n = omega (arith, length-take n (drop at spelled), best.inside) in
    let is : IsToken header found.kind (take n (drop at spelled)) (drop n (drop at spelled)) = record {
      kind_is = best.is;
      longest = λ m within some.
          let h : m ≤ n = best.longest m (subst (λ (s : List ℕ). m ≤ length s) joined within) (subst (λ (s : List ℕ). Rattle.std.specs.Prelude.is_some (kind_of header (take m s)) ≡ true) joined some) in
          omega arith;
      no_blank = ap opens_blank joined ∙ no_blank_at spelled at (omega (arith, ap length same, length-map text (λ (c : Character). c.byte))) no_blank;
      no_block = ap opens_block joined ∙ no_comment.no_block refl;
      no_line = ap opens_line joined ∙ no_comment.no_line refl;
    } in
    subst (λ (f : List ℕ). IsToken header found.kind f (bytes_of (drop (at + n) text))) (sym front)
    (subst (λ (r : List ℕ). IsToken header found.kind (take n (drop at spelled)) r) (sym rest) is)

-- quotes and places further on
pub StaysOpen-further : (quote : ℕ) (text : List ℕ) (from later until : ℕ) → from ≤ later → StaysOpen quote text from until → StaysOpen quote text later until
StaysOpen-further quote text from later until further known k above below same = known k (omega arith) below same

pub IsHere-further : (file : ℕ) (bytes : List ℕ) (text : List Character) (from later : ℕ) (here : Place) → from ≤ later → IsHere file bytes text from here → IsHere file bytes text later here
IsHere-further file bytes text from later here further is = record {
  is = is.is;
  before = λ k above below. is.before k (omega arith) below;
}

-- characters in order
InOrder-at : (first end : ℕ) (text : List Character) (k : ℕ) → InOrder first end text → k < length text →
    (first ≤ offset_of text k) × (offset_of text k + (get_or text k no_character).width ≤ end)
InOrder-at first end [] k order inside = absurd (omega arith)
InOrder-at first end (c ∷ text) zero order inside = (order.0, order.1)
InOrder-at first end (c ∷ text) (suc k) order inside =
    let h = InOrder-at (c.at + max 1 c.width) end text k order.2 (omega arith) in
    (omega (arith, h.0, order.0), h.1)

InOrder-later : (first end : ℕ) (text : List Character) (i k : ℕ) → InOrder first end text → i ≤ k → k < length text → offset_of text i ≤ offset_of text k
InOrder-later first end [] i k order later inside = absurd (omega arith)
InOrder-later first end (c ∷ text) zero zero order later inside = omega arith
InOrder-later first end (c ∷ text) zero (suc k) order later inside =
    let h = InOrder-at (c.at + max 1 c.width) end text k order.2 (omega arith) in omega (arith, h.0)
InOrder-later first end (c ∷ text) (suc i) zero order later inside = absurd (omega arith)
InOrder-later first end (c ∷ text) (suc i) (suc k) order later inside = InOrder-later (c.at + max 1 c.width) end text i k order.2 (omega arith) (omega arith)

pub IsHere-at : (file : ℕ) (bytes : List ℕ) (text : List Character) (at : ℕ) (end : ℕ) → InOrder 0 end text → (here : Place) → here ≡ place_of file bytes (offset_of text at) →
    (later : ℕ) → at ≤ later → IsHere file bytes text later here
IsHere-at file bytes text at end order here is later further =
    let byte : here.byte ≡ offset_of text at = ap (λ (p : Place). p.byte) is in
    record {
      is = is ∙ ap (place_of file bytes) (sym byte);
      before = λ k above below. let h : offset_of text at ≤ offset_of text k = InOrder-later 0 end text at k order (omega arith) below in omega arith;
    }

-- the source's bytes and characters
pub offset_inside : (end : ℕ) (text : List Character) (k : ℕ) → InOrder 0 end text → k < length text → (offset_of text k ≤ end) × (offset_of text k + (get_or text k no_character).width ≤ end)
offset_inside end text k order inside = let h = InOrder-at 0 end text k order inside in (omega (arith, h.1), h.1)

-- the ends of a part
start_of-first : (c : Character) (others : List Character) → start_of (c ∷ others) ≡ c.at
unfolding start_of
start_of-first c others = refl

pub start_of-part : (text : List Character) (at n : ℕ) → at < length text → 0 < n → start_of (take n (drop at text)) ≡ offset_of text at
start_of-part text at zero inside some = absurd (omega arith)
start_of-part text at (suc n) inside some = at_drop_more (λ t. start_of (take (suc n) t)) text at no_character inside ∙ start_of-first (get_or text at no_character) (take n (drop (at + 1) text))

end_of-last : (text : List Character) (n : ℕ) → n < length text → end_of (take (suc n) text) ≡ (get_or text n no_character).at + (get_or text n no_character).width
unfolding end_of
end_of-last [] n inside = absurd (omega arith)
end_of-last (c ∷ []) zero inside = refl
end_of-last (c ∷ d ∷ text) zero inside = refl
end_of-last (c ∷ []) (suc n) inside = absurd (omega arith)
end_of-last (c ∷ d ∷ text) (suc n) inside = end_of-last (d ∷ text) n (omega arith)

pub end_of-part : (text : List Character) (at n k : ℕ) → k ≡ at + n - 1 → 0 < n → k < length text → end_of (take n (drop at text)) ≡ offset_of text k + (get_or text k no_character).width
end_of-part text at zero k is some inside = absurd (omega arith)
end_of-part text at (suc n) k is some inside =
    let place : at + n ≡ k = omega arith in
    end_of-last (drop at text) n (omega (arith, length-drop at text))
    ∙ (ap (λ (c : Character). c.at + c.width) (get_or-drop at text n no_character) ∙ ap (λ m. (get_or text m no_character).at + (get_or text m no_character).width) place)

append-none : {A : Type 0} (xs : List A) → xs ++ [] ≡ xs
append-none [] = refl
append-none (x ∷ xs) = ap (λ t. x ∷ t) (append-none xs)

-- a blank is taken
pub progress_blank : (source : Source) (lexer : Lexer) (line : Line) → IsSource source → IsProgress source lexer → lexer.at < length source.flat.now.characters →
    is_blank (get_or source.text.now lexer.at 0) ≡ true → line ≡ cond (eqb (get_or source.text.now lexer.at 0) newline) Start lexer.state.line →
    IsProgress source (record { at = lexer.at + 1; state = record { line = line; blank = true }; single = lexer.single; double = lexer.double; here = lexer.here; tokens = lexer.tokens })
unfolding state_behind tokens_of
progress_blank source lexer line sourced progress more is line_is =
    let text : List Character = source.flat.now.characters in
    let byte : get_or source.text.now lexer.at 0 ≡ (get_or text lexer.at no_character).byte =
    ap (λ (s : List ℕ). get_or s lexer.at 0) sourced.text ∙ get_or-map (λ (c : Character). c.byte) text lexer.at no_character 0 more in
    let state_is : state_behind lexer.state (blank (get_or text lexer.at no_character)) ≡ record { line = line; blank = true } =
    ap (λ (l : Line). let s : State = record { line = l; blank = true } in s) (sym (line_is ∙ ap (λ b. cond (eqb b newline) Start lexer.state.line) byte)) in
    let has = HasCut-more source.file source.bytes.now text lexer.at 1 lexer.state lexer.tokens.items progress.pieces.0 (blank (get_or text lexer.at no_character)) progress.pieces.1
    (blank_spelled text lexer.at more) (blank_is text source.text.now lexer.at (allows_header lexer.state) sourced.text more is) in
    record {
      inside = omega arith;
      pieces = (
        progress.pieces.0 ++ blank (get_or text lexer.at no_character) ∷ [],
        subst (λ s. HasCut source.file source.bytes.now text (lexer.at + 1) s lexer.tokens.items (progress.pieces.0 ++ blank (get_or text lexer.at no_character) ∷ [])) state_is
            (subst (λ (t : List PpToken). HasCut source.file source.bytes.now text (lexer.at + 1) (state_behind lexer.state (blank (get_or text lexer.at no_character))) t (progress.pieces.0 ++ blank (get_or text lexer.at no_character) ∷ [])) (append-none lexer.tokens.items) has),
      );
      single = StaysOpen-further apostrophe source.text.now lexer.at (lexer.at + 1) lexer.single (omega arith) progress.single;
      double = StaysOpen-further quotation_mark source.text.now lexer.at (lexer.at + 1) lexer.double (omega arith) progress.double;
      here = IsHere-further source.file source.bytes.now text lexer.at (lexer.at + 1) lexer.here (omega arith) progress.here;
    }

-- a comment is taken
pub progress_comment : (source : Source) (lexer : Lexer) (far : ℕ) → IsSource source → IsProgress source lexer → IsCommentLength (drop lexer.at source.text.now) far → 0 < far →
    IsProgress source (record { at = lexer.at + far; state = record { line = lexer.state.line; blank = true }; single = lexer.single; double = lexer.double; here = lexer.here; tokens = lexer.tokens })
unfolding state_behind tokens_of
progress_comment source lexer far sourced progress is some =
    let text : List Character = source.flat.now.characters in
    let piece : Piece = comment (take far (drop lexer.at text)) in
    let inside : far ≤ length (drop lexer.at source.text.now) = is.inside in
    let size : length source.text.now ≡ length text = ap length sourced.text ∙ length-map text (λ (c : Character). c.byte) in
    let has = HasCut-more source.file source.bytes.now text lexer.at far lexer.state lexer.tokens.items progress.pieces.0 piece progress.pieces.1
    refl (comment_is text source.text.now lexer.at far (allows_header lexer.state) sourced.text is some) in
    record {
      inside = omega (arith, length-drop lexer.at source.text.now);
      pieces = (
        progress.pieces.0 ++ piece ∷ [],
        subst (λ (t : List PpToken). HasCut source.file source.bytes.now text (lexer.at + far) (state_behind lexer.state piece) t (progress.pieces.0 ++ piece ∷ [])) (append-none lexer.tokens.items) has,
      );
      single = StaysOpen-further apostrophe source.text.now lexer.at (lexer.at + far) lexer.single (omega arith) progress.single;
      double = StaysOpen-further quotation_mark source.text.now lexer.at (lexer.at + far) lexer.double (omega arith) progress.double;
      here = IsHere-further source.file source.bytes.now text lexer.at (lexer.at + far) lexer.here (omega arith) progress.here;
    }

-- a token is taken
pub progress_token : (source : Source) (lexer next : Lexer) (found : Found) (line : Line) →
    IsSource source → IsProgress source lexer → lexer.at < length source.flat.now.characters →
    is_blank (get_or source.text.now lexer.at 0) ≡ false → IsCommentLength (drop lexer.at source.text.now) 0 → IsBest (kind_of (allows_header lexer.state)) (drop lexer.at source.text.now) found →
    StaysOpen apostrophe source.text.now lexer.at next.single → StaysOpen quotation_mark source.text.now lexer.at next.double →
    next.here ≡ place_of source.file source.bytes.now (offset_of source.flat.now.characters lexer.at) →
    line ≡ line_behind lexer.state.line (take found.length (drop lexer.at source.text.now)) →
    next.tokens.items ≡ lexer.tokens.items ++ token_from source.file source.bytes.now lexer.state found.kind (take found.length (drop lexer.at source.flat.now.characters)) ∷ [] →
    next.at ≡ lexer.at + found.length → next.state ≡ record { line = line; blank = false } →
    IsProgress source next
unfolding state_behind tokens_of
progress_token source lexer next found line sourced progress more no_blank no_comment best single_open double_open here_is line_is tokens_are at_is next_state =
    let text : List Character = source.flat.now.characters in
    let spelling : List Character = take found.length (drop lexer.at text) in
    let piece : Piece = token found.kind spelling in
    let inside : found.length ≤ length (drop lexer.at source.text.now) = best.inside in
    let size : length source.text.now ≡ length text = ap length sourced.text ∙ length-map text (λ (c : Character). c.byte) in
    let spelled : bytes_of spelling ≡ take found.length (drop lexer.at source.text.now) =
    bytes_of-part text lexer.at found.length ∙ ap (λ (s : List ℕ). take found.length (drop lexer.at s)) (sym sourced.text) in
    let state_is : state_behind lexer.state piece ≡ next.state =
    ap (λ (l : Line). let s : State = record { line = l; blank = false } in s) (ap (line_behind lexer.state.line) spelled ∙ sym line_is) ∙ sym next_state in
    let has = HasCut-more source.file source.bytes.now text lexer.at found.length lexer.state lexer.tokens.items progress.pieces.0 piece progress.pieces.1
    refl (token_is text source.text.now lexer.at (allows_header lexer.state) found sourced.text more no_blank no_comment best) in
    record {
      inside = omega (arith, length-drop lexer.at source.text.now);
      pieces = (
        progress.pieces.0 ++ piece ∷ [],
        subst (λ n. HasCut source.file source.bytes.now text n next.state next.tokens.items (progress.pieces.0 ++ piece ∷ [])) (sym at_is)
            (subst (λ s. HasCut source.file source.bytes.now text (lexer.at + found.length) s next.tokens.items (progress.pieces.0 ++ piece ∷ [])) state_is
            (subst (λ (t : List PpToken). HasCut source.file source.bytes.now text (lexer.at + found.length) (state_behind lexer.state piece) t (progress.pieces.0 ++ piece ∷ [])) (sym tokens_are) has)),
      );
      single = StaysOpen-further apostrophe source.text.now lexer.at next.at next.single (omega arith) single_open;
      double = StaysOpen-further quotation_mark source.text.now lexer.at next.at next.double (omega arith) double_open;
      here = IsHere-at source.file source.bytes.now text lexer.at (length source.bytes.now) sourced.in_order next.here here_is next.at (omega arith);
    }

pub start_of-rest : (text : List Character) (at : ℕ) → at < length text → start_of (drop at text) ≡ offset_of text at
start_of-rest text at inside = at_drop_more start_of text at no_character inside ∙ start_of-first (get_or text at no_character) (drop (at + 1) text)

-- the file of the last place
pub file_of-here : (file : ℕ) (bytes : List ℕ) (text : List Character) (at : ℕ) (here : Place) → IsHere file bytes text at here → here.file ≡ file
file_of-here file bytes text at here is = ap (λ (p : Place). p.file) is.is

-- at the beginning nothing is cut
pub progress_none : (source : Source) (lexer : Lexer) → lexer.at ≡ 0 → lexer.state ≡ first_state → lexer.single ≡ 0 → lexer.double ≡ 0 →
    lexer.here ≡ record { file = source.file; byte = 0; line = 1; column = 1 } → lexer.tokens.items ≡ [] → IsProgress source lexer
unfolding CutsTo state_after tokens_of
progress_none source lexer at state single double here tokens = record {
  inside = omega arith;
  pieces = (
    [],
    record {
      cut = ap (λ n. drop n source.flat.now.characters) (sym at);
      state_is = sym state;
      tokens_are = sym tokens;
    },
  );
  single = λ k above below same. absurd (omega arith);
  double = λ k above below same. absurd (omega arith);
  here = record {
    is = here_is source.file source.bytes.now lexer.here here;
    before = λ k above below. let h : lexer.here.byte ≡ 0 = ap (λ (p : Place). p.byte) here in omega arith;
  };
}
  where
    here_is : (file : ℕ) (bytes : List ℕ) (place : Place) → place ≡ record { file = file; byte = 0; line = 1; column = 1 } → place ≡ place_of file bytes place.byte
    here_is file [] place is = is ∙ ap (λ n. place_of file [] n) (sym (ap (λ (p : Place). p.byte) is))
    here_is file (b ∷ bytes) place is = is ∙ ap (λ n. place_of file (b ∷ bytes) n) (sym (ap (λ (p : Place). p.byte) is))
