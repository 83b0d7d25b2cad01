-- Where the line `#define N BODY` has a cut, no comment is open in a text of another name and the body.
use Rattle.std.proofs.Common.{◌≡◌, ℕ, zero, suc, ◌+◌, ◌≤◌, Bool, true, false, cond, ◌&&◌, ◌||◌, List, [], ◌∷◌, ◌++◌, length, map, take, None, Some, is_some, eqb, bytes_eq, refl, sym, ap, ◌∙◌, subst, arith, true≢false, codes}
use Rattle.std.proofs.lemmas.Bool.{eqb-true}
use Rattle.std.proofs.lemmas.List.{map-append}
use Rattle.dm_token.specs.Bytes.{newline}
use Rattle.dm_token.specs.declared.token.PpKind.{PpKind}
use Rattle.dm_token.specs.declared.token.PpKind.TheVariants.{Identifier, Punctuator, Stray}
use Rattle.dm_phase.specs.declared.Character.{Character}
use Rattle.dm_phase.specs.Phases.{characters_at}
use Rattle.dm_spell.specs.Tables.{punctuator_rows}
use Rattle.dm_lex.specs.declared.state.Line.TheVariants.{Start, Hash, Other}
use Rattle.dm_lex.specs.declared.state.State.{State}
use Rattle.dm_lex.specs.Classes.{is_nondigit, is_digit, is_word, is_prefix, behind, is_identifier, is_number, is_character, is_literal, is_plain_character, is_plain_literal, punctuator_of, kind_of}
use Rattle.dm_lex.specs.Cuts.{Piece, token, blank, comment, characters_of, bytes_of, is_blank, is_comment, IsToken, IsPiece, opens_blank, opens_block, opens_line, line_behind, allows_header, state_behind, first_state, CutsTo, Cuts, IsOpen, OpensAt}
use Rattle.dm_lex.proofs.UniqueLemmas.{one_piece, open_no_cut}
use Rattle.dm_defines.proofs.WordLemmas.{EndsWord, word-token, nondigit-apart, both-true}

-- THE SAME BYTES ELSEWHERE

-- a text that is cut in two where another is
record Parts (front rest text : List Character) : Type 0 where
  first : List Character
  behind : List Character
  is : text ≡ first ++ behind
  first_bytes : bytes_of first ≡ bytes_of front
  behind_bytes : bytes_of behind ≡ bytes_of rest

tail-of : (a b : ℕ) (xs ys : List ℕ) → a ∷ xs ≡ b ∷ ys → xs ≡ ys
tail-of a b xs ys e = cc

parts-of : (front rest text : List Character) → bytes_of text ≡ bytes_of (front ++ rest) → Parts front rest text
parts-of [] rest text e = record { first = []; behind = text; is = refl; first_bytes = refl; behind_bytes = e }
parts-of (c ∷ front) rest [] e = absurd (cc)
parts-of (c ∷ front) rest (d ∷ text) e =
    let head : d.byte ≡ c.byte = cc in
    let more = parts-of front rest text (tail-of d.byte c.byte (bytes_of text) (bytes_of (front ++ rest)) e) in
    record { first = d ∷ more.first; behind = more.behind; is = ap (λ t. d ∷ t) more.is; first_bytes = ap (λ byte. byte ∷ bytes_of more.first) head ∙ ap (λ bytes. c.byte ∷ bytes) more.first_bytes; behind_bytes = more.behind_bytes }

-- a piece of the same bytes
record Alike (header : Bool) (state : State) (p : Piece) (rest text : List Character) : Type 0 where
  piece : Piece
  left : List Character
  is : text ≡ characters_of piece ++ left
  left_bytes : bytes_of left ≡ bytes_of rest
  is_piece : IsPiece header piece left
  behind : state_behind state piece ≡ state_behind state p

piece-alike : (header : Bool) (state : State) (p : Piece) (rest text : List Character) → bytes_of text ≡ bytes_of (characters_of p ++ rest) → IsPiece header p rest → Alike header state p rest text
unfolding state_behind
piece-alike header state (token kind spelling) rest text e is =
    let parts = parts-of spelling rest text e in record {
      piece = token kind parts.first;
      left = parts.behind;
      is = parts.is;
      left_bytes = parts.behind_bytes;
      is_piece = subst (λ bytes. IsToken header kind bytes (bytes_of parts.behind)) (sym parts.first_bytes) (subst (λ bytes. IsToken header kind (bytes_of spelling) bytes) (sym parts.behind_bytes) is);
      behind = ap (λ bytes. record { line = line_behind state.line bytes; blank = false }) parts.first_bytes;
    }
piece-alike header state (blank c) rest [] e is = absurd (cc)
piece-alike header state (blank c) rest (d ∷ text) e is =
    let head : d.byte ≡ c.byte = cc in
    let tail : bytes_of text ≡ bytes_of rest = cc in record {
      piece = blank d;
      left = text;
      is = refl;
      left_bytes = tail;
      is_piece = ap is_blank head ∙ is;
      behind = ap (λ byte. record { line = cond (eqb byte newline) Start state.line; blank = true }) head;
    }
piece-alike header state (comment spelling) rest text e is =
    let parts = parts-of spelling rest text e in record {
      piece = comment parts.first;
      left = parts.behind;
      is = parts.is;
      left_bytes = parts.behind_bytes;
      is_piece = subst (λ bytes. is_comment bytes (bytes_of parts.behind) ≡ true) (sym parts.first_bytes) (subst (λ bytes. is_comment (bytes_of spelling) bytes ≡ true) (sym parts.behind_bytes) is);
      behind = refl;
    }

-- a text of the same bytes is cut likewise
cut-alike : (state : State) (pieces : List Piece) (text left other : List Character) → bytes_of other ≡ bytes_of text → CutsTo state pieces text left
    → (others : List Piece) × (rest : List Character) × (bytes_of rest ≡ bytes_of left) × CutsTo state others other rest
unfolding CutsTo
cut-alike state [] text left other e cut = ([], other, e ∙ ap bytes_of cut, refl)
cut-alike state (p ∷ pieces) text left other e cut =
    let here = piece-alike (allows_header state) state p cut.0 other (e ∙ ap bytes_of cut.1) cut.2 in
    let more = cut-alike (state_behind state p) pieces cut.0 left here.left here.left_bytes cut.3 in
    (here.piece ∷ more.0, more.1, more.2, (here.left, here.is, here.is_piece, subst (λ s. CutsTo s more.0 here.left more.1) (sym here.behind) more.3))

-- WHAT STANDS BEHIND A PIECE

-- what is cut behind a piece that stands in front
behind-piece : (state : State) (p : Piece) (pieces : List Piece) (rest left : List Character) → IsPiece (allows_header state) p rest → (characters_of p ++ rest ≡ left → ⊥) → CutsTo state pieces (characters_of p ++ rest) left
    → (others : List Piece) × CutsTo (state_behind state p) others rest left
unfolding CutsTo
behind-piece state p [] rest left is stuck cut = absurd (stuck cut)
behind-piece state p (q ∷ pieces) rest left is stuck cut =
    let same = one_piece (allows_header state) p q rest cut.0 is cut.2 cut.1 in
    (pieces, subst (λ (r : Piece). CutsTo (state_behind state r) pieces rest left) (sym same.0) (subst (λ (t : List Character). CutsTo (state_behind state q) pieces t left) (sym same.1) cut.3))

-- nothing is left where a text ends
token-some : (kind : PpKind) (c : Character) (spelling rest : List Character) → characters_of (token kind (c ∷ spelling)) ++ rest ≡ [] → ⊥
token-some kind c spelling rest e = cc

blank-some : (c : Character) (rest : List Character) → characters_of (blank c) ++ rest ≡ [] → ⊥
blank-some c rest e = cc

-- no comment opens at a token or a blank
token-closed : (header : Bool) (kind : PpKind) (spelling rest left : List Character) → IsPiece header (token kind spelling) rest → IsOpen (bytes_of left) → spelling ++ rest ≡ left → ⊥
token-closed header kind spelling rest left is open' same =
    true≢false (sym open'.0 ∙ ap (λ (t : List Character). opens_block (bytes_of t)) (sym same) ∙ ap opens_block (map-append (λ (c : Character). c.byte) spelling rest) ∙ is.no_block)

space-closed : (c : Character) (rest left : List Character) → c.byte ≡ 32 → IsOpen (bytes_of left) → c ∷ rest ≡ left → ⊥
unfolding opens_block behind
space-closed c rest left is open' same = true≢false (sym open'.0 ∙ ap (λ (t : List Character). opens_block (bytes_of t)) (sym same) ∙ ap (λ byte. behind (λ b. eqb b 47) (behind (λ b. eqb b 42) (λ others. true)) (byte ∷ bytes_of rest)) is)

-- TEXTS OF BYTES

abbrev chr : ℕ → Character
chr byte = record { byte = byte; at = 0; width = 0 }

abbrev text_of : List ℕ → List Character
text_of bytes = map chr bytes

bytes-back : (bytes : List ℕ) → bytes_of (text_of bytes) ≡ bytes
bytes-back [] = refl
bytes-back (byte ∷ bytes) = ap (λ others. byte ∷ others) (bytes-back bytes)

pub bytes-at : (at : ℕ) (bytes : List ℕ) (end : Character) → end.byte ≡ newline → bytes_of (characters_at at bytes ++ end ∷ []) ≡ bytes ++ newline ∷ []
unfolding characters_at
bytes-at at [] end e = ap (λ byte. byte ∷ []) e
bytes-at at (byte ∷ bytes) end e = ap (λ others. byte ∷ others) (bytes-at (at + 1) bytes end e)

space-ends : EndsWord 32
unfolding is_word is_nondigit is_digit
space-ends = record { no_word = refl; no_apostrophe = refl; no_quotation = refl; no_eight = refl }

newline-ends : EndsWord newline
unfolding is_word is_nondigit is_digit
newline-ends = record { no_word = refl; no_apostrophe = refl; no_quotation = refl; no_eight = refl }

-- a word before a byte that ends it is a token in a text
word-piece : (name : List ℕ) (byte : ℕ) (rest : List ℕ) → is_identifier name ≡ true → EndsWord byte → IsPiece false (token Identifier (text_of name)) (text_of (byte ∷ rest))
word-piece name byte rest is ends =
    subst (λ bytes. IsToken false Identifier bytes (bytes_of (text_of (byte ∷ rest)))) (sym (bytes-back name)) (subst (λ bytes. IsToken false Identifier name bytes) (sym (bytes-back (byte ∷ rest))) (word-token name byte rest is ends))

space-piece : (header : Bool) (rest : List Character) → IsPiece header (blank (chr 32)) rest
unfolding is_blank
space-piece header rest = refl

-- a name is no hash
name-line : (name : List ℕ) → is_identifier name ≡ true → line_behind Start name ≡ Other
unfolding line_behind is_identifier behind is_nondigit
name-line [] is = absurd (true≢false (sym is))
name-line (a ∷ more) is = by (eqb a 35) (eqb a 37) (nondigit-apart a 35 (both-true _ _ is).0 refl) (nondigit-apart a 37 (both-true _ _ is).0 refl)
  where
    by : (h p : Bool) → h ≡ false → p ≡ false → cond ((h && bytes_eq more []) || (p && bytes_eq more (58 ∷ []))) Hash Other ≡ Other
    by true p e f = absurd (true≢false e)
    by false true e f = absurd (true≢false f)
    by false false e f = refl

abbrev inside_line : State
inside_line = record { line = Other; blank = true }

-- ---- a name and a blank

-- what is cut behind a name and a blank
behind-name : (name rest : List ℕ) (pieces : List Piece) (left : List Character) → is_identifier name ≡ true → IsOpen (bytes_of left) → CutsTo first_state pieces (text_of name ++ text_of (32 ∷ rest)) left
    → (others : List Piece) × CutsTo inside_line others (text_of rest) left
unfolding state_behind
behind-name name rest pieces left is open' cut =
    let word = word-piece name 32 rest is space-ends in
    let first = behind-piece first_state (token Identifier (text_of name)) pieces (text_of (32 ∷ rest)) left word (token-closed false Identifier (text_of name) (text_of (32 ∷ rest)) left word open') cut in
    let line : state_behind first_state (token Identifier (text_of name)) ≡ record { line = Other; blank = false } =
    ap (λ bytes. record { line = line_behind Start bytes; blank = false }) (bytes-back name) ∙ ap (λ line. record { line = line; blank = false }) (name-line name is) in
    behind-piece (record { line = Other; blank = false }) (blank (chr 32)) first.0 (text_of rest) left (space-piece false (text_of rest)) (space-closed (chr 32) (text_of rest) left refl open')
    (subst (λ state. CutsTo state first.0 (text_of (32 ∷ rest)) left) line first.1)

-- ---- `#define N `

hash-over : (r : List ℕ) → kind_of false (35 ∷ 100 ∷ r) ≡ None
unfolding kind_of is_identifier is_number is_character is_literal is_plain_character is_plain_literal behind is_nondigit is_digit is_word is_prefix punctuator_of punctuator_rows
hash-over r = by (eqb (length (35 ∷ 100 ∷ r)) 1) refl
  where
    by : (t : Bool) → eqb (length (35 ∷ 100 ∷ r)) 1 ≡ t → cond t (Some Stray) None ≡ None
    by true e = let same = eqb-true (length (35 ∷ 100 ∷ r)) 1 e in absurd (omega (arith, same))
    by false e = refl

hash-kind : (row : ℕ) × (kind_of false (35 ∷ []) ≡ Some (Punctuator row))
unfolding kind_of is_identifier is_number is_character is_literal is_plain_character is_plain_literal behind is_nondigit is_digit is_word is_prefix punctuator_of punctuator_rows
hash-kind = (_, refl)

hash-token : (r : List ℕ) → IsToken false (Punctuator hash-kind.0) (35 ∷ []) (100 ∷ r)
unfolding opens_blank opens_block opens_line behind is_blank
hash-token r = record { kind_is = hash-kind.1; longest = λ n inside some. at n some; no_blank = refl; no_block = refl; no_line = refl }
  where
    at : (n : ℕ) → is_some (kind_of false (take n (35 ∷ 100 ∷ r))) ≡ true → n ≤ 1
    at zero some = omega arith
    at (suc zero) some = omega arith
    at (suc (suc n)) some = absurd (true≢false (sym some ∙ ap is_some (hash-over (take n r))))

-- what is cut behind `#define N `
behind-define : (rest : List ℕ) (pieces : List Piece) → CutsTo first_state pieces (text_of (codes "#define N " ++ rest)) [] → (others : List Piece) × CutsTo inside_line others (text_of rest) []
unfolding state_behind line_behind is_identifier behind is_nondigit is_word is_digit
behind-define rest pieces cut =
    let hash : IsPiece false (token (Punctuator hash-kind.0) (chr 35 ∷ [])) (text_of (codes "define N " ++ rest)) = hash-token (bytes_of (text_of (codes "efine N " ++ rest))) in
    let first = behind-piece first_state (token (Punctuator hash-kind.0) (chr 35 ∷ [])) pieces (text_of (codes "define N " ++ rest)) [] hash (token-some (Punctuator hash-kind.0) (chr 35) [] (text_of (codes "define N " ++ rest))) cut in
    let second = behind-piece (record { line = Hash; blank = false }) (token Identifier (text_of (codes "define"))) first.0 (text_of (codes " N " ++ rest)) [] (word-piece (codes "define") 32 (codes "N " ++ rest) refl space-ends)
    (token-some Identifier (chr 100) (text_of (codes "efine")) (text_of (codes " N " ++ rest))) first.1 in
    let third = behind-piece (record { line = Other; blank = false }) (blank (chr 32)) second.0 (text_of (codes "N " ++ rest)) [] (space-piece false (text_of (codes "N " ++ rest))) (blank-some (chr 32) (text_of (codes "N " ++ rest))) second.1 in
    let fourth = behind-piece inside_line (token Identifier (text_of (codes "N"))) third.0 (text_of (codes " " ++ rest)) [] (word-piece (codes "N") 32 rest refl space-ends) (token-some Identifier (chr 78) [] (text_of (codes " " ++ rest))) third.1 in
    behind-piece (record { line = Other; blank = false }) (blank (chr 32)) fourth.0 (text_of rest) [] (space-piece false (text_of rest)) (blank-some (chr 32) (text_of rest)) fourth.1

-- ---- texts without an open comment

no-characters : (text : List Character) → bytes_of text ≡ [] → text ≡ []
no-characters [] e = refl
no-characters (c ∷ text) e = absurd (cc)

-- where the line with another name has a cut, the text of a name, a blank and the body has no open comment
pub closed-with-body : (name body : List ℕ) (text line : List Character) (pieces others : List Piece) (left : List Character) → is_identifier name ≡ true → bytes_of text ≡ name ++ 32 ∷ (body ++ newline ∷ [])
    → bytes_of line ≡ codes "#define N " ++ (body ++ newline ∷ []) → Cuts first_state others line → OpensAt first_state pieces text left → ⊥
closed-with-body name body text line pieces others left is text_is line_is cut opens =
    let all = body ++ newline ∷ [] in
    let mine = cut-alike first_state pieces text left (text_of (name ++ 32 ∷ all)) (bytes-back (name ++ 32 ∷ all) ∙ sym text_is) opens.0 in
    let still : IsOpen (bytes_of mine.1) = subst IsOpen (sym mine.2) opens.1 in
    let one = behind-name name all mine.0 mine.1 is still (subst (λ t. CutsTo first_state mine.0 t mine.1) (map-append chr name (32 ∷ all)) mine.3) in
    let its = cut-alike first_state others line [] (text_of (codes "#define N " ++ all)) (bytes-back (codes "#define N " ++ all) ∙ sym line_is) cut in
    let whole = behind-define all its.0 (subst (λ t. CutsTo first_state its.0 (text_of (codes "#define N " ++ all)) t) (no-characters its.1 its.2) its.3) in
    open_no_cut inside_line one.0 whole.0 (text_of all) mine.1 one.1 still whole.1

newline-piece : (header : Bool) → IsPiece header (blank (chr newline)) []
unfolding is_blank
newline-piece header = refl

whole-name : (name : List ℕ) → is_identifier name ≡ true → Cuts first_state (token Identifier (text_of name) ∷ blank (chr newline) ∷ []) (text_of name ++ text_of (newline ∷ []))
unfolding CutsTo
whole-name name is = (text_of (newline ∷ []), refl, word-piece name newline [] is newline-ends, ([], refl, newline-piece false, refl))

-- nor has that of a name alone
pub closed-alone : (name : List ℕ) (text : List Character) (pieces : List Piece) (left : List Character) → is_identifier name ≡ true → bytes_of text ≡ name ++ newline ∷ [] → OpensAt first_state pieces text left → ⊥
closed-alone name text pieces left is text_is opens =
    let mine = cut-alike first_state pieces text left (text_of (name ++ newline ∷ [])) (bytes-back (name ++ newline ∷ []) ∙ sym text_is) opens.0 in
    open_no_cut first_state mine.0 (token Identifier (text_of name) ∷ blank (chr newline) ∷ []) (text_of name ++ text_of (newline ∷ [])) mine.1
    (subst (λ t. CutsTo first_state mine.0 t mine.1) (map-append chr name (newline ∷ [])) mine.3) (subst IsOpen (sym mine.2) opens.1) (whole-name name is)
