-- A text has at most one cut.
use Rattle.std.proofs.Common.{◌≡◌, ℕ, suc, ◌<◌, ◌≤◌, Bool, true, false, cond, ◌&&◌, not, eqb, List, [], ◌∷◌, ◌++◌, length, take, refl, ap, sym, ◌∙◌, subst, arith, inl, inr, Some, None, length-append, ◌⊎◌}
use Rattle.std.specs.Prelude.{is_some}
use Rattle.std.specs.List.{list_all}
use Rattle.std.proofs.lemmas.List.{map-append, length-map}
use Rattle.std.proofs.lemmas.Bool.{cond-true, false≢true, eqb-true, and_parts, and_from, or_cases}
use Rattle.dm_token.specs.declared.token.PpKind.{PpKind}
use Rattle.dm_token.specs.Places.{newline}
use Rattle.dm_phase.specs.declared.Character.{Character}
use Rattle.dm_lex.specs.declared.state.State.{State}
use Rattle.dm_lex.specs.Classes.{slash, asterisk, behind, kind_of}
use Rattle.dm_lex.specs.Cuts.{Piece, token, blank, comment, characters_of, bytes_of, is_blank, is_within_line, ends_comment, is_block_comment, is_line_comment, is_line_end, is_comment, opens_blank, opens_block, opens_line, IsToken, IsPiece, allows_header, state_behind, CutsTo, IsOpen}
use Rattle.dm_lex.specs.Reach.{closing_comment, run, IsExact}
use Rattle.dm_lex.proofs.ReachLemmas.{closing_comment-exact}
use Rattle.dm_lex.proofs.KindLemmas.{kind_of-empty}

-- fronts of one length
same_front : {A : Type 0} (xs ys us vs : List A) → length xs ≡ length ys → xs ++ us ≡ ys ++ vs → (xs ≡ ys) × (us ≡ vs)
same_front [] [] us vs size same = (refl, same)
same_front [] (y ∷ ys) us vs size same = absurd (omega arith)
same_front (x ∷ xs) [] us vs size same = absurd (omega arith)
same_front {A} (x ∷ xs) (y ∷ ys) us vs size same =
    let head : x ≡ y = cc in
    let tail : xs ++ us ≡ ys ++ vs = cc in
    let rest : (xs ≡ ys) × (us ≡ vs) = same_front xs ys us vs (omega arith) tail in
    (ap (λ (z : A). z ∷ xs) head ∙ ap (λ (zs : List A). y ∷ zs) rest.0, rest.1)

take-front : (xs ys : List ℕ) → take (length xs) (xs ++ ys) ≡ xs
take-front [] [] = refl
take-front [] (y ∷ ys) = refl
take-front (x ∷ xs) ys = ap (λ zs. x ∷ zs) (take-front xs ys)

-- the run up to a line's end
run-front : (body rest : List ℕ) → list_all is_within_line body ≡ true → is_line_end rest ≡ true → run is_within_line (body ++ rest) ≡ length body
unfolding run is_within_line is_line_end
run-front [] [] within ends = refl
run-front [] (byte ∷ rest) within ends = rw ends refl
run-front (byte ∷ body) rest within ends =
    let parts : (not (eqb byte newline) ≡ true) × (list_all is_within_line body ≡ true) = and_parts _ _ within in
    cond-true _ _ _ parts.0 ∙ ap suc (run-front body rest parts.1 ends)

-- how long a comment at the front is
comment_size : List ℕ → ℕ
comment_size [] = 0
comment_size (a ∷ []) = 0
comment_size (a ∷ b ∷ text) = cond (eqb b asterisk) (suc (suc (closing_comment false text))) (suc (suc (run is_within_line text)))

-- a comment, taken apart
abbrev IsBlock : List ℕ → Type 0
IsBlock text = (body : List ℕ) × (text ≡ slash ∷ asterisk ∷ body) × (ends_comment false body ≡ true)

abbrev IsLine : List ℕ → List ℕ → Type 0
IsLine text rest = (body : List ℕ) × (text ≡ slash ∷ slash ∷ body) × (list_all is_within_line body ≡ true) × (is_line_end rest ≡ true)

heads : (a b c d : ℕ) (text : List ℕ) → eqb a c ≡ true → eqb b d ≡ true → a ∷ b ∷ text ≡ c ∷ d ∷ text
heads a b c d text first second = ap (λ x. x ∷ b ∷ text) (eqb-true a c first) ∙ ap (λ y. c ∷ y ∷ text) (eqb-true b d second)

comment_parts : (text rest : List ℕ) → is_comment text rest ≡ true → IsBlock text ⊎ IsLine text rest
unfolding is_comment is_block_comment is_line_comment behind
comment_parts [] rest is = absurd (false≢true is)
comment_parts (a ∷ []) rest is =
    elim (or_cases (eqb a slash && false) (eqb a slash && false && is_line_end rest) is) [
      | inl block ↦ absurd (false≢true (and_parts (eqb a slash) false block).1)
      | inr line ↦ absurd (false≢true (and_parts (eqb a slash) false (and_parts (eqb a slash && false) (is_line_end rest) line).0).1)
    ]
comment_parts (a ∷ b ∷ text) rest is =
    elim (or_cases (eqb a slash && (eqb b asterisk && ends_comment false text)) (eqb a slash && (eqb b slash && list_all is_within_line text) && is_line_end rest) is) [
      | inl block ↦
          let one = and_parts (eqb a slash) (eqb b asterisk && ends_comment false text) block in
          let two = and_parts (eqb b asterisk) (ends_comment false text) one.1 in
          inl (text, heads a b slash asterisk text one.0 two.0, two.1)
      | inr line ↦
          let all = and_parts (eqb a slash && (eqb b slash && list_all is_within_line text)) (is_line_end rest) line in
          let one = and_parts (eqb a slash) (eqb b slash && list_all is_within_line text) all.0 in
          let two = and_parts (eqb b slash) (list_all is_within_line text) one.1 in
          inr (text, heads a b slash slash text one.0 two.0, two.1, all.1)
    ]

block_size : (body rest : List ℕ) → ends_comment false body ≡ true → length body ≡ closing_comment false (body ++ rest)
block_size body rest ends =
    let exact : IsExact (ends_comment false) (body ++ rest) (closing_comment false (body ++ rest)) = closing_comment-exact false (body ++ rest) in
    let only : (length body ≡ closing_comment false (body ++ rest)) × (0 < length body) =
    exact.only (length body) (omega (arith, length-append body rest)) (ap (ends_comment false) (take-front body rest) ∙ ends) in
    only.0

comment_size-block : (body rest : List ℕ) → ends_comment false body ≡ true → length (slash ∷ asterisk ∷ body) ≡ comment_size (slash ∷ asterisk ∷ body ++ rest)
unfolding comment_size
comment_size-block body rest ends = ap (λ n. suc (suc n)) (block_size body rest ends)

comment_size-line : (body rest : List ℕ) → list_all is_within_line body ≡ true → is_line_end rest ≡ true → length (slash ∷ slash ∷ body) ≡ comment_size (slash ∷ slash ∷ body ++ rest)
unfolding comment_size
comment_size-line body rest within ends = ap (λ n. suc (suc n)) (sym (run-front body rest within ends))

comment_size-is : (text rest : List ℕ) → is_comment text rest ≡ true → length text ≡ comment_size (text ++ rest)
comment_size-is text rest is =
    elim (comment_parts text rest is) [
      | inl block ↦ subst (λ (t : List ℕ). length t ≡ comment_size (t ++ rest)) (sym block.1) (comment_size-block block.0 rest block.2)
      | inr line ↦ subst (λ (t : List ℕ). length t ≡ comment_size (t ++ rest)) (sym line.1) (comment_size-line line.0 rest line.2 line.3)
    ]

-- a comment begins with `/*` or `//`, and not with a blank
opens_block-so : (text : List ℕ) → opens_block (slash ∷ asterisk ∷ text) ≡ true
unfolding opens_block behind
opens_block-so text = refl

opens_line-so : (text : List ℕ) → opens_line (slash ∷ slash ∷ text) ≡ true
unfolding opens_line behind
opens_line-so text = refl

comment_opens : (text rest : List ℕ) → is_comment text rest ≡ true → (opens_block (text ++ rest) ≡ true) ⊎ (opens_line (text ++ rest) ≡ true)
comment_opens text rest is =
    elim (comment_parts text rest is) [
      | inl block ↦ inl (subst (λ (t : List ℕ). opens_block (t ++ rest) ≡ true) (sym block.1) (opens_block-so (block.0 ++ rest)))
      | inr line ↦ inr (subst (λ (t : List ℕ). opens_line (t ++ rest) ≡ true) (sym line.1) (opens_line-so (line.0 ++ rest)))
    ]

slash_no_blank : (text : List ℕ) → opens_blank (slash ∷ text) ≡ false
unfolding opens_blank behind is_blank
slash_no_blank text = refl

comment_no_blank : (text rest : List ℕ) → is_comment text rest ≡ true → opens_blank (text ++ rest) ≡ false
comment_no_blank text rest is =
    elim (comment_parts text rest is) [
      | inl block ↦ subst (λ (t : List ℕ). opens_blank (t ++ rest) ≡ false) (sym block.1) (slash_no_blank (asterisk ∷ block.0 ++ rest))
      | inr line ↦ subst (λ (t : List ℕ). opens_blank (t ++ rest) ≡ false) (sym line.1) (slash_no_blank (slash ∷ line.0 ++ rest))
    ]

blank_opens : (byte : ℕ) (rest : List ℕ) → is_blank byte ≡ true → opens_blank (byte ∷ rest) ≡ true
unfolding opens_blank behind
blank_opens byte rest is = and_from _ _ is refl

-- the bytes of a text that begins with two pieces
bytes-split : (xs us ys vs : List Character) → xs ++ us ≡ ys ++ vs → bytes_of xs ++ bytes_of us ≡ bytes_of ys ++ bytes_of vs
bytes-split xs us ys vs same =
    sym (map-append (λ (c : Character). c.byte) xs us) ∙ (ap bytes_of same ∙ map-append (λ (c : Character). c.byte) ys vs)

-- no token is longer than another
token-shorter : (header : Bool) (kind other : PpKind) (xs us ys vs : List ℕ) → IsToken header kind xs us → IsToken header other ys vs → xs ++ us ≡ ys ++ vs → length ys ≤ length xs
token-shorter header kind other xs us ys vs is is' same =
    let front : take (length ys) (xs ++ us) ≡ ys = ap (take (length ys)) same ∙ take-front ys vs in
    is.longest (length ys) (omega (arith, ap length same, length-append ys vs))
    (ap (λ s. is_some (kind_of header s)) front ∙ ap is_some is'.kind_is)

some_same : (a b : PpKind) → Some a ≡ Some b → a ≡ b
some_same a b same = cc

length-bytes : (text : List Character) → length (bytes_of text) ≡ length text
length-bytes text = length-map text (λ (c : Character). c.byte)

tokens_same : (header : Bool) (kind other : PpKind) (xs us ys vs : List Character) → IsPiece header (token kind xs) us → IsPiece header (token other ys) vs → xs ++ us ≡ ys ++ vs →
    (token kind xs ≡ token other ys) × (us ≡ vs)
tokens_same header kind other xs us ys vs is is' same =
    let split = bytes-split xs us ys vs same in
    let size : length xs ≡ length ys = omega (
      arith,
      token-shorter header kind other (bytes_of xs) (bytes_of us) (bytes_of ys) (bytes_of vs) is is' split,
      token-shorter header other kind (bytes_of ys) (bytes_of vs) (bytes_of xs) (bytes_of us) is' is (sym split),
      length-bytes xs,
      length-bytes ys,
    ) in
    let fronts : (xs ≡ ys) × (us ≡ vs) = same_front xs ys us vs size same in
    let kinds : kind ≡ other = some_same kind other (sym is.kind_is ∙ (ap (λ (t : List Character). kind_of header (bytes_of t)) fronts.0 ∙ is'.kind_is)) in
    (ap (λ (k : PpKind). token k xs) kinds ∙ ap (token other) fronts.0, fronts.1)

comments_same : (header : Bool) (xs us ys vs : List Character) → IsPiece header (comment xs) us → IsPiece header (comment ys) vs → xs ++ us ≡ ys ++ vs →
    (comment xs ≡ comment ys) × (us ≡ vs)
comments_same header xs us ys vs is is' same =
    let size : length xs ≡ length ys =
    sym (length-bytes xs) ∙ (comment_size-is (bytes_of xs) (bytes_of us) is ∙ (ap comment_size (bytes-split xs us ys vs same)
    ∙ (sym (comment_size-is (bytes_of ys) (bytes_of vs) is') ∙ length-bytes ys))) in
    let fronts : (xs ≡ ys) × (us ≡ vs) = same_front xs ys us vs size same in
    (ap comment fronts.0, fronts.1)

-- a token is no blank and no comment, and a blank is no comment
token_no_blank : (header : Bool) (kind : PpKind) (xs us vs : List Character) (c : Character) → IsPiece header (token kind xs) us → is_blank c.byte ≡ true → xs ++ us ≡ c ∷ vs → ⊥
token_no_blank header kind xs us vs c is blank_is same =
    false≢true (sym is.no_blank ∙ (ap opens_blank (bytes-split xs us (c ∷ []) vs same) ∙ blank_opens c.byte (bytes_of vs) blank_is))

token_no_comment : (header : Bool) (kind : PpKind) (xs us ys vs : List Character) → IsPiece header (token kind xs) us → is_comment (bytes_of ys) (bytes_of vs) ≡ true → xs ++ us ≡ ys ++ vs → ⊥
token_no_comment header kind xs us ys vs is is' same =
    let split = bytes-split xs us ys vs same in
    elim (comment_opens (bytes_of ys) (bytes_of vs) is') [
      | inl block ↦ false≢true (sym is.no_block ∙ (ap opens_block split ∙ block))
      | inr line ↦ false≢true (sym is.no_line ∙ (ap opens_line split ∙ line))
    ]

blank_no_comment : (xs us vs : List Character) (c : Character) → is_comment (bytes_of xs) (bytes_of us) ≡ true → is_blank c.byte ≡ true → xs ++ us ≡ c ∷ vs → ⊥
blank_no_comment xs us vs c is blank_is same =
    false≢true (sym (comment_no_blank (bytes_of xs) (bytes_of us) is) ∙ (ap opens_blank (bytes-split xs us (c ∷ []) vs same) ∙ blank_opens c.byte (bytes_of vs) blank_is))

-- at most one piece stands at the front of a text
pub one_piece : (header : Bool) (p q : Piece) (us vs : List Character) → IsPiece header p us → IsPiece header q vs → characters_of p ++ us ≡ characters_of q ++ vs → (p ≡ q) × (us ≡ vs)
one_piece header (token kind xs) (token other ys) us vs is is' same = tokens_same header kind other xs us ys vs is is' same
one_piece header (token kind xs) (blank d) us vs is is' same = absurd (token_no_blank header kind xs us vs d is is' same)
one_piece header (token kind xs) (comment ys) us vs is is' same = absurd (token_no_comment header kind xs us ys vs is is' same)
one_piece header (blank c) (token other ys) us vs is is' same = absurd (token_no_blank header other ys vs us c is' is (sym same))
one_piece header (blank c) (blank d) us vs is is' same =
    let head : c ≡ d = cc in
    let tail : us ≡ vs = cc in
    (ap blank head, tail)
one_piece header (blank c) (comment ys) us vs is is' same = absurd (blank_no_comment ys vs us c is' is (sym same))
one_piece header (comment xs) (token other ys) us vs is is' same = absurd (token_no_comment header other ys vs xs us is' is (sym same))
one_piece header (comment xs) (blank d) us vs is is' same = absurd (blank_no_comment xs us vs d is is' same)
one_piece header (comment xs) (comment ys) us vs is is' same = comments_same header xs us ys vs is is' same

-- no piece is empty
comment_empty : (rest : List ℕ) → is_comment [] rest ≡ false
unfolding is_comment is_block_comment is_line_comment behind
comment_empty rest = refl

none_no_some : (kind : PpKind) → None ≡ Some kind → ⊥
none_no_some kind e = cc

piece_some : (header : Bool) (p : Piece) (us : List Character) → IsPiece header p us → [] ≡ characters_of p ++ us → ⊥
piece_some header (token kind []) us is same = none_no_some kind (sym (kind_of-empty header) ∙ is.kind_is)
piece_some header (token kind (c ∷ xs)) us is same = cc
piece_some header (blank c) us is same = cc
piece_some header (comment []) us is same = false≢true (sym (comment_empty (bytes_of us)) ∙ is)
piece_some header (comment (c ∷ xs)) us is same = cc

block_no_blank : (text : List ℕ) → opens_block text ≡ true → opens_blank text ≡ false
unfolding opens_block behind
block_no_blank [] is = absurd (false≢true is)
block_no_blank (a ∷ text) is =
    let parts = and_parts (eqb a slash) (behind (λ byte. eqb byte asterisk) (λ others. true) text) is in
    subst (λ x. opens_blank (x ∷ text) ≡ false) (sym (eqb-true a slash parts.0)) (slash_no_blank text)

line_no_block : (body rest : List ℕ) → opens_block ((slash ∷ slash ∷ body) ++ rest) ≡ false
unfolding opens_block behind
line_no_block body rest = refl

block_so : (body : List ℕ) → ends_comment false body ≡ true → is_block_comment (slash ∷ asterisk ∷ body) ≡ true
unfolding is_block_comment behind
block_so body ends = ends

block_is : (text : List ℕ) → IsBlock text → is_block_comment text ≡ true
block_is text block = subst (λ (t : List ℕ). is_block_comment t ≡ true) (sym block.1) (block_so block.0 block.2)

-- what an open comment's text begins with is no piece
open_no_piece : (header : Bool) (p : Piece) (us text : List Character) → IsOpen (bytes_of text) → text ≡ characters_of p ++ us → IsPiece header p us → ⊥
open_no_piece header (token kind xs) us text open' same is =
    false≢true (sym is.no_block ∙ (sym (ap opens_block (ap bytes_of same ∙ map-append (λ (c : Character). c.byte) xs us)) ∙ open'.0))
open_no_piece header (blank c) us text open' same is =
    false≢true (sym (block_no_blank (bytes_of text) open'.0) ∙ (ap (λ (t : List Character). opens_blank (bytes_of t)) same ∙ blank_opens c.byte (bytes_of us) is))
open_no_piece header (comment xs) us text open' same is =
    let split : bytes_of text ≡ bytes_of xs ++ bytes_of us = ap bytes_of same ∙ map-append (λ (c : Character). c.byte) xs us in
    elim (comment_parts (bytes_of xs) (bytes_of us) is) [
      | inl block ↦
          false≢true (sym (open'.1 (length (bytes_of xs)) (omega (arith, ap length split, length-append (bytes_of xs) (bytes_of us))))
          ∙ (ap is_block_comment (ap (take (length (bytes_of xs))) split ∙ take-front (bytes_of xs) (bytes_of us)) ∙ block_is (bytes_of xs) block))
      | inr line ↦
          false≢true (sym (line_no_block line.0 (bytes_of us)) ∙ (sym (ap opens_block (split ∙ ap (λ (t : List ℕ). t ++ bytes_of us) line.1)) ∙ open'.0))
    ]

open_some : IsOpen (bytes_of []) → ⊥
unfolding opens_block behind
open_some open' = false≢true open'.0

-- two cuts up to the end are one
pub one_cut : (state : State) (ps qs : List Piece) (text : List Character) → CutsTo state ps text [] → CutsTo state qs text [] → ps ≡ qs
unfolding CutsTo
one_cut state [] [] text cut cut' = refl
one_cut state [] (q ∷ qs) text cut cut' = absurd (piece_some (allows_header state) q cut'.0 cut'.2 (sym cut ∙ cut'.1))
one_cut state (p ∷ ps) [] text cut cut' = absurd (piece_some (allows_header state) p cut.0 cut.2 (sym cut' ∙ cut.1))
one_cut state (p ∷ ps) (q ∷ qs) text cut cut' =
    let same : (p ≡ q) × (cut.0 ≡ cut'.0) = one_piece (allows_header state) p q cut.0 cut'.0 cut.2 cut'.2 (sym cut.1 ∙ cut'.1) in
    let moved : CutsTo (state_behind state p) qs cut.0 [] =
    subst (λ (r : Piece). CutsTo (state_behind state r) qs cut.0 []) (sym same.0) (subst (λ (t : List Character). CutsTo (state_behind state q) qs t []) (sym same.1) cut'.3) in
    ap (λ (r : Piece). r ∷ ps) same.0 ∙ ap (λ (rs : List Piece). q ∷ rs) (one_cut (state_behind state p) ps qs cut.0 cut.3 moved)

-- a text whose comment is open has no cut
pub open_no_cut : (state : State) (ps qs : List Piece) (text left : List Character) → CutsTo state ps text left → IsOpen (bytes_of left) → CutsTo state qs text [] → ⊥
unfolding CutsTo
open_no_cut state [] [] text left cut open' cut' = open_some (subst (λ (t : List Character). IsOpen (bytes_of t)) (sym cut ∙ cut') open')
open_no_cut state [] (q ∷ qs) text left cut open' cut' =
    open_no_piece (allows_header state) q cut'.0 left open' (sym cut ∙ cut'.1) cut'.2
open_no_cut state (p ∷ ps) [] text left cut open' cut' = piece_some (allows_header state) p cut.0 cut.2 (sym cut' ∙ cut.1)
open_no_cut state (p ∷ ps) (q ∷ qs) text left cut open' cut' =
    let same : (p ≡ q) × (cut.0 ≡ cut'.0) = one_piece (allows_header state) p q cut.0 cut'.0 cut.2 cut'.2 (sym cut.1 ∙ cut'.1) in
    let moved : CutsTo (state_behind state p) qs cut.0 [] =
    subst (λ (r : Piece). CutsTo (state_behind state r) qs cut.0 []) (sym same.0) (subst (λ (t : List Character). CutsTo (state_behind state q) qs t []) (sym same.1) cut'.3) in
    open_no_cut (state_behind state p) ps qs cut.0 left cut.3 open' moved

-- two cuts up to an open comment are one, and leave the same
pub open_same : (state : State) (ps qs : List Piece) (text left rest : List Character) → CutsTo state ps text left → IsOpen (bytes_of left) → CutsTo state qs text rest → IsOpen (bytes_of rest) →
    (ps ≡ qs) × (left ≡ rest)
unfolding CutsTo
open_same state [] [] text left rest cut open' cut' open'' = (refl, sym cut ∙ cut')
open_same state [] (q ∷ qs) text left rest cut open' cut' open'' =
    absurd (open_no_piece (allows_header state) q cut'.0 left open' (sym cut ∙ cut'.1) cut'.2)
open_same state (p ∷ ps) [] text left rest cut open' cut' open'' =
    absurd (open_no_piece (allows_header state) p cut.0 rest open'' (sym cut' ∙ cut.1) cut.2)
open_same state (p ∷ ps) (q ∷ qs) text left rest cut open' cut' open'' =
    let same : (p ≡ q) × (cut.0 ≡ cut'.0) = one_piece (allows_header state) p q cut.0 cut'.0 cut.2 cut'.2 (sym cut.1 ∙ cut'.1) in
    let moved : CutsTo (state_behind state p) qs cut.0 rest =
    subst (λ (r : Piece). CutsTo (state_behind state r) qs cut.0 rest) (sym same.0) (subst (λ (t : List Character). CutsTo (state_behind state q) qs t rest) (sym same.1) cut'.3) in
    let further : (ps ≡ qs) × (left ≡ rest) = open_same (state_behind state p) ps qs cut.0 left rest cut.3 open' moved open'' in
    (ap (λ (r : Piece). r ∷ ps) same.0 ∙ ap (λ (rs : List Piece). q ∷ rs) further.0, further.1)
