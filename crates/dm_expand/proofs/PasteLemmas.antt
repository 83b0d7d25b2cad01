-- `##`, a piece at a time.
use Rattle.std.proofs.Common.{◌≡◌, Bool, List, [], ◌∷◌, ◌++◌, length, map, arith, refl, sym, ap, ◌∙◌, append_assoc, Result, Ok, Err}
use Rattle.dm_token.specs.declared.stop.Stop.{Stop}
use Rattle.dm_token.specs.declared.stop.Stop.TheVariants.{Memory, Refused, Limit, ReadFault}
use Rattle.dm_expand.specs.declared.paste.Piece as code_piece
use Rattle.dm_expand.specs.Items.{Item}
use Rattle.dm_expand.specs.Steps.{◌>>=◌}
use Rattle.dm_expand.specs.Pastes.{Site, Piece, token, placemarker, operator, joined, piece_before, pasted_behind, pasted, tokens_of}
use Rattle.dm_expand.specs.Views.{StopsAs, piece_value, tokens_left, tokens_behind, all_before}

-- a stop goes through
pub stops_through : {A B : Type 0} (first : Result A Stop) (whole : Result B Stop) (stop : Stop) → ((other : Stop) → first ≡ Err other → whole ≡ Err other) → StopsAs first stop → StopsAs whole stop
stops_through first whole Memory through stops = tt
stops_through first whole (Refused refusal) through stops = through (Refused refusal) stops
stops_through first whole (Limit limit) through stops = through (Limit limit) stops
stops_through first whole (ReadFault file) through stops = through (ReadFault file) stops

tokens_of-before : (piece : Piece) (pieces : List Piece) → tokens_of (piece ∷ pieces) ≡ tokens_of (piece ∷ []) ++ tokens_of pieces
unfolding tokens_of
tokens_of-before (token item) pieces = refl
tokens_of-before (placemarker blank) pieces = refl
tokens_of-before (operator item) pieces = refl

before-is : (piece : Piece) (r : Result (List Piece) Stop) → (piece_before piece r >>= λ joined. Ok (tokens_of joined)) ≡ all_before (tokens_of (piece ∷ [])) (r >>= λ joined. Ok (tokens_of joined))
unfolding piece_before
before-is piece (Ok others) = ap Ok (tokens_of-before piece others)
before-is piece (Err stop) = refl

pub behind-nothing : (site : Site) (left : Piece) → tokens_behind site left [] ≡ Ok (tokens_of (left ∷ []))
unfolding tokens_behind pasted_behind
behind-nothing site left = refl

pub behind-token : (site : Site) (left : Piece) (item : Item) (others : List Piece) → tokens_behind site left (token item ∷ others) ≡ all_before (tokens_of (left ∷ [])) (tokens_behind site (token item) others)
unfolding tokens_behind pasted_behind
behind-token site left item others = before-is left (pasted_behind site (token item) others)

pub behind-placemarker : (site : Site) (left : Piece) (blank : Bool) (others : List Piece) → tokens_behind site left (placemarker blank ∷ others) ≡ all_before (tokens_of (left ∷ [])) (tokens_behind site (placemarker blank) others)
unfolding tokens_behind pasted_behind
behind-placemarker site left blank others = before-is left (pasted_behind site (placemarker blank) others)

pub behind-operator : (site : Site) (left : Piece) (item : Item) → tokens_behind site left (operator item ∷ []) ≡ all_before (tokens_of (left ∷ [])) (tokens_behind site (operator item) [])
unfolding tokens_behind pasted_behind
behind-operator site left item = ap Ok (tokens_of-before left (operator item ∷ []))

pub behind-join : (site : Site) (left : Piece) (item : Item) (right both : Piece) (others : List Piece) → joined site left right ≡ Ok both → tokens_behind site left (operator item ∷ right ∷ others) ≡ tokens_behind site both others
unfolding tokens_behind pasted_behind
behind-join site left item right both others is = ap (λ r. (r >>= λ b. pasted_behind site b others) >>= λ joined. Ok (tokens_of joined)) is

pub behind-join-stops : (site : Site) (left : Piece) (item : Item) (right : Piece) (others : List Piece) (stop : Stop) → joined site left right ≡ Err stop → tokens_behind site left (operator item ∷ right ∷ others) ≡ Err stop
unfolding tokens_behind pasted_behind
behind-join-stops site left item right others stop is = ap (λ r. (r >>= λ b. pasted_behind site b others) >>= λ joined. Ok (tokens_of joined)) is

pub left-nothing : (site : Site) → tokens_left site [] ≡ Ok []
unfolding tokens_left pasted tokens_of
left-nothing site = refl

pub left-first : (site : Site) (piece : Piece) (pieces : List Piece) → tokens_left site (piece ∷ pieces) ≡ tokens_behind site piece pieces
unfolding tokens_left tokens_behind pasted
left-first site piece pieces = refl

pub all_before-append : (done more : List Item) (r : Result (List Item) Stop) → all_before done (all_before more r) ≡ all_before (done ++ more) r
all_before-append done more (Ok others) = ap Ok (sym (append_assoc done more others))
all_before-append done more (Err stop) = refl

pub all_before-nothing : (r : Result (List Item) Stop) → all_before [] r ≡ r
all_before-nothing (Ok others) = refl
all_before-nothing (Err stop) = refl

pub no_pieces : (pieces : List code_piece.Piece) → length pieces ≡ 0 → map piece_value pieces ≡ []
no_pieces [] none = refl
no_pieces (piece ∷ pieces) none = absurd (omega arith)

-- tokens alone stay as they are
tokens-behind : (site : Site) (item : Item) (items : List Item) → tokens_behind site (token item) (map token items) ≡ Ok (item ∷ items)
unfolding tokens_of
tokens-behind site item [] = behind-nothing site (token item)
tokens-behind site item (next ∷ items) = behind-token site (token item) next (map token items) ∙ ap (all_before (item ∷ [])) (tokens-behind site next items)

pub left-tokens : (site : Site) (items : List Item) → tokens_left site (map token items) ≡ Ok items
left-tokens site [] = left-nothing site
left-tokens site (item ∷ items) = left-first site (token item) (map token items) ∙ tokens-behind site item items
