-- The operator `##` (6.10.3.3), on what the other rules have left in a replacement list.
use Rattle.std.specs.Prelude.{ℕ, Bool, false, List, [], ◌∷◌, ◌++◌, Option, Some, None, Result, Ok, Err}
use Rattle.dm_lex.specs.Classes.{class_of}
use Rattle.dm_token.specs.Refusals as refusals
use Rattle.dm_token.specs.declared.token.PpKind.{PpKind}
use Rattle.dm_token.specs.declared.stop.Stop.{Stop}
use Rattle.dm_token.specs.declared.expansion.Mark.{Mark}
use Rattle.std.specs.FinSet as set
use Rattle.dm_expand.specs.HideSets.{HiddenNumbers}
use Rattle.dm_macro.specs.Forms.{refused}
use Rattle.dm_expand.specs.Items.{Item}
use Rattle.dm_expand.specs.Trails.{body_trail}
use Rattle.dm_expand.specs.Steps.{◌>>=◌}

-- One expansion: the macro's name, the mark that its tokens get, and the arguments.
pub record Site : Type 0 where
  pub name : Item
  pub mark : Mark
  pub arguments : List (List Item)

-- A piece of a replacement list: a token, a placemarker with whether its parameter has a blank before it, or a `##`
-- of the list.
pub data Piece : Type 0 where
  token : Item → Piece
  placemarker : Bool → Piece
  operator : Item → Piece

-- a token that `#` or `##` makes: it has the place of the name whose expansion makes it
unfoldable pub made : Site → PpKind → List ℕ → Bool → HiddenNumbers → Item
made site kind spelling blank hidden =
    record {
      pp = record { kind = kind; spelling = spelling; place = site.name.pp.place; end = site.name.pp.end; blank_before = blank; line_first = false };
      hidden = hidden;
      trail = body_trail site.name.trail site.mark;
    }

-- the refusal of two tokens that don't make one, at the name of the expansion
unfoldable pub no_token : Site → Stop
no_token site = refused refusals.paste site.name.pp.place

-- two tokens joined to one of some kind: hidden for it is what is hidden for both
unfoldable pub joined_as : Site → Item → Item → Option PpKind → Result Piece Stop
joined_as site left right (Some kind) =
    Ok (token (made site kind (left.pp.spelling ++ right.pp.spelling) left.pp.blank_before (set.intersection left.hidden right.hidden)))
joined_as site left right None = Err (no_token site)

-- two tokens joined; what isn't one token is refused as 10
unfoldable pub joined_tokens : Site → Item → Item → Result Piece Stop
joined_tokens site left right = joined_as site left right (class_of (left.pp.spelling ++ right.pp.spelling))

-- what `##` makes of a token and its right operand; a `##` that is an operand is a token
unfoldable pub joined_with : Site → Item → Piece → Result Piece Stop
joined_with site left (placemarker blank) = Ok (token (made site left.pp.kind left.pp.spelling left.pp.blank_before left.hidden))
joined_with site left (token right) = joined_tokens site left right
joined_with site left (operator right) = joined_tokens site left right

-- what `##` makes of its operands: a placemarker gives way to the other one, and keeps only its blank
unfoldable pub joined : Site → Piece → Piece → Result Piece Stop
joined site (placemarker blank) (placemarker other) = Ok (placemarker blank)
joined site (placemarker blank) (token right) = Ok (token (made site right.pp.kind right.pp.spelling blank right.hidden))
joined site (placemarker blank) (operator right) = Ok (token (made site right.pp.kind right.pp.spelling blank right.hidden))
joined site (token left) right = joined_with site left right
joined site (operator left) right = joined_with site left right

-- a piece before others
unfoldable pub piece_before : Piece → Result (List Piece) Stop → Result (List Piece) Stop
piece_before piece (Ok others) = Ok (piece ∷ others)
piece_before piece (Err stop) = Err stop

-- each `##` is done, from the left: it joins what stands before it with what stands behind it
unfoldable pub pasted_behind : Site → Piece → List Piece → Result (List Piece) Stop
pasted_behind site left [] = Ok (left ∷ [])
pasted_behind site left (token right ∷ others) = piece_before left (pasted_behind site (token right) others)
pasted_behind site left (placemarker blank ∷ others) = piece_before left (pasted_behind site (placemarker blank) others)
pasted_behind site left (operator paste ∷ []) = Ok (left ∷ operator paste ∷ [])
pasted_behind site left (operator paste ∷ right ∷ others) = do
  both ← joined site left right
  pasted_behind site both others

unfoldable pub pasted : Site → List Piece → Result (List Piece) Stop
pasted site [] = Ok []
pasted site (piece ∷ others) = pasted_behind site piece others

-- the tokens, when placemarkers are gone (6.10.3.3p3)
unfoldable pub tokens_of : List Piece → List Item
tokens_of [] = []
tokens_of (token item ∷ others) = item ∷ tokens_of others
tokens_of (placemarker blank ∷ others) = tokens_of others
tokens_of (operator item ∷ others) = item ∷ tokens_of others
