-- What the code's values and answers mean.
use Rattle.std.specs.Prelude.{◌≡◌, ◌≤◌, ◌||◌, ℕ, Bool, true, false, List, [], ◌∷◌, ◌++◌, map, Option, None, Some, Result, Ok, Err}
use Rattle.std.specs.List.{list_any}
use Rattle.dm_token.specs.declared.expansion.Expansion.{Expansion}
use Rattle.dm_token.specs.declared.expansion.Mark.{Mark}
use Rattle.dm_token.specs.declared.stop.Stop.{Stop}
use Rattle.dm_token.specs.declared.stop.Stop.TheVariants.{Memory, Refused, Limit, ReadFault}
use Rattle.dm_expand.specs.declared.arguments.Enclosed as code_enclosed
use Rattle.dm_expand.specs.declared.paste.Piece as code_piece
use Rattle.dm_expand.specs.declared.paste.Pieces as code_pieces
use Rattle.dm_expand.specs.declared.paste.Piece.TheVariants.{Token, Placemarker, Operator}
use Rattle.dm_expand.specs.Items.{Item}
use Rattle.dm_expand.specs.Trails.{marks_instance}
use Rattle.dm_expand.specs.Laws.{AreNumbered}
use Rattle.dm_expand.specs.Steps.{Progress, greatest_work, ◌>>=◌}
use Rattle.dm_expand.specs.Arguments.{Enclosed}
use Rattle.dm_expand.specs.Pastes.{Site, Piece, token, placemarker, operator, pasted, pasted_behind, tokens_of}

-- a stop is that of what was to be done; only want of memory is free
abbrev pub StopsAs : {A : Type 0} → Result A Stop → Stop → Type 0
StopsAs meaning Memory = Unit {0}
StopsAs meaning (Refused refusal) = meaning ≡ Err (Refused refusal)
StopsAs meaning (Limit limit) = meaning ≡ Err (Limit limit)
StopsAs meaning (ReadFault file) = meaning ≡ Err (ReadFault file)

-- the expansions are numbered from this number on
abbrev pub AreNumberedSo : ℕ → List Expansion → Type 0
AreNumberedSo first expansions = (next : ℕ) × AreNumbered first expansions next

-- an expansion is taken where it was before, or where a trail has its mark
abbrev pub taken_along : List Mark → Expansion → Expansion
taken_along trail made = record made { taken = made.taken || list_any (marks_instance made.instance) trail }

-- the work keeps its limit, and each expansion counts as work
pub record IsWithin (progress : Progress) : Type 0 where
  pub spent : progress.spent ≤ greatest_work
  pub instance : progress.instance ≤ progress.spent

-- what is enclosed, with what follows it
abbrev pub enclosed_value : List Item → code_enclosed.Enclosed → Enclosed
enclosed_value rest enclosed = record { inside = enclosed.inside; closing = enclosed.closing; rest = rest }

-- tokens more inside
abbrev pub all_inside : List Item → Option Enclosed → Option Enclosed
all_inside items None = None
all_inside items (Some enclosed) = Some (record enclosed { inside = items ++ enclosed.inside })

-- tokens more in the first argument
abbrev pub in_front : List Item → List (List Item) → List (List Item)
in_front items [] = items ∷ []
in_front items (argument ∷ arguments) = (items ++ argument) ∷ arguments

-- one argument, an empty one
abbrev pub is_one_empty : List (List Item) → Bool
is_one_empty [] = false
is_one_empty ([] ∷ []) = true
is_one_empty ([] ∷ other ∷ arguments) = false
is_one_empty ((item ∷ items) ∷ arguments) = false

-- a piece of a replacement list
abbrev pub piece_value : code_piece.Piece → Piece
piece_value (Token item) = token item
piece_value (Placemarker blank) = placemarker blank
piece_value (Operator item) = operator item

-- pieces of a replacement list
abbrev pub pieces_in : code_pieces.Pieces → List Piece
pieces_in pieces = map piece_value pieces.front.items ++ map token pieces.tokens.items

-- the tokens that are left when each `##` is done
unfoldable pub tokens_left : Site → List Piece → Result (List Item) Stop
tokens_left site pieces = pasted site pieces >>= λ joined. Ok (tokens_of joined)

-- the same behind a piece
unfoldable pub tokens_behind : Site → Piece → List Piece → Result (List Item) Stop
tokens_behind site left pieces = pasted_behind site left pieces >>= λ joined. Ok (tokens_of joined)

-- tokens before others
abbrev pub all_before : List Item → Result (List Item) Stop → Result (List Item) Stop
all_before items (Ok others) = Ok (items ++ others)
all_before items (Err stop) = Err stop
