-- Substitution: what a macro's replacement list becomes in one expansion (6.10.3.1 to 6.10.3.3).
use Rattle.std.specs.Prelude.{ℕ, Bool, true, false, not, List, [], ◌∷◌, ◌++◌, map, length, slice_index_or, Result, Ok, if◌then◌else◌}
use Rattle.std.specs.List.{list_any}
use Rattle.dm_token.specs.declared.token.PpKind.TheVariants.{Literal}
use Rattle.dm_token.specs.declared.token.PpToken.{PpToken}
use Rattle.dm_token.specs.declared.stop.Stop.{Stop}
use Rattle.dm_token.specs.declared.expansion.Mark.TheVariants.{Argument}
use Rattle.std.specs.FinSet as set
use Rattle.dm_expand.specs.HideSets.{HiddenNumbers}
use Rattle.dm_expand.specs.Items.{Item, first_with_blank}
use Rattle.dm_expand.specs.Trails.{body_trail, argument_trail}
use Rattle.dm_expand.specs.Steps.{Progress, Output, ◌>>=◌, spend, take_argument}
use Rattle.dm_macro.specs.Bodies.{Part, plain, hash, beside, whole, paste}
use Rattle.dm_expand.specs.Strings.{quoted}
use Rattle.dm_expand.specs.Pastes.{Site, Piece, token, placemarker, operator, made, pasted, tokens_of}

-- how a list of tokens is expanded
abbrev pub Expander : Type 0
Expander = List Item → Progress → Result Output Stop

-- pieces of a replacement list, and what was done for them
pub record Filled : Type 0 where
  pub pieces : List Piece
  pub progress : Progress

-- the argument for a parameter
unfoldable pub argument_for : Site → ℕ → List Item
argument_for site parameter = slice_index_or site.arguments parameter []

-- a token of the replacement list itself
unfoldable pub body_item : Site → PpToken → Item
body_item site pp = record { pp = pp; hidden = set.empty; trail = body_trail site.name.trail site.mark }

-- an argument's token that came to one of its parameter's places
unfoldable pub argument_item : Site → ℕ → ℕ → Item → Item
argument_item site parameter occurrence item =
    record item { trail = argument_trail site.name.trail site.mark (Argument parameter occurrence) item.trail }

-- an argument's tokens in the place of a parameter: the first has a blank before it where the parameter has one
unfoldable pub placed : Site → PpToken → ℕ → ℕ → List Item → List Item
placed site pp parameter occurrence items =
    first_with_blank pp.blank_before (map (argument_item site parameter occurrence) items)

-- a parameter beside `##`: its argument as it is, or a placemarker where that is empty (6.10.3.3p2)
unfoldable pub operands : Bool → List Item → List Piece
operands blank [] = placemarker blank ∷ []
operands blank (item ∷ others) = map token (item ∷ others)

-- what one part of the replacement list becomes; the argument for a parameter that is beside neither `#` nor `##` is
-- completely expanded, as a list of its own (6.10.3.1p1)
unfoldable pub filled : Expander → Site → Part → Progress → Result Filled Stop
filled expander site (plain pp) progress = Ok (record { pieces = token (body_item site pp) ∷ []; progress = progress })
filled expander site (hash pp parameter) progress =
    Ok (record {
      pieces = token (made site Literal (quoted (argument_for site parameter)) pp.blank_before set.empty) ∷ [];
      progress = take_argument (argument_for site parameter) progress;
    })
filled expander site (beside pp parameter occurrence) progress =
    Ok (record {
      pieces = operands pp.blank_before (placed site pp parameter occurrence (argument_for site parameter));
      progress = take_argument (argument_for site parameter) progress;
    })
filled expander site (whole pp parameter occurrence) progress = do
  expanded ← expander (argument_for site parameter) progress
  Ok (record { pieces = map token (placed site pp parameter occurrence expanded.tokens); progress = expanded.progress })
filled expander site (paste pp) progress = Ok (record { pieces = operator (body_item site pp) ∷ []; progress = progress })

-- The parts one after another. Their tokens count as work when they are put out, unless `##` is still to come.
unfoldable pub filled_all : Expander → Site → Bool → List Part → Progress → Result Filled Stop
filled_all expander site counts [] progress = Ok (record { pieces = []; progress = progress })
filled_all expander site counts (part ∷ parts) progress = do
  first ← filled expander site part progress
  counted ← if counts then spend site.name.pp.place (length first.pieces) first.progress else Ok first.progress
  others ← filled_all expander site counts parts counted
  Ok (record { pieces = first.pieces ++ others.pieces; progress = others.progress })

-- whether a part is `##`
unfoldable pub is_operator : Part → Bool
is_operator (plain pp) = false
is_operator (hash pp parameter) = false
is_operator (beside pp parameter occurrence) = false
is_operator (whole pp parameter occurrence) = false
is_operator (paste pp) = true

-- a token that more names are hidden for
unfoldable pub hidden_besides : HiddenNumbers → Item → Item
hidden_besides hidden item = record item { hidden = set.union item.hidden hidden }

-- the hide set is added to each token of a replacement, and the first has a blank before it where the name has one
unfoldable pub finished : Site → HiddenNumbers → List Item → List Item
finished site hidden items = first_with_blank site.name.pp.blank_before (map (hidden_besides hidden) items)

-- The replacement in one expansion: the parts are filled, each `##` is done, and placemarkers go. With `##` in the list
-- the tokens count as work now.
unfoldable pub substituted : Expander → Site → HiddenNumbers → List Part → Progress → Result Output Stop
substituted expander site hidden parts progress = do
  pieces ← filled_all expander site (not (list_any is_operator parts)) parts progress
  joined ← pasted site pieces.pieces
  counted ← if list_any is_operator parts then spend site.name.pp.place (length (tokens_of joined)) pieces.progress else Ok pieces.progress
  Ok (record { tokens = finished site hidden (tokens_of joined); progress = counted })
