-- The table of a list: the distance to the end from each of its tokens.
use Rattle.std.specs.Prelude.{ℕ, Bool, false, List, [], ◌∷◌, Option, map, slice_get}
use Rattle.std.specs.Option.{option_map_or}
use Rattle.dm_parentheses.specs.declared.sign.Sign.{Sign}
use Rattle.dm_parentheses.specs.declared.ends.Token.{Token}
use Rattle.dm_parentheses.specs.Parentheses.{closes, before_end}

-- for each token of a list, how many stand before the end from it on
unfoldable pub all_ends : List Sign → List (Option ℕ)
all_ends [] = []
all_ends (sign ∷ others) = before_end 0 (sign ∷ others) ∷ all_ends others

-- what the tokens of a table are
abbrev pub signs_of : List Token → List Sign
signs_of tokens = map (λ token. token.sign) tokens

-- the distances that a table has
abbrev pub distances_of : List Token → List (Option ℕ)
distances_of tokens = map (λ token. token.distance) tokens

-- whether a token of a list closes what a `(` opened
abbrev pub closes_at : List Sign → ℕ → Bool
closes_at signs index = option_map_or closes (slice_get signs index) false
