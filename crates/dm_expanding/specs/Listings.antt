-- What `expand` puts out: a unit's tokens, in the lines in which they came about.
use Rattle.std.specs.Prelude.{◌≡◌, ◌≤◌, ℕ, Bool, ◌&&◌, ◌==◌, List, [], ◌∷◌, ◌++◌, codes, if◌then◌else◌}
use Rattle.dm_token.specs.declared.place.Place.{Place}
use Rattle.dm_token.specs.declared.token.Token.{Token}
use Rattle.dm_token.specs.declared.expansion.Expansion.{Expansion}
use Rattle.dm_expand.specs.Predefined.{name_of, root_of}

-- the place of a token's root: its own, or that of the name whose expansion it came out of first
abbrev pub root : List Expansion → Token → Place
root expansions token = root_of expansions token.trail token.pp.place

-- whether two places are in one line of a file
abbrev pub in_one_line : Place → Place → Bool
in_one_line a b = (a.file == b.file) && (a.line == b.line)

-- what stands between two tokens with these roots: a space in one line, and else a newline
abbrev pub gap : Place → Place → List ℕ
gap a b = if in_one_line a b then codes " " else codes "\n"

-- what stands behind a token with this root: a newline at the end, and else a gap and the next token
unfoldable pub listed_behind : List Expansion → Place → List Token → List ℕ
listed_behind expansions before [] = codes "\n"
listed_behind expansions before (token ∷ tokens) =
    gap before (root expansions token) ++ (token.pp.spelling ++ listed_behind expansions (root expansions token) tokens)

-- the tokens' spellings
unfoldable pub listing_of : List Expansion → List Token → List ℕ
listing_of expansions [] = []
listing_of expansions (token ∷ tokens) = token.pp.spelling ++ listed_behind expansions (root expansions token) tokens

-- Among these expansions those whose numbers are at least so great have the names that they have among all.
abbrev pub AgreesFrom : List Expansion → List Expansion → ℕ → Type 0
AgreesFrom all rest least = (instance : ℕ) (other : Place) → least ≤ instance → name_of instance rest other ≡ name_of instance all other
