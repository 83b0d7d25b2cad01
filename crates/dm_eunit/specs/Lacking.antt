-- Names that are kept, and those that stand in the tokens.
--     IsSet names      the names are kept in one scope
--     has names name      the name is among them
--     is_spelled tokens name      a token has this spelling
use Rattle.std.specs.Prelude.{◌≡◌, ℕ, Bool, false, ◌||◌, List, [], ◌∷◌, is_some, bytes_eq}
use Rattle.dm_token.specs.declared.token.CToken.{CToken}
use Rattle.dm_scope.specs.Scopes.{Scopes, number_of}
use Rattle.dm_name_map.specs.Numbers.{Numbers}

abbrev pub IsSet : Scopes → Type 0
IsSet names = (scope : Numbers) × (names ≡ scope ∷ [])

abbrev pub has : Scopes → List ℕ → Bool
has names name = is_some (number_of names name)

abbrev pub is_spelled : List CToken → List ℕ → Bool
is_spelled [] name = false
is_spelled (token ∷ tokens) name = bytes_eq token.spelling name || is_spelled tokens name
