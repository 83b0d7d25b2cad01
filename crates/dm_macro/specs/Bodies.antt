-- The parts of a replacement list: its tokens, its parameters, and the operators `#` and `##` (6.10.3.1 to 6.10.3.3).
use Rattle.std.specs.Prelude.{ℕ, Bool, false, ◌||◌, ◌==◌, List, [], ◌∷◌, ◌++◌, count_by, bytes_eq, Option, Some, None, if◌then◌else◌}
use Rattle.std.specs.List.{position_from}
use Rattle.dm_token.specs.declared.token.PpToken.{PpToken}
use Rattle.dm_token.specs.declared.expansion.Definition.{Definition}
use Rattle.dm_macro.specs.Signs.{is_identifier, is_hash, is_hash_hash, variable_arguments}

-- A part of a replacement list. A parameter has its position and says which of its places in the list this is.
pub data Part : Type 0 where
  -- any other token
  plain : PpToken → Part
  -- `#` and the parameter behind it
  hash : PpToken → ℕ → Part
  -- a parameter beside `##`
  beside : PpToken → ℕ → ℕ → Part
  -- any other parameter
  whole : PpToken → ℕ → ℕ → Part
  -- `##`
  paste : PpToken → Part

-- the parameters that have names of their own
unfoldable pub named_parameters : Option (List (List ℕ)) → List (List ℕ)
named_parameters None = []
named_parameters (Some names) = names

-- parameters' names, `__VA_ARGS__` last where there are variable arguments (6.10.3.1p2)
abbrev pub names_with : List (List ℕ) → Bool → List (List ℕ)
names_with names variadic = names ++ (if variadic then variable_arguments ∷ [] else [])

-- the names of a macro's parameters
unfoldable pub parameters_of : Definition → List (List ℕ)
parameters_of definition = names_with (named_parameters definition.parameters) definition.variadic

-- the position of the parameter that a token names
unfoldable pub parameter_of : List (List ℕ) → PpToken → Option ℕ
parameter_of names token = if is_identifier token then position_from (bytes_eq token.spelling) 0 names else None

-- the parameter that the first of these tokens names
unfoldable pub first_parameter : List (List ℕ) → List PpToken → Option ℕ
first_parameter names [] = None
first_parameter names (token ∷ others) = parameter_of names token

-- whether the first of these tokens passes a test
unfoldable pub is_first : (PpToken → Bool) → List PpToken → Bool
is_first test [] = false
is_first test (token ∷ others) = test token

-- whether the last of them does
unfoldable pub is_last : (PpToken → Bool) → List PpToken → Bool
is_last test [] = false
is_last test (token ∷ []) = test token
is_last test (token ∷ next ∷ others) = is_last test (next ∷ others)

-- whether a parameter is the one at this position
unfoldable pub is_at : ℕ → Option ℕ → Bool
is_at number None = false
is_at number (Some parameter) = parameter == number

-- how often these tokens name a parameter
unfoldable pub places_of : List (List ℕ) → ℕ → List PpToken → ℕ
places_of names parameter tokens = count_by (λ token. is_at parameter (parameter_of names token)) tokens

-- a token that names no parameter: `#` belongs to the parameter behind it
unfoldable pub token_part : PpToken → Option ℕ → Part
token_part token None = plain token
token_part token (Some parameter) = if is_hash token then hash token parameter else plain token

-- a token that names a parameter: behind `#` it is part of that
unfoldable pub parameter_part : List (List ℕ) → List PpToken → PpToken → List PpToken → ℕ → List Part
parameter_part names before token behind parameter =
    if is_last is_hash before then []
    else if is_last is_hash_hash before || is_first is_hash_hash behind then beside token parameter (places_of names parameter before) ∷ []
    else whole token parameter (places_of names parameter before) ∷ []

-- a token other than `##`, which may name a parameter
unfoldable pub other_part : List (List ℕ) → List PpToken → PpToken → List PpToken → Option ℕ → List Part
other_part names before token behind None = token_part token (first_parameter names behind) ∷ []
other_part names before token behind (Some parameter) = parameter_part names before token behind parameter

-- the part that a token is, with what stands before it and behind it
unfoldable pub part_of : List (List ℕ) → List PpToken → PpToken → List PpToken → List Part
part_of names before token behind =
    if is_hash_hash token then paste token ∷ [] else other_part names before token behind (parameter_of names token)

-- the parts of the tokens behind others
unfoldable pub parts_behind : List (List ℕ) → List PpToken → List PpToken → List Part
parts_behind names before [] = []
parts_behind names before (token ∷ behind) = part_of names before token behind ++ parts_behind names (before ++ token ∷ []) behind

-- the parts of a macro's replacement list
unfoldable pub parts_of : Definition → List Part
parts_of definition = parts_behind (parameters_of definition) [] definition.body
