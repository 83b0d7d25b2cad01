-- The tokens of a replacement list that name the macro's parameters (6.10.3.1).
use Rattle.std.specs.Prelude.{ℕ, List, [], ◌∷◌, ◌++◌, length, Option, Some, None}
use Rattle.dm_token.specs.declared.expansion.Definition.{Definition}
use Rattle.dm_token.specs.declared.token.PpToken.{PpToken}
use Rattle.dm_macro.specs.Bodies.{parameters_of, parameter_of, places_of}
use Rattle.dm_runs.specs.declared.named.Named.{Named}

-- a token behind others that names this parameter, or none
abbrev pub named_at : List (List ℕ) → List PpToken → Option ℕ → List Named
named_at names before None = []
named_at names before (Some parameter) =
    record { at = length before; parameter = parameter; occurrence = places_of names parameter before } ∷ []

abbrev pub named_behind : List (List ℕ) → List PpToken → List PpToken → List Named
named_behind names before [] = []
named_behind names before (token ∷ tokens) = named_at names before (parameter_of names token) ++ named_behind names (before ++ token ∷ []) tokens

-- those of a definition, in the order of the list
abbrev pub named_in : Definition → List Named
named_in definition = named_behind (parameters_of definition) [] definition.body
