-- The scopes that are open at a place of a translation unit, each with what it declares in two name spaces: ordinary identifiers, and
-- tags (6.2.1, 6.2.3).
--     Scopes      from the inside outwards; file scope is the last. Each name stands with the number of its entry
--     meaning_of tag name scopes      the number of the entry that a name means
--     is_declared_here tag name scopes      the innermost scope declares the name
--     declared_in tag name number scopes      the scopes after a declaration in the innermost one
use Rattle.std.specs.Prelude.{ℕ, Bool, true, false, List, [], ◌∷◌, Option, Some, None, is_some}
use Rattle.std.specs.FinMap as map
use Rattle.dm_name_map.specs.Numbers.{Numbers}
use Rattle.dm_scope.specs.Scopes.{or_else}
use Rattle.dm_names.specs.declared.nest.Scope.{Scope}

abbrev pub Scopes : Type 0
Scopes = List Scope

abbrev pub nothing_declared : Scope
nothing_declared = record { names = map.empty; tags = map.empty }

-- what a scope declares in one of the two name spaces
abbrev pub space : Bool → Scope → Numbers
space true scope = scope.tags
space false scope = scope.names

abbrev pub get : Bool → List ℕ → Scope → Option ℕ
get tag name scope = map.get (space tag scope) name

-- an inner declaration hides those outside (6.2.1p4)
abbrev pub meaning_of : Bool → List ℕ → Scopes → Option ℕ
meaning_of tag name [] = None
meaning_of tag name (scope ∷ outer) = or_else (get tag name scope) (meaning_of tag name outer)

abbrev pub is_declared_here : Bool → List ℕ → Scopes → Bool
is_declared_here tag name [] = false
is_declared_here tag name (scope ∷ outer) = is_some (get tag name scope)

abbrev pub with_name : Bool → List ℕ → ℕ → Scope → Scope
with_name true name number scope = record scope { tags = map.insert scope.tags name number }
with_name false name number scope = record scope { names = map.insert scope.names name number }

abbrev pub declared_in : Bool → List ℕ → ℕ → Scopes → Scopes
declared_in tag name number [] = []
declared_in tag name number (scope ∷ outer) = with_name tag name number scope ∷ outer

abbrev pub is_file_scope : Scopes → Bool
is_file_scope (file ∷ []) = true
is_file_scope scopes = false

abbrev pub first_of : Scopes → Option Scope
first_of [] = None
first_of (scope ∷ outer) = Some scope
