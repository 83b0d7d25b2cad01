-- What is kept of the tokens of a replacement list, for all expansions of its macro.
use Rattle.std.specs.Prelude.{◌≡◌, ◌<◌, ◌+◌, ℕ, List, [], ◌∷◌, take, drop, length, slice_index_or, bytes_eq, Option, None, Some, if◌then◌else◌}
use Rattle.std.specs.List.{list_any, position_from}
use Rattle.std.specs.FinMap as map
use Rattle.dm_name_map.specs.Numbers.{Numbers}
use Rattle.dm_token.specs.declared.token.PpToken.{PpToken}
use Rattle.dm_token.specs.declared.expansion.Definition.{Definition}
use Rattle.dm_macro.specs.declared.role.Role.{Role}
use Rattle.dm_macro.specs.declared.role.Role.TheVariants.{Plain, Hash, Beside, Whole, Paste}
use Rattle.dm_macro.specs.declared.role.Roles as code_roles
use Rattle.dm_macro.specs.Signs.{is_hash_hash}
use Rattle.dm_macro.specs.Bodies.{Part, plain, hash, beside, whole, paste, parameters_of, parameter_of, is_at, places_of, part_of}

-- the part of a replacement list that a token is
abbrev pub part_with : PpToken → Role → Part
part_with pp Plain = plain pp
part_with pp (Hash parameter) = hash pp parameter
part_with pp (Beside parameter occurrence) = beside pp parameter occurrence
part_with pp (Whole parameter occurrence last) = whole pp parameter occurrence
part_with pp Paste = paste pp

-- at most one part
abbrev pub parts_with : PpToken → Option Role → List Part
parts_with pp None = []
parts_with pp (Some role) = part_with pp role ∷ []

-- the parameter whose last place a token is, where that is kept
abbrev pub last_of : Option Role → Option ℕ
last_of None = None
last_of (Some Plain) = None
last_of (Some (Hash parameter)) = None
last_of (Some (Beside parameter occurrence)) = None
last_of (Some (Whole parameter occurrence last)) = if last then Some parameter else None
last_of (Some Paste) = None

-- No token behind its last place names a parameter.
abbrev pub AreLast : List (List ℕ) → List PpToken → Option Role → Type 0
AreLast names behind role = (parameter : ℕ) → last_of role ≡ Some parameter → places_of names parameter behind ≡ 0

-- A token between others is this.
abbrev pub IsRole : List (List ℕ) → List PpToken → PpToken → List PpToken → Option Role → Type 0
IsRole names before token behind role = (parts_with token role ≡ part_of names before token behind) × AreLast names behind role

-- The token at an index of a replacement list is this, where these are the names of the parameters.
abbrev pub IsRoleAt : List (List ℕ) → List PpToken → ℕ → Option Role → Type 0
IsRoleAt names body index role =
    (token : PpToken) → token ≡ slice_index_or body index token → IsRole names (take index body) token (drop (index + 1) body) role

-- The first tokens of a replacement list are these.
abbrev pub AreRolesOf : List (List ℕ) → List PpToken → List (Option Role) → Type 0
AreRolesOf names body roles = (index : ℕ) → index < length roles → IsRoleAt names body index (slice_index_or roles index None)

-- This is what is kept of a replacement list.
pub record AreRoles (definition : Definition) (roles : code_roles.Roles) : Type 0 where
  pub tokens : AreRolesOf (parameters_of definition) definition.body roles.tokens.items
  pub count : length roles.tokens.items ≡ length definition.body
  pub pastes : roles.pastes ≡ list_any is_hash_hash definition.body

-- The definitions of a table and what is kept of their replacement lists.
abbrev pub AreAllRoles : List Definition → List code_roles.Roles → Type 0
AreAllRoles [] [] = Unit {0}
AreAllRoles [] (roles ∷ others) = ⊥
AreAllRoles (definition ∷ definitions) [] = ⊥
AreAllRoles (definition ∷ definitions) (roles ∷ others) = AreRoles definition roles × AreAllRoles definitions others

-- Parameters are looked up by their names.
abbrev pub HavePositions : List (List ℕ) → Numbers → Type 0
HavePositions names positions = (name : List ℕ) → map.get positions name ≡ position_from (bytes_eq name) 0 names

-- Each parameter is named so often by these tokens.
abbrev pub AreCounts : List (List ℕ) → List PpToken → List ℕ → Type 0
AreCounts names tokens counts = (parameter : ℕ) → slice_index_or counts parameter 0 ≡ places_of names parameter tokens
