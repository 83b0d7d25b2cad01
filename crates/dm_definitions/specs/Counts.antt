-- How many macro definitions in files a unit reads. A definition is known by its file and the byte of its `#`, so one that is
-- read again counts once; those of built-in headers and of the manifest don't count.
--     definition_count read      how many different ones there are
use Rattle.std.specs.Prelude.{ℕ, ◌+◌, ◌*◌, ◌^◌, Bool, true, false, List, [], ◌∷◌, ◌++◌, length, nat_eq, if◌then◌else◌}
use Rattle.std.specs.List.{list_any}
use Rattle.dm_token.specs.Limits.{most_definitions}
use Rattle.dm_token.specs.declared.expansion.Definition.{Definition}
use Rattle.dm_token.specs.declared.expansion.Origin.{Origin}
use Rattle.dm_token.specs.declared.expansion.Origin.TheVariants.{File, Header, Manifest}
use Rattle.dm_token.specs.declared.unit.Read.{Read}

-- the greatest number of them
abbrev pub limit : ℕ
limit = most_definitions

abbrev pub is_in_file : Origin → Bool
is_in_file File = true
is_in_file Header = false
is_in_file Manifest = false

-- the file and the byte as one number, for bytes below 2 ^ 32
abbrev pub key_of : Definition → ℕ
key_of definition = definition.place.file * 2 ^ 32 + definition.hash

-- keys with a further one, if it isn't among them
abbrev pub with_key : List ℕ → ℕ → List ℕ
with_key keys key = if list_any (nat_eq key) keys then keys else keys ++ key ∷ []

abbrev pub with_definition : List ℕ → Definition → List ℕ
with_definition keys definition = if is_in_file definition.origin then with_key keys (key_of definition) else keys

-- keys with those of definitions that are read behind them
abbrev pub keys_behind : List ℕ → List Read → List ℕ
keys_behind keys [] = keys
keys_behind keys (one ∷ read) = keys_behind (with_definition keys one.definition) read

abbrev pub definition_count : List Read → ℕ
definition_count read = length (keys_behind [] read)
