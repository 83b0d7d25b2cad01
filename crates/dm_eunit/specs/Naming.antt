-- The names of a scope that is opened again.
--     key_of entry      the name under which an entry stands in the scopes
--     names_in scope n entries      the entries, from a number on, that a scope has, with their numbers
--     with_names scope names      a scope in which these are declared
use Rattle.std.specs.Prelude.{ℕ, ◌+◌, ◌==◌, Bool, false, List, [], ◌∷◌, ◌++◌, Option, Some, None, if◌then◌else◌}
use Rattle.std.specs.FinMap as finite
use Rattle.dm_name_map.specs.Numbers.{Numbers}
use Rattle.dm_tree.specs.declared.unit.Sort.{Sort}
use Rattle.dm_tree.specs.declared.unit.Sort.TheVariants.{Tag}
use Rattle.dm_tree.specs.Units.{Declaration}
use Rattle.dm_typing.specs.Known.{tag_key}
use Rattle.dm_eunit.specs.declared.naming.Numbered.{Numbered}

-- tags have a name space of their own (6.2.3)
abbrev pub key_by : Sort → List ℕ → List ℕ
key_by Tag name = tag_key name
key_by sort name = name

abbrev pub key_of : Declaration → List ℕ
key_of entry = key_by entry.sort entry.name

abbrev pub is_number : Option ℕ → ℕ → Bool
is_number None number = false
is_number (Some other) number = other == number

-- the name of an entry behind others, if the scope has it with this number
abbrev pub with_name_of : Numbers → List Numbered → ℕ → Declaration → List Numbered
with_name_of scope names n entry =
    if is_number (finite.get scope (key_of entry)) n then names ++ record { name = key_of entry; number = n } ∷ [] else names

abbrev pub names_in : Numbers → ℕ → List Declaration → List Numbered
names_in scope n [] = []
names_in scope n (entry ∷ entries) =
    if is_number (finite.get scope (key_of entry)) n
    then record { name = key_of entry; number = n } ∷ names_in scope (n + 1) entries
    else names_in scope (n + 1) entries

-- a name that is declared in the scope already stays as it is
abbrev pub with_name : Numbers → Numbered → Numbers
with_name scope one = if finite.contains_key scope one.name then scope else finite.insert scope one.name one.number

abbrev pub with_names : Numbers → List Numbered → Numbers
with_names scope [] = scope
with_names scope (one ∷ others) = with_names (with_name scope one) others
