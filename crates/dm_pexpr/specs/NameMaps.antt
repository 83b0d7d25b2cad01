-- Names, each with whether it names a type.
--     entry_of names name      what the map says of a name
--     with_entry names name entry      the map after a name is given an entry, or none
use Rattle.std.specs.Prelude.{Bool, false, ℕ, List, Option, Some, None, unwrap_or}
use Rattle.std.specs.Cmp.Lexicographic.{slice_cmp}
use Rattle.std.specs.Ordering.{nat_cmp}
use Rattle.std.specs.FinMap as map
use Rattle.std.specs.Coded.{Coded, coded_list, coded_ℕ, coded_bool}

-- names, each with whether it names a type
abbrev pub NameMap : Type 0
NameMap = map.FinMap (slice_cmp nat_cmp) Bool

-- what the map says of a name
abbrev pub entry_of : NameMap → List ℕ → Option Bool
entry_of names name = map.get names name

-- the map after a name is given an entry, or none
abbrev pub with_entry : NameMap → List ℕ → Option Bool → NameMap
with_entry names name (Some entry) = map.insert names name entry
with_entry names name None = map.remove names name

-- whether a name names a type
abbrev pub is_type : NameMap → List ℕ → Bool
is_type names name = unwrap_or (entry_of names name) false

-- such a map is stored as its entries
abbrev pub name_map_code : Coded NameMap
name_map_code = map.code (coded_list coded_ℕ) coded_bool
