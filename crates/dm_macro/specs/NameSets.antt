-- A set of names that is looked up by hash.
use Rattle.std.specs.Prelude.{◌≡◌, ℕ, Bool, List, bytes_eq}
use Rattle.std.specs.List.{list_any}
use Rattle.std.specs.declared.hash.FoldHasher.{FoldHasher}
use Rattle.std.specs.declared.hash.BuildHasherDefault.{BuildHasherDefault}
use Rattle.std.specs.HashSet.{HashSet, contains}

-- a set of names
abbrev pub NameSet : Type 0
NameSet = HashSet (List ℕ) (BuildHasherDefault FoldHasher)

-- whether the set has a name
abbrev pub has_name : NameSet → List ℕ → Bool
has_name names name = contains bytes_eq names name

-- The set has the names of a list.
abbrev pub HasNamesOf : List (List ℕ) → NameSet → Type 0
HasNamesOf list names = (name : List ℕ) → has_name names name ≡ list_any (bytes_eq name) list
