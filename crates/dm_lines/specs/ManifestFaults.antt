-- The numbers of faults of manifests, as they are printed.
use Rattle.std.specs.Prelude.{ℕ}

-- the manifest is absent
abbrev pub absent : ℕ
absent = 1

-- it is not JSON
abbrev pub json : ℕ
json = 2

-- a value has another type, a key is unknown, or one that is needed is absent
abbrev pub shape : ℕ
shape = 3

-- a file, a folder or the manifest has no normal name
abbrev pub name : ℕ
name = 4

-- a define that isn't of the form
abbrev pub define : ℕ
define = 5

-- a unit that stands twice
abbrev pub twice : ℕ
twice = 6

-- a unit that isn't listed
abbrev pub unlisted : ℕ
unlisted = 7

-- an input that is absent, or has no normal name
abbrev pub input : ℕ
input = 8
