-- The numbers of limits, as they are printed.
use Rattle.std.specs.Prelude.{ℕ}

-- bytes of a file
abbrev pub file_bytes : ℕ
file_bytes = 1

-- tokens of a unit
abbrev pub unit_tokens : ℕ
unit_tokens = 2

-- expansions, definitions read and tokens of replacements in a unit, together
abbrev pub work : ℕ
work = 3

-- files within each other, the main file not counted
abbrev pub nested_files : ℕ
nested_files = 4

-- height of an external declaration's syntax tree
abbrev pub height : ℕ
height = 5

-- files of the folder in a call
abbrev pub files : ℕ
files = 6

-- units of a project
abbrev pub units : ℕ
units = 7

-- different macro definitions in files, over all units
abbrev pub definitions : ℕ
definitions = 8

-- inclusions in a unit
abbrev pub inclusions : ℕ
inclusions = 9

-- tokens of all units together
abbrev pub project_tokens : ℕ
project_tokens = 10
