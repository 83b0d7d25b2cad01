-- Limits of the implementation of C and of the tool.
use Rattle.std.specs.Prelude.{ℕ}

-- the greatest int, where an int has 32 bits (5.2.4.2.1)
abbrev pub greatest_int : ℕ
greatest_int = 2147483647

-- the greatest length in bytes of a source file that is read
abbrev pub source_length_limit : ℕ
source_length_limit = 1048576

-- the most tokens of a unit
abbrev pub most_tokens : ℕ
most_tokens = 1000000

-- the most expansions, definitions read and tokens of replacements in a unit, together
abbrev pub most_work : ℕ
most_work = 8000000

-- the most files within each other, the main file not counted
abbrev pub most_nested : ℕ
most_nested = 64

-- the greatest height of an external declaration's syntax tree
abbrev pub greatest_height : ℕ
greatest_height = 512

-- the most files of the folder in a call
abbrev pub most_files : ℕ
most_files = 4096

-- the most units of a project
abbrev pub most_units : ℕ
most_units = 256

-- the most different macro definitions in files, over all units
abbrev pub most_definitions : ℕ
most_definitions = 4096

-- the most inclusions in a unit
abbrev pub most_inclusions : ℕ
most_inclusions = 16384

-- how many headers are built in
abbrev pub header_count : ℕ
header_count = 6

-- the most bytes of an object's type
abbrev pub most_type_bytes : ℕ
most_type_bytes = 1073741824

-- the steps of a run where no number is given
abbrev pub usual_steps : ℕ
usual_steps = 1000000
