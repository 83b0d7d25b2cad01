-- The rows of the directives by name (6.10).
use Rattle.std.specs.Prelude.{◌≡◌, ℕ, Some, codes, slice_get}
use Rattle.dm_spell.specs.Tables.{directive_rows}

-- `include`
abbrev pub include_directive : ℕ
include_directive = 0

-- `define`
abbrev pub define_directive : ℕ
define_directive = 1

-- `undef`
abbrev pub undef_directive : ℕ
undef_directive = 2

-- `if`
abbrev pub if_directive : ℕ
if_directive = 3

-- `ifdef`
abbrev pub ifdef_directive : ℕ
ifdef_directive = 4

-- `ifndef`
abbrev pub ifndef_directive : ℕ
ifndef_directive = 5

-- `elif`
abbrev pub elif_directive : ℕ
elif_directive = 6

-- `else`
abbrev pub else_directive : ℕ
else_directive = 7

-- `endif`
abbrev pub endif_directive : ℕ
endif_directive = 8

-- `error`
abbrev pub error_directive : ℕ
error_directive = 9

-- `pragma`
abbrev pub pragma_directive : ℕ
pragma_directive = 10

-- `line`
abbrev pub line_directive : ℕ
line_directive = 11

-- the numbers are those of the rows so spelled
abbrev pub DirectivesAreSpelled : Type 0
DirectivesAreSpelled =
    (slice_get directive_rows include_directive ≡ Some (codes "include"))
    × (slice_get directive_rows define_directive ≡ Some (codes "define"))
    × (slice_get directive_rows undef_directive ≡ Some (codes "undef"))
    × (slice_get directive_rows if_directive ≡ Some (codes "if"))
    × (slice_get directive_rows ifdef_directive ≡ Some (codes "ifdef"))
    × (slice_get directive_rows ifndef_directive ≡ Some (codes "ifndef"))
    × (slice_get directive_rows elif_directive ≡ Some (codes "elif"))
    × (slice_get directive_rows else_directive ≡ Some (codes "else"))
    × (slice_get directive_rows endif_directive ≡ Some (codes "endif"))
    × (slice_get directive_rows error_directive ≡ Some (codes "error"))
    × (slice_get directive_rows pragma_directive ≡ Some (codes "pragma"))
    × (slice_get directive_rows line_directive ≡ Some (codes "line"))
