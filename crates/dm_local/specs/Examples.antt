-- A reading that meets the premises of the laws: that of an empty file, by a loader that holds it.
use Rattle.std.specs.Prelude.{ℕ, [], ◌∷◌, Some, codes}
use Rattle.dm_token.specs.declared.unit.Unit.{Unit as Source}
use Rattle.dm_int.specs.declared.Kind.TheVariants.{Char}
use Rattle.dm_type.specs.declared.shape.Shape.TheVariants as shape
use Rattle.dm_search.specs.Fresh.{fresh}
use Rattle.dm_search.specs.Loaded.{Loaded, with_name, with_bytes}
use Rattle.dm_reading.specs.declared.reading.Reading.{Reading}

abbrev pub unit : Source
unit = record { file = codes "empty.c"; include = []; define = [] }

-- the number of its file, behind the built-in headers
abbrev pub empty_file : ℕ
empty_file = 6

abbrev pub known : Loaded
known = with_bytes (with_name fresh unit.file) empty_file []

-- the types by number are char, char * and char *[1], which is argv's
abbrev pub reading : Reading
reading = record {
  unit = unit;
  pp = record { tokens = []; expansions = []; read = []; directive_uses = []; undefined = []; read_before_undefined = []; files = empty_file ∷ [] };
  tokens = [];
  syntax = [];
  core = record { argv = 2; declared = []; externals = [] };
  types = record { shapes = shape.Integer Char ∷ shape.Pointer 0 ∷ shape.Array 1 (Some 1) ∷ []; structs = [] };
}
