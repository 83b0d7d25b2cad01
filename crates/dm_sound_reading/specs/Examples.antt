-- A reading of no tokens.
use Rattle.std.specs.Prelude.{[], codes}
use Rattle.dm_reading.specs.declared.reading.Reading.{Reading}
use Rattle.dm_sound.specs.Examples.{types}

abbrev pub empty : Reading
empty = record {
  unit = record { file = codes "empty.c"; include = []; define = [] };
  pp = record { tokens = []; expansions = []; read = []; directive_uses = []; undefined = []; read_before_undefined = []; files = [] };
  tokens = [];
  syntax = [];
  core = record { argv = 2; declared = []; externals = [] };
  types = types;
}
