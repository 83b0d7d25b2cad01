-- Small definitions and the types of their expansions: the examples of `src/examples.rt`.
--     declared_as visible definition signature      kind, head and tail of what the definition becomes
use Rattle.std.specs.Prelude.{ℕ, true, false, List, [], ◌∷◌, Option, Some, None, option_map, codes}
use Rattle.dm_token.specs.declared.place.Place.{Place}
use Rattle.dm_token.specs.declared.expansion.Definition.{Definition}
use Rattle.dm_token.specs.declared.expansion.Origin.TheVariants.{File}
use Rattle.dm_type.specs.CTypes.{CType}
use Rattle.dm_type.specs.Tables.{Table}
use Rattle.dm_edit.specs.declared.change.As.{As}
use Rattle.dm_edit.specs.declared.change.Change.{Change}
use Rattle.dm_judge.specs.Changes.{Parameter, Signature, change_with}

abbrev place : Place
place = record { file = 0; byte = 8; line = 1; column = 9 }

-- the definition of `M`, of which only this is looked at
abbrev pub macro : Option (List (List ℕ)) → Definition
macro parameters = record {
  name = codes "M";
  parameters = parameters;
  variadic = false;
  body = [];
  origin = File;
  place = place;
  hash = 0;
  head_end = 9;
  head_plain = true;
}

abbrev pub object_like : Definition
object_like = macro None

abbrev pub function_like : Definition
function_like = macro (Some [])

abbrev pub parameter : CType → List ℕ → Parameter
parameter type name = record { kind = type; name = name }

abbrev pub signature : CType → List Parameter → Signature
signature result parameters = record { result = result; parameters = parameters }

-- a table of one struct, whose tag is `s`
abbrev pub one_struct : Table
one_struct = record { shapes = []; structs = record { tag = Some (codes "s"); content = None } ∷ [] }

-- kind, head and tail
abbrev pub parts_of : Change → As × List ℕ × List ℕ
parts_of change = (change.kind, change.head, change.tail)

abbrev pub declared_as : List ℕ → Definition → Signature → Option (As × List ℕ × List ℕ)
declared_as visible definition types = option_map parts_of (change_with one_struct visible definition types)
