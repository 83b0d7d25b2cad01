-- Scenes and worlds in which only the types and the objects matter.
--     scene_in table beside      a scene with these types
--     world_in memory beside      a world with these objects
use Rattle.std.specs.Prelude.{ℕ, List}
use Rattle.dm_type.specs.Tables.{Table}
use Rattle.dm_tree.specs.Units.{Declaration}
use Rattle.dm_meaning.specs.Memory.{Memory}
use Rattle.dm_meaning.specs.Operations.{Objects, Scene, World}
use Rattle.dm_meaning.specs.Programs.{Definition, Static}

-- what else they have
pub record Beside : Type 0 where
  pub declared : List Declaration
  pub functions : List Definition
  pub statics : List Static
  pub objects : Objects
  pub input : List ℕ
  pub output : List ℕ

abbrev pub scene_in : Table → Beside → Scene
scene_in table beside = record {
  program = record { declared = beside.declared; functions = beside.functions; statics = beside.statics; table = table };
  objects = beside.objects;
}

abbrev pub world_in : Memory → Beside → World
world_in memory beside = record { memory = memory; input = beside.input; output = beside.output }
