-- The first values of objects of static storage duration that have an initialiser, and memory with them.
use Rattle.std.specs.Prelude.{ℕ, List, [], ◌∷◌, ◌++◌, Option, Some}
use Rattle.dm_tree.specs.Trees.{Initialiser}
use Rattle.dm_meaning.specs.Memory.{Memory, written}
use Rattle.dm_meaning.specs.Operations.{object_named, whole}
use Rattle.dm_meaning.specs.Programs.{Static}
use Rattle.dm_meaning.specs.Statements.{type_declared}
use Rattle.dm_meaning.specs.Units.{static_value}
use Rattle.dm_meaning.specs.Values as values
use Rattle.dm_value.specs.Views.{view_of_value}
use Rattle.dm_start.specs.declared.scene.Scene.{Scene}
use Rattle.dm_start.specs.declared.storing.Kept.{Kept}
use Rattle.dm_start.specs.Scenes.{memory_in, program_in}

abbrev pub view_of_kept : Kept → ℕ × values.Value
view_of_kept kept = (kept.number, view_of_value kept.value)

-- an object's number and first value, where it has an initialiser
abbrev pub kept_by : Scene → Static → Option ℕ → Option Initialiser → List (ℕ × values.Value)
kept_by scene static (Some n) (Some initialiser) =
    (n, static_value (program_in scene) scene.names.now (memory_in scene) (type_declared (program_in scene) static.declared) initialiser static.expressions) ∷ []
kept_by scene static n initialiser = []

abbrev pub kept_one : Scene → Static → List (ℕ × values.Value)
kept_one scene static = kept_by scene static (object_named scene.names.now static.declared) static.initialiser

abbrev pub kept_all : Scene → List Static → List (ℕ × values.Value)
kept_all scene [] = []
kept_all scene (static ∷ statics) = kept_one scene static ++ kept_all scene statics

-- memory with values stored in objects, one after the other
abbrev pub with_values : List (ℕ × values.Value) → Memory → Memory
with_values [] memory = memory
with_values (kept ∷ others) memory = with_values others (written memory (whole (values.numbered kept.0)) kept.1)
