-- What the first values of objects are in a scene: the program, its objects of static storage duration, and their names.
use Rattle.std.specs.Prelude.{ℕ, List, IsTrue, length, map}
use Rattle.dm_type.specs.CTypes.{CType}
use Rattle.dm_type.specs.Tables.{Table}
use Rattle.dm_tree.specs.declared.tree.Core.{Core}
use Rattle.dm_tree.specs.declared.tree.Initial.{Initial}
use Rattle.dm_tree.specs.TypeNumbers.{all_pass, are_known}
use Rattle.dm_tree.specs.Views.{expressions_of_items, items_of, view}
use Rattle.dm_meaning.specs.Memory.{Memory}
use Rattle.dm_meaning.specs.Programs.{Program}
use Rattle.dm_meaning.specs.Units as units
use Rattle.dm_meaning.specs.Values.{Pointer, Value}
use Rattle.dm_memory.specs.Blocks.{view_of_blocks, AreKnown}
use Rattle.dm_program.specs.Initials.{view_of_initial, are_known_in_initial}
use Rattle.dm_program.specs.Sources.{meant}
use Rattle.dm_start.specs.declared.scene.Scene.{Scene}

abbrev pub types_in : Scene → Table
types_in scene = scene.program.now.table

abbrev pub program_in : Scene → Program
program_in scene = meant scene.program.now

abbrev pub memory_in : Scene → Memory
memory_in scene = view_of_blocks (types_in scene) scene.blocks.now

-- ---- what fits a scene: the numbers of types are those of the program's

abbrev pub SceneFits : Scene → Type 0
SceneFits scene = AreKnown (types_in scene) scene.blocks.now

abbrev pub TreeFits : Scene → Core → Type 0
TreeFits scene tree = IsTrue (are_known (length (types_in scene).shapes) tree)

abbrev pub InitialFits : Scene → Initial → Type 0
InitialFits scene initial = IsTrue (are_known_in_initial (length (types_in scene).shapes) initial)

abbrev pub InitialsFit : Scene → List Initial → Type 0
InitialsFit scene items = IsTrue (all_pass (map (are_known_in_initial (length (types_in scene).shapes)) items))

-- ---- what trees and initialisers give

-- the address that a tree gives, or that of the object that it designates
abbrev pub address_in : Scene → Core → Pointer
address_in scene tree = units.address_of (program_in scene) scene.names.now (memory_in scene) (view (types_in scene) tree)

-- the value of a scalar or of an array that a string literal initialises
abbrev pub scalar_in : Scene → CType → Core → Value
scalar_in scene kind tree = units.static_scalar (program_in scene) scene.names.now (memory_in scene) kind (view (types_in scene) tree)

-- the value that an initialiser gives an object
abbrev pub value_in : Scene → CType → Initial → Value
value_in scene kind initial = units.static_value (program_in scene) scene.names.now (memory_in scene) kind
    (view_of_initial (types_in scene) initial).initialiser (view_of_initial (types_in scene) initial).expressions

-- the values that initialisers give the parts of an object, from one of them on
abbrev pub parts_from : Scene → CType → ℕ → List Initial → List Value
parts_from scene kind n items = units.static_parts (program_in scene) scene.names.now (memory_in scene) kind n
    (items_of (map (view_of_initial (types_in scene)) items)) (expressions_of_items (map (view_of_initial (types_in scene)) items))
