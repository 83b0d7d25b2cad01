-- Trees that come to a number wherever they are evaluated.
--     HoldsInteger scene memory d      what a declaration names here is an integer object that is alive and set
--     Names d run      the declaration is named in a tree, but not in a type name
--     ComesTo scene world tree value      the tree comes to this number, in any order of evaluation, and reads whole objects by their names alone
--     ComesToNumber scene world tree      it comes to some number
use Rattle.std.specs.Prelude.{◌≡◌, ℕ, true, false, List, Some, ℤ}
use Rattle.dm_token.specs.declared.place.Place.{Place}
use Rattle.dm_int.specs.declared.Kind.{Kind}
use Rattle.dm_int.specs.Kinds.{InRange}
use Rattle.dm_type.specs.CTypes.{CType}
use Rattle.dm_tree.specs.Constants.{integer_kind}
use Rattle.dm_tree.specs.Scenes.{is_integer}
use Rattle.dm_tree.specs.Trees.{object, Tree, kind_of}
use Rattle.dm_tree.specs.Units.{Declaration}
use Rattle.dm_meaning.specs.Among.{IsAmong}
use Rattle.dm_meaning.specs.Values.{numbered, At, integer_value}
use Rattle.dm_meaning.specs.Memory.{Memory, Block, look_up}
use Rattle.dm_meaning.specs.Causes.{is_unset}
use Rattle.dm_meaning.specs.Programs.{declaration_of}
use Rattle.dm_meaning.specs.Operations.{of_value, World, Scene, object_named, whole}
use Rattle.dm_meaning.specs.Running.{evaluates, Run, to_do, no_runs, begun}
use Rattle.dm_rewrite.specs.Computed.{computed}
use Rattle.dm_central.specs.Standing.{StandsIn}

-- ---- objects

pub record HoldsInteger (scene : Scene) (memory : Memory) (d : ℕ) : Type 0 where
  pub entry : Declaration
  pub object : ℕ
  pub block : Block
  pub declared : declaration_of scene.program d ≡ Some entry
  pub integer : is_integer entry.kind ≡ true
  pub named : object_named scene.objects d ≡ Some object
  pub found : look_up memory object ≡ Some block
  pub typed : block.kind ≡ entry.kind
  pub alive : block.alive ≡ true
  pub set : is_unset block.contents ≡ false

-- ---- trees

abbrev pub Names : ℕ → Run → Type 0
Names d run = (kind : CType) × (place : Place) × StandsIn (to_do (evaluates (object d)) kind place no_runs) run

-- these places are whole objects
abbrev pub AreWhole : List At → Type 0
AreWhole reads = (at : At) → IsAmong at reads → (n : ℕ) × (at ≡ whole (numbered n))

-- a number of the tree's type (6.2.5p5)
pub record ComesTo (scene : Scene) (world : World) (tree : Tree) (value : ℤ) : Type 0 where
  pub kind : Kind
  pub integer : integer_kind (kind_of tree) ≡ Some kind
  pub range : InRange kind value
  pub reads : List At
  pub comes : computed scene world (begun tree) ≡ Some (record { result = of_value (integer_value kind value); reads = reads })
  pub named : AreWhole reads

pub record ComesToNumber (scene : Scene) (world : World) (tree : Tree) : Type 0 where
  pub value : ℤ
  pub comes : ComesTo scene world tree value
