-- The numbers of types in the trees of the code, and when such trees are well typed.
--     are_known count tree      each number of a type in the tree is below the count
--     IsTypedTree scene tree      the tree is well typed in a scene, whose table gave its types
--     IsTypedIn types declared tree      it is so in some scene of these types and declarations
--     argv_kind      the type of the object to which `argv` points at the beginning of a run
--     IsTypedUnit types unit      the unit is well typed, and the table gave its types
use Rattle.std.specs.Prelude.{◌≡◌, ℕ, Bool, true, ◌&&◌, nat_lt, IsTrue, List, length, Option, Some, None}
use Rattle.std.specs.List.{list_all}
use Rattle.dm_int.specs.declared.Kind.TheVariants.{Char}
use Rattle.dm_type.specs.CTypes.{CType, integer, pointer, array}
use Rattle.dm_type.specs.Tables.{Table, Has}
use Rattle.dm_tree.specs.declared.tree.Core.{Core}
use Rattle.dm_tree.specs.declared.tree.Form.{Form}
use Rattle.dm_tree.specs.declared.tree.Form.TheOpen as layer
use Rattle.dm_tree.specs.declared.tree.Form.TheFolds as folds
use Rattle.dm_tree.specs.declared.tree.Local.{Local}
use Rattle.dm_tree.specs.declared.unit.CoreExternal.{CoreExternal}
use Rattle.dm_tree.specs.declared.unit.CoreExternalForm.{CoreExternalForm}
use Rattle.dm_tree.specs.declared.unit.CoreExternalForm.TheVariants as code
use Rattle.dm_tree.specs.declared.unit.CoreUnit.{CoreUnit}
use Rattle.dm_tree.specs.declared.unit.Declared.{Declared}
use Rattle.dm_tree.specs.Scenes.{Scene}
use Rattle.dm_tree.specs.Typing.{IsWellTyped, IsWellTypedUnit}
use Rattle.dm_tree.specs.Units.{Declaration}
use Rattle.dm_tree.specs.Views.{view, view_of_unit}

-- all of them pass
abbrev pub all_pass : List Bool → Bool
all_pass passes = list_all (λ passed. passed) passes

-- what is absent passes
abbrev pub passes_if_there : Option Bool → Bool
passes_if_there None = true
passes_if_there (Some passed) = passed

-- one layer, where it is told whether each tree in it passes
abbrev pub form_known : ℕ → layer.Form-F Bool Bool Bool Bool → Bool
form_known types (layer.Number value) = true
form_known types (layer.Enumerator at) = true
form_known types (layer.Literal bytes unit) = true
form_known types (layer.Object at) = true
form_known types (layer.Function at) = true
form_known types (layer.Read a) = a
form_known types (layer.Decay a) = a
form_known types (layer.Convert a lengths) = a && all_pass lengths
form_known types (layer.Address a) = a
form_known types (layer.Follow a) = a
form_known types (layer.Member a n) = a
form_known types (layer.Unary sign a) = a
form_known types (layer.Binary op a b) = a && b
form_known types (layer.Both a b) = a && b
form_known types (layer.Either a b) = a && b
form_known types (layer.Choose a b c) = a && (b && c)
form_known types (layer.Comma a b) = a && b
form_known types (layer.Store a b) = a && b
form_known types (layer.Update op works a b) = nat_lt works types && (a && b)
form_known types (layer.Count plus before a) = a
form_known types (layer.Call a arguments) = a && all_pass arguments
form_known types (layer.SizeofTree a) = a
form_known types (layer.SizeofKind type lengths) = nat_lt type types && all_pass lengths
form_known types (layer.Block items) = all_pass items
form_known types (layer.Declare lengths locals) = all_pass lengths && all_pass locals
form_known types (layer.Full a) = a
form_known types layer.Empty = true
form_known types (layer.If a b c) = a && (b && passes_if_there c)
form_known types (layer.Switch a items) = a && all_pass items
form_known types (layer.Case a b) = a && b
form_known types (layer.Default a) = a
form_known types (layer.While a b) = a && b
form_known types (layer.Do a b) = a && b
form_known types (layer.For a b c body) = passes_if_there a && (passes_if_there b && (passes_if_there c && body))
form_known types layer.Break = true
form_known types layer.Continue = true
form_known types (layer.Return a) = passes_if_there a

abbrev pub initial_known : layer.Initial-F Bool Bool Bool Bool → Bool
initial_known (layer.Value a) = a
initial_known (layer.Parts items) = all_pass items

abbrev pub local_known : layer.Local-F Bool Bool Bool Bool → Bool
local_known local = passes_if_there local.initial

abbrev pub core_known : ℕ → layer.Core-F Bool Bool Bool Bool → Bool
core_known types core = nat_lt core.kind types && core.form

-- each number of a type in a tree is below the count of types
abbrev pub are_known : ℕ → Core → Bool
are_known types = folds.fold-Core Bool Bool Bool Bool (form_known types) initial_known (core_known types) local_known

abbrev pub are_known_in_form : ℕ → Form → Bool
are_known_in_form types = folds.fold-Form Bool Bool Bool Bool (form_known types) initial_known (core_known types) local_known

abbrev pub are_known_in_local : ℕ → Local → Bool
are_known_in_local types = folds.fold-Local Bool Bool Bool Bool (form_known types) initial_known (core_known types) local_known

-- the tree is well typed in the scene, whose table gave its types
pub record IsTypedTree (scene : Scene) (core : Core) : Type 0 where
  pub known : IsTrue (are_known (length scene.types.shapes) core)
  pub typed : IsWellTyped scene (view scene.types core)

-- the tree is well typed in some scene of these types and declarations
pub record IsTypedIn (types : Table) (declared : List Declaration) (core : Core) : Type 0 where
  pub scene : Scene
  pub same_types : scene.types ≡ types
  pub same_declared : scene.declared ≡ declared
  pub tree : IsTypedTree scene core

abbrev pub form_has_known : ℕ → CoreExternalForm → Bool
form_has_known types (code.Declaration locals) = list_all (are_known_in_local types) locals
form_has_known types (code.Function function parameters body) = are_known types body

abbrev pub external_has_known : ℕ → CoreExternal → Bool
external_has_known types one = list_all (are_known types) one.constants && form_has_known types one.form

abbrev pub entry_has_known : ℕ → Declared → Bool
entry_has_known types entry = nat_lt entry.kind types

-- the type of the object to which `argv` points when `main` is called without arguments: one null pointer (5.1.2.2.1p2)
abbrev pub argv_kind : CType
argv_kind = array (pointer (integer Char)) (Some 1)

-- the unit is well typed, and the table gave its types
pub record IsTypedUnit (types : Table) (one : CoreUnit) : Type 0 where
  pub argv : Has types one.argv argv_kind
  pub known_in_entries : IsTrue (list_all (entry_has_known (length types.shapes)) one.declared)
  pub known_in_trees : IsTrue (list_all (external_has_known (length types.shapes)) one.externals)
  pub typed : IsWellTypedUnit types (view_of_unit types one)
