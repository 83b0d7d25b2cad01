-- Programs whose runs are sound: their tables of types, their declarations and their trees.
--     IsProper type      const stands on no const type and on no array
--     IsSoundTable table      members are complete, structs are within one another in layers, and sizes are those that types may have
--     IsTyped program result tree      a well-typed tree of the program, in a function with this result
use Rattle.std.specs.Prelude.{◌≡◌, ℕ, ◌<◌, ◌≤◌, Bool, not, ◌||◌, IsTrue, List, length, Option, Some, None, IsSome, slice_get}
use Rattle.dm_token.specs.Limits.{most_type_bytes}
use Rattle.dm_int.specs.declared.Kind.{Kind}
use Rattle.dm_type.specs.declared.layout.Layout.{Layout}
use Rattle.dm_type.specs.declared.shape.Content.{Content}
use Rattle.dm_type.specs.declared.shape.Member.{Member}
use Rattle.dm_type.specs.CTypes.{CType, CTypes, void, integer, pointer, array, struct, function, const, no_types, more_types, is_const}
use Rattle.dm_type.specs.Layouts.{size_of}
use Rattle.dm_type.specs.Tables.{Table, type_of, content_of, members_of}
use Rattle.dm_tree.specs.Trees.{Tree, Trees, node, no_trees, more_trees}
use Rattle.dm_tree.specs.Scenes.{Scene, is_array}
use Rattle.dm_tree.specs.Typing.{IsWellTyped}
use Rattle.dm_meaning.specs.Programs.{Program}

-- ---- types

-- const stands on no const type, and on no array, whose elements have it (6.7.3p5, p9)
abbrev mutual
  pub IsProper : CType → Type 0
  IsProper void = Unit {0}
  IsProper (integer kind) = Unit {0}
  IsProper (pointer type) = IsProper type
  IsProper (array type n) = IsProper type
  IsProper (struct at) = Unit {0}
  IsProper (function result parameters) = IsProper result × AreProper parameters
  IsProper (const type) = IsTrue (not (is_const type || is_array type)) × IsProper type

  pub AreProper : CTypes → Type 0
  AreProper no_types = Unit {0}
  AreProper (more_types type types) = IsProper type × AreProper types

-- the struct of which an object of the type is made, through arrays
abbrev pub struct_in : CType → Option ℕ
struct_in (array type n) = struct_in type
struct_in (const type) = struct_in type
struct_in (struct number) = Some number
struct_in type = None

-- Structs that have their members are within one another in layers, no more of them than there are structs, so none is a part of itself
-- (6.7.2.1p3).
abbrev pub AreLayered : Table → Type 0
AreLayered table =
    (layer : ℕ → ℕ)
    × ((at : ℕ) (members : List Member) (n : ℕ) (one : Member) (inner : ℕ) (others : List Member) → members_of table at ≡ Some members
    → slice_get members n ≡ Some one → struct_in (type_of table one.kind) ≡ Some inner → members_of table inner ≡ Some others → layer inner < layer at)
    × ((at : ℕ) (members : List Member) → members_of table at ≡ Some members → layer at < length table.structs)

-- A table of types as the reading of a unit makes it.
pub record IsSoundTable (table : Table) : Type 0 where
  -- the type of each member of a struct that has its members is complete (6.7.2.1p3)
  pub complete : (at : ℕ) (members : List Member) → members_of table at ≡ Some members
      → (n : ℕ) (one : Member) → slice_get members n ≡ Some one → IsSome (size_of table (type_of table one.kind))
  pub layered : AreLayered table
  -- no struct is larger than a type may be
  pub sizes : (at : ℕ) (content : Content) (one : Layout) → content_of table at ≡ Some content → content.layout ≡ Some one → one.size ≤ most_type_bytes

-- ---- trees

-- the type of each node is proper
abbrev mutual
  pub IsProperTree : Tree → Type 0
  IsProperTree (node label kind spans parts) = IsProper kind × AreProperTrees parts

  pub AreProperTrees : Trees → Type 0
  AreProperTrees no_trees = Unit {0}
  AreProperTrees (more_trees first rest) = IsProperTree first × AreProperTrees rest

-- what the trees of a function with this result stand among
abbrev pub scene_in : Program → CType → Bool → Bool → Option Kind → Scene
scene_in program result breaks continues labels =
    record { types = program.table; declared = program.declared; result = result; breaks = breaks; continues = continues; labels = labels }

-- A well-typed tree of a program, in a function with this result.
pub record IsTyped (program : Program) (result : CType) (tree : Tree) : Type 0 where
  pub breaks : Bool
  pub continues : Bool
  pub labels : Option Kind
  pub typed : IsWellTyped (scene_in program result breaks continues labels) tree
  pub proper : IsProperTree tree
