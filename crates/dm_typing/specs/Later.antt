-- What holds at the end of a unit, or anywhere behind a place of it, of what was known at that place.
--     IsCompletion entry later      an entry as later declarations leave it
--     IsLater known scene      the scene knows all that was known
use Rattle.std.specs.Prelude.{◌≡◌, ℕ, ◌<◌, IsTrue, length, Some, slice_get}
use Rattle.dm_type.specs.declared.shape.Content.{Content}
use Rattle.dm_type.specs.Tables.{type_of, content_of}
use Rattle.dm_tree.specs.Composites.{covers}
use Rattle.dm_tree.specs.Scenes.{Scene}
use Rattle.dm_tree.specs.Units.{Declaration}
use Rattle.dm_typing.specs.Known.{Known}

-- The entry is the same, but that its type may say more: it is the composite type of more declarations (6.2.7p4), or an initialiser gave
-- an array its length (6.7.9p22).
pub record IsCompletion (entry later : Declaration) : Type 0 where
  pub name : later.name ≡ entry.name
  pub sort : later.sort ≡ entry.sort
  pub linkage : later.linkage ≡ entry.linkage
  pub kind : IsTrue (covers later.kind entry.kind)

-- types have their numbers, structs their members, and entries are those that were known, or completed
pub record IsLater (known : Known) (scene : Scene) : Type 0 where
  pub types : (id : ℕ) → id < length known.types.shapes → type_of scene.types id ≡ type_of known.types id
  pub contents : (at : ℕ) (content : Content) → content_of known.types at ≡ Some content → content_of scene.types at ≡ Some content
  pub declared : (at : ℕ) (entry : Declaration) → slice_get known.declared at ≡ Some entry
      → (later : Declaration) × (slice_get scene.declared at ≡ Some later) × IsCompletion entry later
