-- What the typing of a part of a unit keeps, and what is well typed once the unit is complete.
--     IsSoundStanding standing      what is known at a place is sound
--     Keeps old new      what was known is known further on
--     IsFinal standing final      a scene such as the end of the unit makes of what is known at a place
--     Settles Fits standing progress      what is typed fits in every such scene
use Rattle.std.specs.Prelude.{◌≡◌, ◌==◌, ℕ, ◌<◌, ◌≤◌, Bool, true, false, IsTrue, List, [], ◌∷◌, length, Some, None, is_some, slice_get}
use Rattle.dm_type.specs.declared.shape.Content.{Content}
use Rattle.dm_type.specs.CTypes.{CType, array}
use Rattle.dm_type.specs.Tables.{type_of, content_of}
use Rattle.dm_tree.specs.Composites.{covers}
use Rattle.dm_tree.specs.Scenes.{Scene}
use Rattle.dm_tree.specs.Units.{Declaration}
use Rattle.dm_typing.specs.Sound.{IsProper, IsSoundKnown}
use Rattle.dm_edecl.specs.Standing.{Linked, Standing, Progress, goes_on, stops}
use Rattle.dm_edecl.specs.Linkages.{whole_kind}

-- ---- the declarations of what has linkage

-- a type covers those that all declarations of an entry say
abbrev pub IsBound : CType → ℕ → List Linked → Type 0
IsBound bound number [] = Unit {0}
IsBound bound number (one ∷ others) = ((one.number == number) ≡ true → IsTrue (covers bound one.kind)) × IsBound bound number others

-- an entry has such declarations
abbrev pub is_linked : ℕ → List Linked → Bool
is_linked number linked = is_some (whole_kind number linked)

abbrev pub AreProperLinks : List Linked → Type 0
AreProperLinks [] = Unit {0}
AreProperLinks (one ∷ others) = IsProper one.kind × AreProperLinks others

-- ---- what is known

-- What expressions see is sound, and no lengths are collected; all declarations of an entry agree (6.2.7p2), and its type at a place is one
-- that they say.
pub record IsSoundStanding (standing : Standing) : Type 0 where
  pub known : IsSoundKnown standing.known
  pub constants : standing.known.constants ≡ []
  pub within : (number : ℕ) → is_linked number standing.linked ≡ true → number < length standing.known.declared
  pub agree : (number : ℕ) → (bound : CType) × IsBound bound number standing.linked
  pub proper : AreProperLinks standing.linked
  pub kinds : (number : ℕ) (entry : Declaration) (bound : CType) → is_linked number standing.linked ≡ true → slice_get standing.known.declared number ≡ Some entry
      → IsBound bound number standing.linked → IsTrue (covers bound entry.kind)

-- two entries are one, their types apart
pub record IsSameEntry (old new : Declaration) : Type 0 where
  pub name : new.name ≡ old.name
  pub sort : new.sort ≡ old.sort
  pub linkage : new.linkage ≡ old.linkage

-- what was known is known further on: only what has linkage may have another type there (6.2.7p4)
pub record Keeps (old new : Standing) : Type 0 where
  pub shapes : length old.known.types.shapes ≤ length new.known.types.shapes
  pub types : (id : ℕ) → id < length old.known.types.shapes → type_of new.known.types id ≡ type_of old.known.types id
  pub contents : (at : ℕ) (content : Content) → content_of old.known.types at ≡ Some content → content_of new.known.types at ≡ Some content
  pub structs : length old.known.types.structs ≤ length new.known.types.structs
  pub entries : length old.known.declared ≤ length new.known.declared
  pub declared : (at : ℕ) (entry : Declaration) → slice_get old.known.declared at ≡ Some entry
      → (later : Declaration) × (slice_get new.known.declared at ≡ Some later) × IsSameEntry entry later × (is_linked at new.linked ≡ false → later.kind ≡ entry.kind)
  pub bounds : (at : ℕ) (bound : CType) → IsBound bound at new.linked → IsBound bound at old.linked
  pub links : (at : ℕ) → is_linked at old.linked ≡ true → is_linked at new.linked ≡ true
  pub unlinked : (at : ℕ) → at < length old.known.declared → is_linked at new.linked ≡ true → is_linked at old.linked ≡ true

-- ---- the end of the unit

-- an array of unknown length, to which its initialiser may give one (6.7.9p22)
abbrev pub is_open : CType → Bool
is_open (array type None) = true
is_open type = false

-- what an entry is at the end: its type covers that which it has here, and those that its declarations so far say
pub record IsFinalEntry (standing : Standing) (at : ℕ) (entry later : Declaration) : Type 0 where
  pub same : IsSameEntry entry later
  pub kind : is_linked at standing.linked ≡ false → IsTrue (covers later.kind entry.kind)
  pub kept : is_linked at standing.linked ≡ false → is_open entry.kind ≡ false → later.kind ≡ entry.kind
  pub bound : IsBound later.kind at standing.linked

pub record IsFinal (standing : Standing) (final : Scene) : Type 0 where
  pub types : (id : ℕ) → id < length standing.known.types.shapes → type_of final.types id ≡ type_of standing.known.types id
  pub contents : (at : ℕ) (content : Content) → content_of standing.known.types at ≡ Some content → content_of final.types at ≡ Some content
  pub declared : (at : ℕ) (entry : Declaration) → slice_get standing.known.declared at ≡ Some entry
      → (later : Declaration) × (slice_get final.declared at ≡ Some later) × IsFinalEntry standing at entry later

-- ---- what is typed

-- what is known further on is sound, and what is typed fits in every scene that the end of the unit makes of it
abbrev pub Settles : {A : Type 0} → (Scene → A → Type 0) → Standing → Progress A → Type 0
Settles Fits standing (goes_on behind it) = IsSoundStanding behind × Keeps standing behind × ((final : Scene) → IsFinal behind final → Fits final it)
Settles Fits standing (stops rule at) = Unit {0}
