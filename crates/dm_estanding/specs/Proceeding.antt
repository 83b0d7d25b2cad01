-- When a step of the code through declarations and statements gives what the definition does.
--     IsLawful standing      what holds at each place of a unit, whatever is well typed
--     Remembers old new      what was declared still is
--     Reached later new before behind      what the definition knows behind a step that the code has taken
--     Proceeds Fits view source old new result progress      the code gives what the definition does, whatever numbers come
use Rattle.std.specs.Prelude.{◌≡◌, ℕ, ◌<◌, ◌≤◌, true, IsTrue, List, [], ◌++◌, length, Some, slice_get, Result, Ok, Err, IfOk}
use Rattle.dm_token.specs.declared.stop.Stop.{Stop}
use Rattle.dm_token.specs.declared.stop.Stop.TheVariants as stop
use Rattle.dm_type.specs.declared.shape.Shape.{Shape}
use Rattle.dm_type.specs.CTypes.{CType}
use Rattle.dm_type.specs.Tables.{Table}
use Rattle.dm_syn.specs.Sources.{Source}
use Rattle.dm_tree.specs.Composites.{covers}
use Rattle.dm_tree.specs.Units.{Declaration}
use Rattle.dm_typing.specs.Views.{Begins, refusal_at}
use Rattle.dm_edecl.specs.Standing.{Linked, Standing, Progress, goes_on, stops}
use Rattle.dm_edecl.specs.Settled.{IsBound, is_linked, AreProperLinks, IsSameEntry}
use Rattle.dm_estanding.specs.declared.standing.Standing.{Standing as Held}
use Rattle.dm_estanding.specs.Summaries.{StandsFor, IsUnited}
use Rattle.dm_estanding.specs.Undoing.{IsWithin}

-- ---- what is known

-- No lengths are collected; all declarations of an entry with linkage agree (6.2.7p2), and its type at a place is one that they say; and a
-- name means one such entry, in whatever scope (6.2.2p2).
pub record IsLawful (standing : Standing) : Type 0 where
  pub constants : standing.known.constants ≡ []
  pub within : (number : ℕ) → is_linked number standing.linked ≡ true → number < length standing.known.declared
  pub agree : (number : ℕ) → (bound : CType) × IsBound bound number standing.linked
  pub proper : AreProperLinks standing.linked
  pub kinds : (number : ℕ) (entry : Declaration) (bound : CType) → is_linked number standing.linked ≡ true → slice_get standing.known.declared number ≡ Some entry
      → IsBound bound number standing.linked → IsTrue (covers bound entry.kind)
  pub united : IsUnited standing

-- what was declared is there further on, its type apart, and what has linkage had declarations before if it was there
pub record Remembers (old new : Standing) : Type 0 where
  pub entries : length old.known.declared ≤ length new.known.declared
  pub declared : (at : ℕ) (entry : Declaration) → slice_get old.known.declared at ≡ Some entry → (later : Declaration) × (slice_get new.known.declared at ≡ Some later) × IsSameEntry entry later
  pub linked : (more : List Linked) × (new.linked ≡ old.linked ++ more)
  pub unlinked : (at : ℕ) → at < length old.known.declared → is_linked at new.linked ≡ true → is_linked at old.linked ≡ true

-- ---- steps

-- where the code has come, this is what the definition knows
pub record Reached (later : List Shape) (new : Held) (before behind : Standing) : Type 0 where
  pub stands : StandsFor later new.known new.links behind
  pub lawful : IsLawful behind
  pub remembers : Remembers before behind

-- want of memory is free
abbrev pub Advances : {A B : Type 0} → (A → B) → Source → List Shape → Held → Standing → Result A Stop → Progress B → Type 0
Advances view source later new before (Ok it) progress = (behind : Standing) × (progress ≡ goes_on behind (view it)) × Reached later new before behind
Advances view source later new before (Err stop.Memory) progress = Unit {0}
Advances view source later new before (Err (stop.Refused refusal)) progress = (rule : ℕ) × (at : ℕ) × (progress ≡ stops rule at) × (refusal ≡ refusal_at source rule at)
Advances view source later new before (Err other) progress = ⊥

-- The code gives what the definition does, whatever numbers come. What it gives has numbered types, all numbers from before stay, and what
-- has changed can be undone behind the innermost scope.
pub record Proceeds {A B : Type 0} (Fits : Table → A → Type 0) (view : List Shape → A → B) (source : Source) (old new : Held) (result : Result A Stop) (progress : List Shape → Standing → Progress B) : Type 0 where
  pub shapes : Begins old.known.types.shapes new.known.types.shapes
  pub numbered : IfOk result (Fits new.known.types)
  pub within : IfOk result (λ it. IsWithin old new)
  pub gives : (later : List Shape) → Begins new.known.types.shapes later → (before : Standing) → StandsFor later old.known old.links before → IsLawful before
      → Advances (view later) source later new before result (progress later before)
