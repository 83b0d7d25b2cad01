-- The new program names the closed objects only so too. Its memory is that of the old one beside the objects of the parameters, so no pointer leads to
-- closed objects there, nor does the value of a parameter.
use Rattle.std.specs.Prelude.{◌≡◌, refl, ◌⊎◌, ℕ, ◌==◌, Bool, true, List, [], ◌∷◌}
use Rattle.std.proofs.Common.{ap, sym, ◌∙◌, subst, inl, inr}
use Rattle.dm_meaning.specs.Among.{IsAmong}
use Rattle.dm_meaning.specs.Called.{Called, new_of}
use Rattle.dm_meaning.specs.Extending.{HasAll}
use Rattle.dm_meaning.specs.Lifetimes.{numbers_of}
use Rattle.dm_meaning.specs.Memory.{Memory, look_up}
use Rattle.dm_meaning.specs.MoreObjects.{IsMade, ObjectsMade, IsSettled, with_memory}
use Rattle.dm_meaning.specs.Operations.{World, Objects}
use Rattle.dm_meaning.specs.States.{Caller, State}
use Rattle.dm_meaning.specs.Steps.{Step}
use Rattle.dm_meaning.specs.Units.{Begins}
use Rattle.dm_meaning.proofs.AmongLemmas.{among-map, among-map_from}
use Rattle.dm_meaning.proofs.EntryLemmas.{objects_in, AllSpare, spare_entry}
use Rattle.dm_meaning.proofs.GrowLemmas.{equal_is, equal_of}
use Rattle.dm_meaning.proofs.MatchLemmas.{parameter_block}
use Rattle.dm_meaning.proofs.PassRunLemmas.{Entry as Stored}
use Rattle.dm_meaning.proofs.PassStateLemmas.{Spare, flat}
use Rattle.dm_meaning.proofs.RunLemmas.{renamed_objects}
use Rattle.dm_rewrite.specs.Closed.{MemoryAvoids}
use Rattle.dm_rewrite.specs.ClosedStates.{ProgramNamesOnly}
use Rattle.dm_central.specs.Bodies.{Known, closed_numbers}
use Rattle.dm_central.specs.ClosedFrames.{CallersHave, AreClosedIn, AreAllClosed}
use Rattle.dm_central.specs.LeftAlone.{IsPickedIn}
use Rattle.dm_central.specs.StateAgreement.{InsideAgrees, AsideAgrees, Related, worlds_after}
use Rattle.dm_central.specs.Waiting.{IsWaiting}
use Rattle.dm_central.proofs.BeginLemmas.{begins_waiting}
use Rattle.dm_central.proofs.ClosedBeginLemmas.{begins_all_closed}
use Rattle.dm_central.proofs.ClosedFrameLemmas.{all_closed_later}
use Rattle.dm_central.proofs.KeptFrameLemmas.{picked_from}
use Rattle.dm_central.proofs.WaitingLemmas.{waiting_later}

-- ---- objects of related states

module _ (change : Called) (known : Known) (w : ℕ) (spare : Spare) (starts : List World) (state other : State) where
  -- both programs have one memory
  pub same_world : Related change known w spare starts state other → state.world ≡ other.world
  same_world (inl h) = h.1.world
  same_world (inr (first, rest, is, inl h)) = h.world
  same_world (inr (first, rest, is, inr h)) = h.world

made_renamed : (rename : ℕ → ℕ) (objects : Objects) (memory : Memory) → ObjectsMade memory objects → ObjectsMade memory (renamed_objects rename objects)
made_renamed rename objects memory made n l =
    let entry = among-map_from (λ (x : ℕ × ℕ). x.1) n (renamed_objects rename objects) l in
    let was = among-map_from (λ (x : ℕ × ℕ). (rename x.0, x.1)) entry.0 objects entry.1 in
    made n (subst (λ m. IsAmong m (numbers_of objects)) (sym (entry.2 ∙ ap (λ (x : ℕ × ℕ). x.1) was.2)) (among-map (λ (x : ℕ × ℕ). x.1) was.0 objects was.1))

-- the objects of the running frame have been made
pub related_made : (change : Called) (known : Known) (w : ℕ) (spare : Spare) (starts : List World) (state other : State) (more : Memory) → Related change known w spare starts state (with_memory other more)
    → IsSettled other → HasAll more other.world.memory → AllSpare change more other.world.memory (flat spare) → ObjectsMade more state.frame.objects
related_made change known w spare starts state other more (inl h) settled has spares =
    subst (ObjectsMade more) (sym h.1.objects) (made_renamed change.rename other.frame.objects more (λ n l. let made = settled.frame.0 n l in (made.0, has n made.0 made.1)))
related_made change known w spare starts state other more (inr (first, rest, is, k)) settled has spares = subst (ObjectsMade more) (sym (own_objects k)) stored_made
  where
    own_objects : InsideAgrees change known w first rest starts state (with_memory other more) ⊎ AsideAgrees change known w first rest starts state (with_memory other more) → state.frame.objects ≡ objects_in first
    own_objects (inl h) = h.objects
    own_objects (inr h) = h.objects

    stored_made : ObjectsMade more (objects_in first)
    stored_made n l =
        let entry = among-map_from (λ (x : ℕ × ℕ). x.1) n (objects_in first) l in
        let stored = among-map_from (λ (x : Stored). (x.parameter, x.stored)) entry.0 first entry.1 in
        let there = spare_entry change more other.world.memory first (flat rest) (subst (λ s. AllSpare change more other.world.memory (flat s)) is spares) stored.0 stored.1 in
        (parameter_block change stored.0.parameter stored.0.value, ap (λ m. look_up more m) (entry.2 ∙ ap (λ (x : ℕ × ℕ). x.1) stored.2) ∙ there.0)

-- ---- the new program's closed objects

module _ (change : Called) (closed : ℕ → Bool) (only : (d : ℕ) → closed d ≡ true → ProgramNamesOnly (change.rename d) (new_of change)) where
  abbrev test : ℕ → ℕ → Bool
  test d e = e == change.rename d

  named_only : (d : ℕ) → closed d ≡ true → (e : ℕ) → test d e ≡ true → ProgramNamesOnly e (new_of change)
  named_only d picked e same = subst (λ x. ProgramNamesOnly x (new_of change)) (sym (equal_of e (change.rename d) same)) (only d picked)

  -- what holds of its states
  pub record IsClear (state : State) : Type 0 where
    pub starts : List World
    pub waits : IsWaiting starts state
    pub closed_ones : (d : ℕ) → closed d ≡ true → AreAllClosed (test d) state

  pub begins_clear : (input : List ℕ) (state : State) → Begins (new_of change) input state → IsClear state
  begins_clear input state begins = record {
    starts = [];
    waits = begins_waiting (new_of change) input state begins;
    closed_ones = λ d picked. begins_all_closed (new_of change) (test d) (named_only d picked) input state begins;
  }

  pub clear_later : (s t : State) → Step (new_of change) s t → ((n : ℕ) → IsMade s.world.memory n → IsMade t.world.memory n) → ObjectsMade s.world.memory s.frame.objects → ObjectsMade t.world.memory t.frame.objects
      → IsClear s → IsClear t
  clear_later s t step made before after h =
      let waits = waiting_later (new_of change) s t step made h.starts h.waits before in record {
        starts = worlds_after h.starts s.world s.callers t.callers;
        waits = waits;
        closed_ones = λ d picked. all_closed_later (new_of change) (test d) (named_only d picked) (worlds_after h.starts s.world s.callers t.callers) s t step made waits.frame.0 after (h.closed_ones d picked);
      }

  -- no pointer leads to a closed object of the old program's frame
  pub clear_avoids : (known : Known) (w : ℕ) (spare : Spare) (starts : List World) (state other : State) → Related change known w spare starts state other → IsClear state
      → (n : ℕ) → IsAmong n (closed_numbers closed other.frame.objects) → MemoryAvoids n other.world.memory
  clear_avoids known w spare starts state other related h n l =
      subst (λ (world : World). MemoryAvoids n world.memory) (same_world change known w spare starts state other related) (by_frame related)
    where
      picked : IsPickedIn closed other.frame.objects n
      picked = picked_from closed other.frame.objects n l

      renamed : IsAmong (change.rename picked.0, n) (renamed_objects change.rename other.frame.objects)
      renamed = among-map (λ (x : ℕ × ℕ). (change.rename x.0, x.1)) (picked.0, n) other.frame.objects picked.2

      in_frame : (objects : Objects) → objects ≡ renamed_objects change.rename other.frame.objects → AreClosedIn (test picked.0) state objects → MemoryAvoids n state.world.memory
      in_frame objects e k = (k (change.rename picked.0, n) (subst (IsAmong (change.rename picked.0, n)) (sym e) renamed) (equal_is (change.rename picked.0) (change.rename picked.0) refl)).unreached.memory

      in_caller : (caller : Caller) (callers : List Caller) → state.callers ≡ caller ∷ callers → caller.frame.objects ≡ renamed_objects change.rename other.frame.objects → MemoryAvoids n state.world.memory
      in_caller caller callers e f = in_frame caller.frame.objects f (subst (CallersHave (AreClosedIn (test picked.0) state)) e (h.closed_ones picked.0 picked.1).callers).0.0

      by_frame : Related change known w spare starts state other → MemoryAvoids n state.world.memory
      by_frame (inl k) = in_frame state.frame.objects k.1.objects (h.closed_ones picked.0 picked.1).frame.0
      by_frame (inr (first, rest, is, inl k)) = in_caller k.caller k.others k.callers k.waits.objects
      by_frame (inr (first, rest, is, inr k)) = in_caller k.caller k.others k.callers k.waits.objects
