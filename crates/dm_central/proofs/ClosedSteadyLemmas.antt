-- What the relation asks of the old program it keeps, where its trees name certain declarations only where they read or write.
use Rattle.std.specs.Prelude.{◌≡◌, refl, ℕ, Bool, true, false, List, [], ◌∷◌, ◌++◌, Option, Some, None}
use Rattle.std.proofs.Common.{ap, sym, ◌∙◌, subst, inl}
use Rattle.dm_token.specs.declared.place.Place.{Place}
use Rattle.dm_tree.specs.Trees.{is_statement, Tree, label_of}
use Rattle.dm_meaning.specs.Among.{IsAmong}
use Rattle.dm_meaning.specs.Called.{Called}
use Rattle.dm_meaning.specs.Extending.{HasAll}
use Rattle.dm_meaning.specs.Memory.{Memory, Block, look_up, look, value_in, or_unset, contents_at}
use Rattle.dm_meaning.specs.MoreObjects.{with_memory}
use Rattle.dm_meaning.specs.Operations.{World, Scene}
use Rattle.dm_meaning.specs.Running.{Run, begun}
use Rattle.dm_meaning.specs.States.{Use, Task, evaluates, Caller, State}
use Rattle.dm_meaning.specs.Statements.{unfolded}
use Rattle.dm_meaning.specs.Steps.{scene_of}
use Rattle.dm_meaning.specs.Values.{Name, numbered, literal_of, elsewhere, At}
use Rattle.dm_meaning.proofs.KnownLemmas.{NamesKnown}
use Rattle.dm_rewrite.specs.Closed.{MemoryAvoids}
use Rattle.dm_rewrite.specs.ClosedStates.{AreTasksClosed}
use Rattle.dm_rewrite.specs.Computed.{IsPure}
use Rattle.dm_rewrite.specs.KeptMemory.{IsThere, HasSameObjects, KeepsPlaces, emptied}
use Rattle.dm_rewrite.proofs.ComputedKeptLemmas.{kept_computation}
use Rattle.dm_rewrite.proofs.FrameChangeLemmas.{usable_made}
use Rattle.dm_central.specs.Agreement.{Mode, outside, inside}
use Rattle.dm_central.specs.Bodies.{closed_numbers}
use Rattle.dm_central.specs.ClosedFrames.{CallersHave, AreClosedIn, AreAllClosed}
use Rattle.dm_central.specs.ClosedPrograms.{known_with}
use Rattle.dm_central.specs.LeftAlone.{AreKept}
use Rattle.dm_central.specs.Outcomes.{ComesSafely}
use Rattle.dm_central.specs.Standing.{StandsIn}
use Rattle.dm_central.specs.StateAgreement.{FirstHasWaited, IsSteady}
use Rattle.dm_central.specs.Waiting.{AreOwn, IsWaiting}
use Rattle.dm_central.proofs.KeptFrameLemmas.{picked_from}
use Rattle.dm_central.proofs.LeftAloneLemmas.{tasks_closed}
use Rattle.dm_central.proofs.SteadyLemmas.{named_once}

safe_in : Mode → Tree → Bool
safe_in (outside safe) tree = safe tree
safe_in (inside entries) tree = false

-- memory that has all objects of another one
same_beside : (memory more : Memory) → HasAll more memory → HasSameObjects memory more
same_beside memory more has (numbered n) there = by_option (look_up memory n) refl
  where
    by_option : (o : Option Block) → look_up memory n ≡ o → emptied (look_up more n) ≡ emptied (look_up memory n)
    by_option None e = absurd (usable_made memory n there e)
    by_option (Some block) e = ap emptied (has n block e ∙ sym e)
same_beside memory more has (literal_of bytes unit) there = refl
same_beside memory more has (elsewhere identifier) there = refl

places_beside : (memory more : Memory) → HasAll more memory → (places : List At) → KeepsPlaces memory more places
places_beside memory more has places at l there = by_name at.name refl there
  where
    by_name : (name : Name) → at.name ≡ name → IsThere memory name → contents_at more at ≡ contents_at memory at
    by_name (numbered n) f there_is = by_option (look_up memory n) refl
      where
        by_option : (o : Option Block) → look_up memory n ≡ o → contents_at more at ≡ contents_at memory at
        by_option None e = absurd (usable_made memory n there_is e)
        by_option (Some block) e =
            ap (λ name. or_unset (value_in at.path (look more name))) f ∙ ap (λ o. or_unset (value_in at.path o)) (has n block e ∙ sym e)
            ∙ sym (ap (λ name. or_unset (value_in at.path (look memory name))) f)
    by_name (literal_of bytes unit) f there_is = ap (λ name. or_unset (value_in at.path (look more name))) f ∙ sym (ap (λ name. or_unset (value_in at.path (look memory name))) f)
    by_name (elsewhere identifier) f there_is = ap (λ name. or_unset (value_in at.path (look more name))) f ∙ sym (ap (λ name. or_unset (value_in at.path (look memory name))) f)

-- what always comes to something does so beside more objects
safe_beside : (scene : Scene) (world : World) (more : Memory) → HasAll more world.memory → (run : Run) → IsPure run × ComesSafely scene world run → ComesSafely scene (record world { memory = more }) run
safe_beside scene world more has run h =
    let found = h.1 in
    (found.0, kept_computation scene world (record world { memory = more }) (same_beside world.memory more has) run h.0 found.0 found.1 (places_beside world.memory more has found.0.reads), found.2)

pub steady_here : (change : Called) (closed quiet : ℕ → Bool) (safe : Tree → Bool) (starts : List World) (other : State) (memory : Memory) → NamesKnown change.old other → IsWaiting starts (with_memory other memory)
    → ((entry : ℕ × ℕ) → IsAmong entry other.statics → closed entry.0 ≡ true → ⊥)
    → ((n : ℕ) → IsAmong n (closed_numbers closed other.frame.objects) → MemoryAvoids n memory) → AreAllClosed closed other
    → AreKept change.old quiet closed other.statics other.frame.function starts other.callers (with_memory other memory).world
    → ((place : Place) (tree : Tree) (use_of : Use) (rest : List Task) → unfolded other.frame.tasks ≡ evaluates place (begun tree) use_of ∷ rest → is_statement (label_of tree) ≡ false)
    → HasAll memory other.world.memory
    → ((place : Place) (run : Run) (use_of : Use) (rest : List Task) → unfolded other.frame.tasks ≡ evaluates place run use_of ∷ rest → (tree : Tree) → safe tree ≡ true → StandsIn (begun tree) run
    → IsPure (begun tree) × ComesSafely (scene_of change.old other) other.world (begun tree))
    → IsSteady change (known_with closed quiet safe) starts (with_memory other memory)
unfolding safe_in
steady_here change closed quiet safe starts other memory names waiting none avoids all kept whole has always = record {
  names = names;
  named = named_once (known_with closed quiet safe) other.statics starts other.frame.objects waiting.frame.0 none;
  made = λ start l n k. (waiting.since start l).made n k;
  avoids = avoids;
  closed = λ place run use_of rest e n l.
      let d = picked_from closed other.frame.objects n l in
      (subst (AreTasksClosed n d.0 (other.statics ++ other.frame.objects)) e (tasks_closed n d.0 other (all.frame.0 (d.0, n) d.2 d.1))).0.0;
  whole = whole;
  safe = λ place run use_of rest e picked is. (
    λ lock l. inl l,
    λ tree chosen stands.
        let here : safe tree ≡ true = ap (λ mode. safe_in mode tree) is ∙ chosen in
        safe_beside (scene_of change.old other) other.world memory has (begun tree) (always place run use_of rest e tree here stands),
  );
  waited = by_callers starts other.callers waiting.frame.0 all.callers kept;
}
  where
    by_callers : (ws : List World) (callers : List Caller) → AreOwn other.statics ws other.frame.objects → CallersHave (AreClosedIn closed other) callers
        → AreKept change.old quiet closed other.statics other.frame.function ws callers (with_memory other memory).world → FirstHasWaited change (known_with closed quiet safe) ws (with_memory other memory) callers
    by_callers [] callers own below k = tt
    by_callers (start ∷ more) [] own below k = tt
    by_callers (start ∷ more) (caller ∷ callers) own below k = record {
      since = k.0;
      own = λ n l. own.missing start (inl refl) n l;
      avoids = λ value rest e n l.
          let d = picked_from closed caller.frame.objects n l in
          (subst (AreTasksClosed n d.0 (other.statics ++ other.frame.objects)) e (tasks_closed n d.0 other (below.0.0 (d.0, n) d.2 d.1))).0;
    }
