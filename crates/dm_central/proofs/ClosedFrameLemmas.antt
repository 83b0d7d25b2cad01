-- A step leaves the objects closed that certain declarations name, in all frames: those that were closed stay so, and those that are made are closed
-- when they are.
use Rattle.std.specs.Prelude.{◌≡◌, refl, ◌⊎◌, ℕ, suc, Bool, true, List, [], ◌∷◌, length, None}
use Rattle.std.proofs.Common.{ap, sym, ◌∙◌, subst, inl, inr}
use Rattle.dm_tree.specs.Trees.{Tree, parts_of}
use Rattle.dm_meaning.specs.Among.{IsAmong}
use Rattle.dm_meaning.specs.Memory.{look_up}
use Rattle.dm_meaning.specs.MoreObjects.{IsMade, ObjectsMade}
use Rattle.dm_meaning.specs.Operations.{World, Objects}
use Rattle.dm_meaning.specs.Programs.{Program, Definition}
use Rattle.dm_meaning.specs.Running.{Run}
use Rattle.dm_meaning.specs.States.{Use, drops, chooses, selects, repeats, continues, returns, initialises, Task, begins, declares, initials, evaluates, again, tests, ends, ends_switch, leaves, skips, hands_back, Frame, Caller, State}
use Rattle.dm_meaning.specs.Statements.{declared_in, named_from, entered}
use Rattle.dm_meaning.specs.Steps.{opened_frame, Step}
use Rattle.dm_meaning.proofs.AmongLemmas.{among-map}
use Rattle.dm_meaning.proofs.OptionLemmas.{none_is_some}
use Rattle.dm_meaning.specs.Values.{Name}
use Rattle.dm_rewrite.specs.ClosedStates.{ProgramNamesOnly, OnlyNames, IsUnreached, IsClosedState}
use Rattle.dm_rewrite.proofs.ClosedStateLemmas.{unreached_step}
use Rattle.dm_central.specs.ClosedFrames.{CallersHave, AreClosedIn, AreAllClosed}
use Rattle.dm_central.specs.Waiting.{UseHas, TaskKeeps, TasksKeep, FrameKeeps, any_name, any_run, FrameHas, AreOwn}
use Rattle.dm_central.proofs.BehindLemmas.{never_made}
use Rattle.dm_central.proofs.ShapeLemmas.{items_have_none, Shape, any_use, objects_shape}

-- ---- what holds of one list of objects, and so of another

module _ (P Q : Objects → Type 0) (M N : Name → Type 0) (R S : Run → Type 0) (follows : (objects : Objects) → P objects → Q objects) (names : (name : Name) → M name → N name)
    (runs : (run : Run) → R run → S run) where
  pub use_follows : (use_of : Use) → UseHas M use_of → UseHas N use_of
  use_follows (initialises at kind) h = names at.name h
  use_follows drops h = tt
  use_follows (chooses first second) h = tt
  use_follows (selects items) h = tt
  use_follows (repeats loop) h = tt
  use_follows (continues loop) h = tt
  use_follows returns h = tt

  task_follows : (task : Task) → TaskKeeps P M R task → TaskKeeps Q N S task
  task_follows (again objects loop) h = follows objects h
  task_follows (tests objects loop) h = follows objects h
  task_follows (ends objects) h = follows objects h
  task_follows (ends_switch objects) h = follows objects h
  task_follows (begins tree) h = tt
  task_follows (declares declarator expressions) h = tt
  task_follows (initials at kind initialiser expressions) h = names at.name h
  task_follows (evaluates place run use_of) h = (runs run h.0, use_follows use_of h.1)
  task_follows leaves h = tt
  task_follows skips h = tt
  task_follows (hands_back value) h = tt

  tasks_follow : (tasks : List Task) → TasksKeep P M R tasks → TasksKeep Q N S tasks
  tasks_follow [] h = tt
  tasks_follow (task ∷ tasks) h = (task_follows task h.0, tasks_follow tasks h.1)

  pub all_follows : (frame : Frame) → FrameKeeps P M R frame → FrameKeeps Q N S frame
  all_follows frame h = (follows frame.objects h.0, tasks_follow frame.tasks h.1)

module _ (P Q : Objects → Type 0) (follows : (objects : Objects) → P objects → Q objects) where
  pub frame_follows : (frame : Frame) → FrameHas P frame → FrameHas Q frame
  frame_follows frame h = all_follows P Q any_name any_name any_run any_run follows (λ name k. k) (λ run k. k) frame h

  callers_follow : (callers : List Caller) → CallersHave P callers → CallersHave Q callers
  callers_follow [] h = tt
  callers_follow (caller ∷ callers) h = (frame_follows caller.frame h.0, callers_follow callers h.1)

-- an object that a block or a call adds has one of the new names
pub from_named : (names : ℕ → ℕ) (i : ℕ) (ds : List ℕ) (objects : Objects) (entry : ℕ × ℕ) → IsAmong entry (named_from names i ds objects)
    → IsAmong entry objects ⊎ ((j : ℕ) × (entry.1 ≡ names j))
from_named names i [] objects entry l = inl l
from_named names i (d ∷ ds) objects entry l = by_rest (from_named names (suc i) ds ((d, names i) ∷ objects) entry l)
  where
    by_rest : IsAmong entry ((d, names i) ∷ objects) ⊎ ((j : ℕ) × (entry.1 ≡ names j)) → IsAmong entry objects ⊎ ((j : ℕ) × (entry.1 ≡ names j))
    by_rest (inl (inl e)) = inr (i, ap (λ (x : ℕ × ℕ). x.1) e)
    by_rest (inl (inr k)) = inl k
    by_rest (inr k) = inr k

-- and is one of these declarations
pub declared_from : (names : ℕ → ℕ) (i : ℕ) (ds : List ℕ) (objects : Objects) (entry : ℕ × ℕ) → IsAmong entry (named_from names i ds objects) → IsAmong entry objects ⊎ IsAmong entry.0 ds
declared_from names i [] objects entry l = inl l
declared_from names i (d ∷ ds) objects entry l = by_rest (declared_from names (suc i) ds ((d, names i) ∷ objects) entry l)
  where
    by_rest : IsAmong entry ((d, names i) ∷ objects) ⊎ IsAmong entry.0 ds → IsAmong entry objects ⊎ IsAmong entry.0 (d ∷ ds)
    by_rest (inl (inl e)) = inr (inl (ap (λ (x : ℕ × ℕ). x.0) e))
    by_rest (inl (inr k)) = inl k
    by_rest (inr k) = inr (inr k)

pub only_from : (n d : ℕ) (objects : Objects) → ((entry : ℕ × ℕ) → IsAmong entry objects → entry.1 ≡ n → entry.0 ≡ d) → OnlyNames n d objects
only_from n d [] h = tt
only_from n d (entry ∷ entries) h = (h entry (inl refl), only_from n d entries (λ other l e. h other (inr l) e))

-- ---- steps

module _ (program : Program) (test : ℕ → Bool) (all : (d : ℕ) → test d ≡ true → ProgramNamesOnly d program) (starts : List World) (s t : State)
    (step : Step program s t) (lasts : (n : ℕ) → IsMade s.world.memory n → IsMade t.world.memory n) (own : AreOwn t.statics starts t.frame.objects)
    (made : ObjectsMade t.world.memory t.frame.objects) (h : AreAllClosed test s) where
  -- before the step, one that is named behind it had been made, or it is new, and named by the frame
  abbrev WasClosed : ℕ × ℕ → Type 0
  WasClosed entry = IsUnreached entry.1 entry.0 s × (IsMade s.world.memory entry.1 ⊎ IsAmong entry t.frame.objects)

  abbrev WereClosed : Objects → Type 0
  WereClosed objects = (entry : ℕ × ℕ) → IsAmong entry objects → test entry.0 ≡ true → WasClosed entry

  were_closed : (objects : Objects) → AreClosedIn test s objects → WereClosed objects
  were_closed objects k entry l picked = let there = k entry l picked in (there.unreached, inl there.made)

  is_closed : (entry : ℕ × ℕ) → test entry.0 ≡ true → WasClosed entry → IsClosedState entry.1 entry.0 t
  is_closed entry picked (k, inl there) =
      let next = unreached_step entry.1 entry.0 program (all entry.0 picked) s t k step (inl there) in record { made = next.1 there; unreached = next.0 }
  is_closed entry picked (k, inr l) = record {
    made = made entry.1 (among-map (λ (x : ℕ × ℕ). x.1) entry t.frame.objects l);
    unreached =
        (unreached_step entry.1 entry.0 program (all entry.0 picked) s t k step
        (inr (only_from entry.1 entry.0 t.frame.objects (λ other m e. own.apart other entry (inr m) (inr l) e)))).0;
  }

  are_closed : (objects : Objects) → WereClosed objects → AreClosedIn test t objects
  are_closed objects k entry l picked = is_closed entry picked (k entry l picked)

  new_closed : (j : ℕ) (entry : ℕ × ℕ) → entry.1 ≡ step.0 j → test entry.0 ≡ true → IsAmong entry t.frame.objects → WasClosed entry
  new_closed j entry e picked l = (h.unmade entry.0 picked entry.1 (ap (look_up s.world.memory) e ∙ step.1.1 j), inr l)

  entered_closed : (items : List Tree) → entered program step.0 items s.frame.objects ≡ t.frame.objects → WereClosed (entered program step.0 items s.frame.objects)
  entered_closed items is entry l picked = by_origin (from_named step.0 0 (declared_in program items) s.frame.objects entry l)
    where
      by_origin : IsAmong entry s.frame.objects ⊎ ((j : ℕ) × (entry.1 ≡ step.0 j)) → WasClosed entry
      by_origin (inl k) = were_closed s.frame.objects h.frame.0 entry k picked
      by_origin (inr (j, e)) = new_closed j entry e picked (subst (IsAmong entry) is l)

  opened_closed : (definition : Definition) → t.frame ≡ opened_frame program step.0 definition → FrameHas WereClosed (opened_frame program step.0 definition)
  opened_closed definition is = (λ entry l picked. by_origin entry l picked (from_named step.0 count (declared_in program (parts_of definition.body)) given entry l), items_have_none program WereClosed any_name any_run (parts_of definition.body))
    where
      count : ℕ
      count = length definition.parameters

      given : Objects
      given = named_from step.0 0 definition.parameters []

      by_origin : (entry : ℕ × ℕ) → IsAmong entry (named_from step.0 count (declared_in program (parts_of definition.body)) given) → test entry.0 ≡ true
          → IsAmong entry given ⊎ ((j : ℕ) × (entry.1 ≡ step.0 j)) → WasClosed entry
      by_origin entry l picked (inr (j, e)) = new_closed j entry e picked (subst (λ (frame : Frame). IsAmong entry frame.objects) (sym is) l)
      by_origin entry l picked (inl k) = by_parameter (from_named step.0 0 definition.parameters [] entry k)
        where
          by_parameter : IsAmong entry [] ⊎ ((j : ℕ) × (entry.1 ≡ step.0 j)) → WasClosed entry
          by_parameter (inl m) = absurd m
          by_parameter (inr (j, e)) = new_closed j entry e picked (subst (λ (frame : Frame). IsAmong entry frame.objects) (sym is) l)

  -- the frames behind the step
  frames_closed : Shape program WereClosed any_name any_run step.0 s t → FrameHas WereClosed t.frame × CallersHave WereClosed t.callers
  frames_closed (inl k) =
      (k.frame, subst (CallersHave WereClosed) (sym k.callers) (callers_follow (AreClosedIn test s) WereClosed were_closed s.callers h.callers))
  frames_closed (inr (inl k)) = (
    subst (FrameHas WereClosed) (sym k.frame) (opened_closed k.definition k.frame),
    subst (CallersHave WereClosed) (sym k.callers) (k.waits, callers_follow (AreClosedIn test s) WereClosed were_closed s.callers h.callers),
  )
  frames_closed (inr (inr k)) =
      let waited = callers_follow (AreClosedIn test s) WereClosed were_closed (k.caller ∷ k.behind) (subst (CallersHave (AreClosedIn test s)) k.was h.callers) in (
        subst (FrameHas WereClosed) (sym k.frame) (waited.0.0, ((tt, any_use k.caller.use_of), waited.0.1)),
        subst (CallersHave WereClosed) (sym k.callers) waited.1,
      )

  still_unmade : (d : ℕ) → test d ≡ true → (n : ℕ) → look_up t.world.memory n ≡ None → IsUnreached n d t
  still_unmade d picked n e =
      (unreached_step n d program (all d picked) s t (h.unmade d picked n (never_made s.world.memory t.world.memory n (lasts n) e)) step
      (inr (only_from n d t.frame.objects (λ entry l f. not_named entry l f)))).0
    where
      not_named : (entry : ℕ × ℕ) → IsAmong entry t.frame.objects → entry.1 ≡ n → entry.0 ≡ d
      not_named entry l f =
          let there = made entry.1 (among-map (λ (x : ℕ × ℕ). x.1) entry t.frame.objects l) in
          absurd (none_is_some there.0 (sym e ∙ ap (look_up t.world.memory) (sym f) ∙ there.1))

  pub all_closed_later : AreAllClosed test t
  all_closed_later =
      let frames = frames_closed (objects_shape program WereClosed (λ objects. objects ≡ t.frame.objects) s t step
      (frame_follows (AreClosedIn test s) WereClosed were_closed s.frame h.frame) entered_closed refl) in record {
        unmade = still_unmade;
        frame = frame_follows WereClosed (AreClosedIn test t) are_closed t.frame frames.0;
        callers = callers_follow WereClosed (AreClosedIn test t) are_closed t.callers frames.1;
      }
