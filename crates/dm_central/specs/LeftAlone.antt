-- Frames that leave the closed objects of the frames below them alone: no name stands for these in them, and nothing in them writes there.
--     IsUnnamed n objects      no name stands for the object
--     HasNoEffect program n run      wherever no name stands for the object, the tree has no effect on it
--     FrameLeaves program B statics frame, CallerLeaves program B statics caller      the frame leaves these objects alone
--     IsClosedBelow test callers n      an object of one of these frames, of a declaration that the test picks out
--     AreLeftAlone program test state      each frame leaves those of the frames below it alone
--     AreKept program quiet test statics g starts callers now      at most what the functions above may write has changed since they were called
use Rattle.std.specs.Prelude.{◌≡◌, ◌⊎◌, ℕ, Bool, true, false, List, [], ◌∷◌, ◌++◌, Some}
use Rattle.dm_meaning.specs.Among.{IsAmong}
use Rattle.dm_meaning.specs.Operations.{of_value, World, Objects}
use Rattle.dm_meaning.specs.Programs.{Program}
use Rattle.dm_meaning.specs.Running.{Run, done, filled_in}
use Rattle.dm_meaning.specs.States.{Frame, Caller, State}
use Rattle.dm_meaning.specs.Values.{Name, numbered, Value}
use Rattle.dm_rewrite.specs.Effects.{Stage, call_effects, effects_of, IsFree, ChangesOnly}
use Rattle.dm_central.specs.Bodies.{closed_numbers}
use Rattle.dm_central.specs.Waiting.{UseHas, FrameKeeps}

abbrev pub IsUnnamed : ℕ → Objects → Type 0
IsUnnamed n objects = (entry : ℕ × ℕ) → IsAmong entry objects → entry.1 ≡ n → ⊥

-- where names stand for these objects, and no pointer leads to that of the number; no function is known to be quiet
abbrev pub alone_stage : Program → Objects → ℕ → Stage
alone_stage program objects n = record { scene = record { program = program; objects = objects }; closed = n ∷ []; quiet = λ f. false }

abbrev pub HasNoEffect : Program → ℕ → Run → Type 0
HasNoEffect program n run = (objects : Objects) → IsUnnamed n objects → IsFree (n ∷ []) (effects_of (alone_stage program objects n) run) n

-- ---- frames

-- what holds of the objects, of the names of what is initialised, and of the full expressions of a frame that leaves objects alone
abbrev pub AllUnnamed : (ℕ → Type 0) → Objects → Objects → Type 0
AllUnnamed B statics objects = (n : ℕ) → B n → IsUnnamed n (statics ++ objects)

abbrev pub IsOther : (ℕ → Type 0) → Name → Type 0
IsOther B name = (n : ℕ) → B n → name ≡ numbered n → ⊥

abbrev pub HasNoEffects : Program → (ℕ → Type 0) → Run → Type 0
HasNoEffects program B run = (n : ℕ) → B n → HasNoEffect program n run

abbrev pub FrameLeaves : Program → (ℕ → Type 0) → Objects → Frame → Type 0
FrameLeaves program B statics frame = FrameKeeps (AllUnnamed B statics) (IsOther B) (HasNoEffects program B) frame

-- one that waits for the value of a call
abbrev pub CallerLeaves : Program → (ℕ → Type 0) → Objects → Caller → Type 0
CallerLeaves program B statics caller =
    FrameLeaves program B statics caller.frame × UseHas (IsOther B) caller.use_of
    × ((value : Value) → HasNoEffects program B (filled_in caller.hole (done caller.kind (of_value value) [])))

-- ---- states

abbrev pub IsPickedIn : (ℕ → Bool) → Objects → ℕ → Type 0
IsPickedIn test objects n = (d : ℕ) × (test d ≡ true) × IsAmong (d, n) objects

abbrev pub IsClosedBelow : (ℕ → Bool) → List Caller → ℕ → Type 0
IsClosedBelow test [] n = ⊥
IsClosedBelow test (caller ∷ callers) n = IsPickedIn test caller.frame.objects n ⊎ IsClosedBelow test callers n

abbrev pub CallersLeave : Program → (ℕ → Bool) → Objects → List Caller → Type 0
CallersLeave program test statics [] = Unit {0}
CallersLeave program test statics (caller ∷ callers) =
    CallerLeaves program (IsClosedBelow test callers) statics caller × CallersLeave program test statics callers

pub record AreLeftAlone (program : Program) (test : ℕ → Bool) (state : State) : Type 0 where
  pub frame : FrameLeaves program (IsClosedBelow test state.callers) state.statics state.frame
  pub callers : CallersLeave program test state.statics state.callers

-- ---- what the objects hold

abbrev pub waiting_stage : Program → (ℕ → Bool) → (ℕ → Bool) → Objects → Caller → Stage
waiting_stage program quiet test statics caller =
    record { scene = record { program = program; objects = statics ++ caller.frame.objects }; closed = closed_numbers test caller.frame.objects; quiet = quiet }

-- Since the functions above were called, in these worlds, at most what they may write has changed: nothing where they are quiet, else what isn't
-- closed. The first caller waits for g.
abbrev pub AreKept : Program → (ℕ → Bool) → (ℕ → Bool) → Objects → ℕ → List World → List Caller → World → Type 0
AreKept program quiet test statics g [] [] now = Unit {0}
AreKept program quiet test statics g (start ∷ starts) (caller ∷ callers) now =
    ChangesOnly (waiting_stage program quiet test statics caller) (call_effects quiet (Some g)) start now × AreKept program quiet test statics caller.frame.function starts callers now
AreKept program quiet test statics g starts callers now = ⊥
