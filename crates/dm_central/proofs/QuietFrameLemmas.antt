-- A step in the frame of a function that writes nothing leaves memory as it is, but for the objects of functions that are called, which are new, and
-- those of its own frame, which die.
use Rattle.std.specs.Prelude.{◌≡◌, refl, ◌⊎◌, ℕ, Bool, true, false, List, [], ◌∷◌, ◌++◌, suc, ◌+◌, length, Option, Some, None, if◌then◌else◌}
use Rattle.std.proofs.Common.{true≢false, ap, sym, ◌∙◌, subst, inl, inr}
use Rattle.dm_token.specs.declared.place.Place.{Place}
use Rattle.dm_type.specs.CTypes.{CType}
use Rattle.dm_meaning.specs.declared.cause.Cause.TheVariants.{NoValue}
use Rattle.dm_meaning.specs.Among.{IsAmong}
use Rattle.dm_meaning.specs.Expressions.{Move, goes, calls, fails, exits, value_of, moves}
use Rattle.dm_meaning.specs.Lifetimes.{numbers_of}
use Rattle.dm_meaning.specs.Machines.{Standing, undefined}
use Rattle.dm_meaning.specs.Memory.{written, killed}
use Rattle.dm_meaning.specs.Operations.{of_value, World, Objects}
use Rattle.dm_meaning.specs.Programs.{Program, Definition, definition_of}
use Rattle.dm_meaning.specs.Running.{Run, done, to_do, begun, Hole, filled_in, locks_in}
use Rattle.dm_meaning.specs.States.{returns, Task, evaluates, hands_back, Frame, Caller, State}
use Rattle.dm_meaning.specs.Statements.{unfolded, items_tasks}
use Rattle.dm_meaning.specs.Steps.{opened_frame, opened_memory, opened, lacks_value, resumed, gone_back, handed_back, moved, scene_of, expression_steps, task_steps, Step}
use Rattle.dm_meaning.specs.Units.{start, Begins}
use Rattle.dm_meaning.specs.Values.{Name, numbered, literal_of, elsewhere, At, Value}
use Rattle.dm_meaning.proofs.AmongLemmas.{among-map_from}
use Rattle.dm_meaning.proofs.StateLemmas.{from_steps}
use Rattle.dm_rewrite.specs.Effects.{Effect, on_object, on_others, Stage, effects_of, LeavesNoMore, Writes, IsFree}
use Rattle.dm_rewrite.proofs.EffectLemmas.{step_writes}
use Rattle.dm_rewrite.proofs.ShrinkEffectLemmas.{run_calm}
use Rattle.dm_central.specs.QuietFrames.{quiet_stage, IsQuietRun, AreQuiet, QuietTasks, FrameIsQuiet, CallerIsQuiet, CallersAreQuiet, AreQuietFrames}
use Rattle.dm_central.specs.Waiting.{any_name, any_run}
use Rattle.dm_central.proofs.ShapeLemmas.{Shape, tasks_any, objects_shape}
use Rattle.dm_central.proofs.TopLemmas.{found_among, found_number}
use Rattle.dm_central.proofs.WholeLemmas.{main_among}

-- ---- trees

-- what nothing is hit by has no effect
none_of_free : (effects : List Effect) → ((n : ℕ) → IsFree [] effects n) → (effect : Effect) → IsAmong effect effects → ⊥
none_of_free effects free (on_object m) l = free m (on_object m) l refl
none_of_free effects free on_others l = free 0 on_others l (λ k. k)

module _ (program : Program) (quiet : ℕ → Bool) (objects : Objects) (world : World) (run : Run) (silent : IsQuietRun program quiet objects run) where
  abbrev stage : Stage
  stage = quiet_stage program quiet objects

  still_free : (n : ℕ) → IsFree [] (effects_of stage run) n
  still_free n effect l hit = silent effect l

  pub goes_quiet : (after : World) (later : Run) → IsAmong (goes after later) (moves stage.scene world (locks_in run) run) → IsQuietRun program quiet objects later
  goes_quiet after later k =
      none_of_free (effects_of stage later) (λ n. run_calm stage world (locks_in run) (λ m l. absurd l) run (λ m l. absurd l) (goes after later) k n (still_free n))

  -- it calls such functions alone
  pub calls_quiet : (f : ℕ) (arguments : List Value) (kind : CType) (hole : Hole) → IsAmong (calls f arguments kind hole) (moves stage.scene world (locks_in run) run)
      → (quiet f ≡ true) × ((value : Value) → IsQuietRun program quiet objects (filled_in hole (done kind (of_value value) [])))
  calls_quiet f arguments kind hole k = (
    by_quiet (quiet f) refl,
    λ value.
        none_of_free (effects_of stage (filled_in hole (done kind (of_value value) [])))
        (λ n. calm.1 value [] (λ m free effect none. absurd none) n (still_free n)),
  )
    where
      calm : LeavesNoMore stage (effects_of stage run) (calls f arguments kind hole)
      calm = run_calm stage world (locks_in run) (λ m l. absurd l) run (λ m l. absurd l) (calls f arguments kind hole) k

      by_quiet : (b : Bool) → quiet f ≡ b → quiet f ≡ true
      by_quiet true e = e
      by_quiet false e = absurd (silent on_others (calm.0 on_others (subst (λ b. IsAmong on_others (if b then [] else on_others ∷ [])) (sym e) (inl refl))))

  -- and writes nothing
  pub memory_still : (after : World) (later : Run) → IsAmong (goes after later) (moves stage.scene world (locks_in run) run) → after.memory ≡ world.memory
  memory_still after later k = by_writes (step_writes stage world (locks_in run) run later after k)
    where
      by_name : (at : At) (value : Value) → ((n : ℕ) → at.name ≡ numbered n → ⊥) → (name : Name) → at.name ≡ name → written world.memory at value ≡ world.memory
      by_name at value none (numbered n) e = absurd (none n e)
      by_name at value none (literal_of bytes unit) e = ap (λ name. written world.memory (record { name = name; path = at.path }) value) e
      by_name at value none (elsewhere identifier) e = ap (λ name. written world.memory (record { name = name; path = at.path }) value) e

      by_writes : Writes world after (effects_of stage run) → after.memory ≡ world.memory
      by_writes (inl e) = e
      by_writes (inr w) = w.is ∙ by_name w.at w.value (λ n e. silent (on_object n) (w.among n e)) w.at.name refl

-- ---- the running frame

module _ (program : Program) (quiet : ℕ → Bool) where
  -- the frame goes on, calls such a function, or returns
  pub record QuietStays (state other : State) : Type 0 where
    pub callers : other.callers ≡ state.callers
    pub statics : other.statics ≡ state.statics
    pub function : other.frame.function ≡ state.frame.function
    pub objects : other.frame.objects ≡ state.frame.objects
    pub tasks : QuietTasks program quiet (state.statics ++ state.frame.objects) other.frame.tasks
    pub memory : other.world.memory ≡ state.world.memory

  pub record QuietCalls (names : ℕ → ℕ) (state other : State) : Type 0 where
    pub caller : Caller
    pub definition : Definition
    pub arguments : List Value
    pub callers : other.callers ≡ caller ∷ state.callers
    pub statics : other.statics ≡ state.statics
    pub function : caller.frame.function ≡ state.frame.function
    pub objects : caller.frame.objects ≡ state.frame.objects
    pub tasks : caller.frame.tasks ≡ []
    pub use_of : caller.use_of ≡ returns
    pub resumes : (value : Value) → IsQuietRun program quiet (state.statics ++ state.frame.objects) (filled_in caller.hole (done caller.kind (of_value value) []))
    pub above : quiet definition.function ≡ true
    pub found : IsAmong definition program.functions
    pub frame : other.frame ≡ opened_frame program names definition
    pub world : other.world ≡ record state.world { memory = opened_memory program names definition arguments state.world.memory }

  pub record QuietReturns (state other : State) : Type 0 where
    pub caller : Caller
    pub value : Value
    pub behind : List Caller
    pub was : state.callers ≡ caller ∷ behind
    pub callers : other.callers ≡ behind
    pub statics : other.statics ≡ state.statics
    pub frame : other.frame ≡ resumed caller value
    pub world : other.world ≡ record state.world { memory = killed (numbers_of state.frame.objects) state.world.memory }

  abbrev pub QuietStep : (ℕ → ℕ) → State → State → Type 0
  QuietStep names state other = QuietStays state other ⊎ (QuietCalls names state other ⊎ QuietReturns state other)

  module _ (names : ℕ → ℕ) (state : State) where
    abbrev here : Objects
    here = state.statics ++ state.frame.objects

    -- the state stands otherwise, or its frame has such tasks
    stands : (tasks : QuietTasks program quiet here state.frame.tasks) (standing : Standing) → QuietStep names state (record state { standing = standing })
    stands tasks standing = inl (record { callers = refl; statics = refl; function = refl; objects = refl; tasks = tasks; memory = refl })

    with_tasks : (tasks : List Task) → QuietTasks program quiet here tasks → (world : World) → world.memory ≡ state.world.memory
        → QuietStep names state (record state { frame = record state.frame { tasks = tasks }; world = world })
    with_tasks tasks h world e = inl (record { callers = refl; statics = refl; function = refl; objects = refl; tasks = h; memory = e })

    module _ (now : QuietTasks program quiet here state.frame.tasks) where
      back : (value : Value) (callers : List Caller) → state.callers ≡ callers → QuietStep names state (handed_back state value callers)
      back value [] e = stands now _
      back value (caller ∷ callers) e = by_lack (lacks_value caller.kind value)
        where
          by_lack : (b : Bool) → QuietStep names state (if b then record state { standing = undefined NoValue caller.place } else gone_back state value caller callers)
          by_lack true = stands now (undefined NoValue caller.place)
          by_lack false = inr (inr (record { caller = caller; value = value; behind = callers; was = e; callers = refl; statics = refl; frame = refl; world = refl }))

      open_quiet : (place : Place) (kind : CType) (hole : Hole) (arguments : List Value) → ((value : Value) → IsQuietRun program quiet here (filled_in hole (done kind (of_value value) []))) → (f : ℕ) → quiet f ≡ true
          → (o : Option Definition) → definition_of program f ≡ o → QuietStep names state (opened program names state [] place returns kind hole arguments o)
      open_quiet place kind hole arguments resumes f q None e = stands now _
      open_quiet place kind hole arguments resumes f q (Some definition) e =
          let number = found_number program.functions f definition e in
          inr (inl (record {
            caller = record { frame = record state.frame { tasks = [] }; place = place; kind = kind; hole = hole; use_of = returns };
            definition = definition;
            arguments = arguments;
            callers = refl;
            statics = refl;
            function = refl;
            objects = refl;
            tasks = refl;
            use_of = refl;
            resumes = resumes;
            above = ap quiet number ∙ q;
            found = found_among program.functions f definition e;
            frame = refl;
            world = refl;
          }))

      move_quiet : (place : Place) (run : Run) → IsQuietRun program quiet here run → (m : Move Run Hole) → IsAmong m (moves (scene_of program state) state.world (locks_in run) run)
          → QuietStep names state (moved program names state [] place returns m)
      move_quiet place run silent (goes world later) k =
          with_tasks (evaluates place later returns ∷ []) (inr (inl (place, later, refl, goes_quiet program quiet here state.world run silent world later k))) world (memory_still program quiet here state.world run silent world later k)
      move_quiet place run silent (calls f arguments kind hole) k =
          let c = calls_quiet program quiet here state.world run silent f arguments kind hole k in open_quiet place kind hole arguments c.1 f c.0 (definition_of program f) refl
      move_quiet place run silent (fails cause at) k = stands now _
      move_quiet place run silent (exits status) k = stands now _

      one_quiet : (one other : State) → QuietStep names state one → IsAmong other (one ∷ []) → QuietStep names state other
      one_quiet one other h (inl e) = subst (QuietStep names state) (sym e) h
      one_quiet one other h (inr l) = absurd l

      evaluated_quiet : (place : Place) (run : Run) → IsQuietRun program quiet here run → (other : State) → IsAmong other (expression_steps program names state [] place returns run) → QuietStep names state other
      evaluated_quiet place (done kind result locks) silent other k =
          one_quiet _ other (with_tasks (hands_back (value_of result) ∷ []) (inr (inr (value_of result, refl))) state.world refl) k
      evaluated_quiet place (to_do doing kind at parts) silent other k =
          let from = among-map_from (moved program names state [] place returns) other (moves (scene_of program state) state.world (locks_in (to_do doing kind at parts)) (to_do doing kind at parts)) k in
          subst (QuietStep names state) (sym from.2) (move_quiet place (to_do doing kind at parts) silent from.0 from.1)

      tasks_quiet : (tasks : List Task) → QuietTasks program quiet here tasks → (other : State) → IsAmong other (task_steps program names state (unfolded tasks)) → QuietStep names state other
      tasks_quiet tasks (inl (kind, spans, value, e, silent)) other k =
          one_quiet _ other (with_tasks _ (inr (inl (_, begun value, refl, silent here))) state.world refl) (subst (λ ts. IsAmong other (task_steps program names state (unfolded ts))) e k)
      tasks_quiet tasks (inr (inl (place, run, e, silent))) other k = evaluated_quiet place run silent other (subst (λ ts. IsAmong other (task_steps program names state (unfolded ts))) e k)
      tasks_quiet tasks (inr (inr (value, e))) other k = one_quiet _ other (back value state.callers refl) (subst (λ ts. IsAmong other (task_steps program names state (unfolded ts))) e k)

  pub quiet_step : (state other : State) (step : Step program state other) → QuietTasks program quiet (state.statics ++ state.frame.objects) state.frame.tasks → QuietStep step.0 state other
  quiet_step state other step now = tasks_quiet step.0 state now state.frame.tasks now other (from_steps state.standing (task_steps program step.0 state (unfolded state.frame.tasks)) other step.2).1

-- ---- all frames

module _ (program : Program) (quiet : ℕ → Bool) (all : AreQuiet program quiet) where
  -- the frame of a function that is called
  opened_quiet : (names : ℕ → ℕ) (statics : Objects) (definition : Definition) → IsAmong definition program.functions → FrameIsQuiet program quiet statics (opened_frame program names definition)
  opened_quiet names statics definition found q =
      let body = all definition found q in inl (body.kind, body.spans, body.value, ap items_tasks body.returns_it, body.quietly)

  placed : (t : State) (statics : Objects) (frame : Frame) (callers : List Caller) → t.statics ≡ statics → t.frame ≡ frame → t.callers ≡ callers → FrameIsQuiet program quiet statics frame
      → CallersAreQuiet program quiet statics frame.function callers → AreQuietFrames program quiet t
  placed t statics frame callers e f g a b = record {
    frame = subst (λ (os : Objects). FrameIsQuiet program quiet os t.frame) (sym e) (subst (FrameIsQuiet program quiet statics) (sym f) a);
    callers =
        subst (λ (os : Objects). CallersAreQuiet program quiet os t.frame.function t.callers) (sym e)
        (subst (λ (fr : Frame). CallersAreQuiet program quiet statics fr.function t.callers) (sym f) (subst (CallersAreQuiet program quiet statics frame.function) (sym g) b));
  }

  -- the frame that waited goes on
  resumed_quiet : (statics : Objects) (g : ℕ) (caller : Caller) (value : Value) → (quiet caller.frame.function ≡ true → CallerIsQuiet program quiet statics g caller) → FrameIsQuiet program quiet statics (resumed caller value)
  resumed_quiet statics g caller value h q =
      let c = h q in
      inr (inl (caller.place, filled_in caller.hole (done caller.kind (of_value value) []), ap (λ u. evaluates caller.place (filled_in caller.hole (done caller.kind (of_value value) [])) u ∷ caller.frame.tasks) c.use_of ∙ ap (λ ts. evaluates caller.place (filled_in caller.hole (done caller.kind (of_value value) [])) returns ∷ ts) c.tasks, c.resumes value))

  module _ (s t : State) (step : Step program s t) (h : AreQuietFrames program quiet s) where
    returned_quiet : (caller : Caller) (value : Value) (behind : List Caller) → s.callers ≡ caller ∷ behind → t.callers ≡ behind → t.frame ≡ resumed caller value → t.statics ≡ s.statics → AreQuietFrames program quiet t
    returned_quiet caller value behind was e f g =
        let below = subst (CallersAreQuiet program quiet s.statics s.frame.function) was h.callers in
        placed t s.statics (resumed caller value) behind g f e (resumed_quiet s.statics s.frame.function caller value below.0) below.1

    -- in another function
    by_shape : quiet s.frame.function ≡ false → Shape program (λ objects. Unit {0}) any_name any_run step.0 s t → AreQuietFrames program quiet t
    by_shape loud (inl c) = record {
      frame = λ q. absurd (true≢false (sym q ∙ ap quiet c.function ∙ loud));
      callers =
          subst (λ (os : Objects). CallersAreQuiet program quiet os t.frame.function t.callers) (sym c.statics)
          (subst (λ g. CallersAreQuiet program quiet s.statics g t.callers) (sym c.function) (subst (CallersAreQuiet program quiet s.statics s.frame.function) (sym c.callers) h.callers));
    }
    by_shape loud (inr (inl c)) =
        placed t s.statics (opened_frame program step.0 c.definition) (c.caller ∷ s.callers) c.statics c.frame c.callers (opened_quiet step.0 s.statics c.definition c.found)
        ((λ q. absurd (true≢false (sym q ∙ ap quiet c.function ∙ loud))), subst (λ g. CallersAreQuiet program quiet s.statics g s.callers) (sym c.function) h.callers)
    by_shape loud (inr (inr c)) = returned_quiet c.caller c.value c.behind c.was c.callers c.frame c.statics

    by_step : QuietStep program quiet step.0 s t → AreQuietFrames program quiet t
    by_step (inl c) = record {
      frame = λ q.
          subst (λ (os : Objects). QuietTasks program quiet (os ++ t.frame.objects) t.frame.tasks) (sym c.statics)
          (subst (λ (os : Objects). QuietTasks program quiet (s.statics ++ os) t.frame.tasks) (sym c.objects) c.tasks);
      callers =
          subst (λ (os : Objects). CallersAreQuiet program quiet os t.frame.function t.callers) (sym c.statics)
          (subst (λ g. CallersAreQuiet program quiet s.statics g t.callers) (sym c.function) (subst (CallersAreQuiet program quiet s.statics s.frame.function) (sym c.callers) h.callers));
    }
    by_step (inr (inl c)) =
        placed t s.statics (opened_frame program step.0 c.definition) (c.caller ∷ s.callers) c.statics c.frame c.callers (opened_quiet step.0 s.statics c.definition c.found) (
          (λ q. record {
            above = c.above;
            tasks = c.tasks;
            use_of = c.use_of;
            resumes = λ value. subst (λ (os : Objects). IsQuietRun program quiet (s.statics ++ os) (filled_in c.caller.hole (done c.caller.kind (of_value value) []))) (sym c.objects) (c.resumes value);
          }),
          subst (λ g. CallersAreQuiet program quiet s.statics g s.callers) (sym c.function) h.callers,
        )
    by_step (inr (inr c)) = returned_quiet c.caller c.value c.behind c.was c.callers c.frame c.statics

    pub quiet_later : AreQuietFrames program quiet t
    quiet_later = by_function (quiet s.frame.function) refl
      where
        by_function : (b : Bool) → quiet s.frame.function ≡ b → AreQuietFrames program quiet t
        by_function true q = by_step (quiet_step program quiet s t step (h.frame q))
        by_function false loud = by_shape loud (objects_shape program (λ objects. Unit {0}) (λ objects. Unit {0}) s t step (tt, tasks_any s.frame.tasks) (λ items q. tt) tt)

-- when a run begins
pub begins_quiet : (program : Program) (quiet : ℕ → Bool) → AreQuiet program quiet → (input : List ℕ) (state : State) → Begins program input state → AreQuietFrames program quiet state
begins_quiet program quiet all input state (bytes, names, fresh, main, is_main, e) = subst (AreQuietFrames program quiet) (sym e) (record {
  frame = opened_quiet program quiet all (λ i. names (suc (length program.statics) + i)) (start names program main input).statics main (main_among program program.functions main is_main);
  callers = tt;
})
