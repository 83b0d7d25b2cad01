-- The beginnings of runs agree too, so the program refines the other one.
use Rattle.std.specs.Prelude.{◌≡◌, refl, ◌⊎◌, ℕ, zero, suc, ◌≤◌, ◌+◌, ◌*◌, Bool, true, false, List, [], ◌∷◌, ◌++◌, length, Option, Some, if◌then◌else◌}
use Rattle.std.proofs.Common.{arith, ap, sym, ◌∙◌, subst, inl, inr}
use Rattle.dm_token.specs.declared.place.Place.{Place}
use Rattle.dm_type.specs.CTypes.{CType, bare}
use Rattle.dm_tree.specs.Scenes.{is_void}
use Rattle.dm_tree.specs.Trees.{Tree, kind_of}
use Rattle.dm_meaning.specs.Among.{IsAmong}
use Rattle.dm_meaning.specs.Called.{Gives}
use Rattle.dm_meaning.specs.Machines.{Machine, going, Goes, RunsTo}
use Rattle.dm_meaning.specs.Memory.{IsFresh, new_block}
use Rattle.dm_meaning.specs.Objects.{all_zero}
use Rattle.dm_meaning.specs.Operations.{of_value}
use Rattle.dm_meaning.specs.Programs.{Definition, Program, layout, declaration_of}
use Rattle.dm_meaning.specs.Refinement.{Refines}
use Rattle.dm_meaning.specs.Running.{done}
use Rattle.dm_meaning.specs.Simulation.{GoesWrong, Meets, IsSimulation, simulated}
use Rattle.dm_meaning.specs.States.{drops, Task, evaluates, Caller, Frame, State}
use Rattle.dm_meaning.specs.Statements.{type_declared, named_from, unfolded}
use Rattle.dm_meaning.specs.Steps.{gives_nothing, is_main, task_steps, opened_memory, Step}
use Rattle.dm_meaning.specs.Units.{argv_kind, arguments_for, static_numbers, statics_memory, start, main_in, Begins, machine_of}
use Rattle.dm_meaning.specs.Values.{At, Value, unset}
use Rattle.dm_meaning.proofs.StateLemmas.{from_steps}
use Rattle.dm_meaning.proofs.StaticLemmas.{statics_memory_same}
use Rattle.dm_sound.specs.TypedRuns.{IsTypedProgram, result_of}
use Rattle.dm_sound.specs.TypedStates.{IsTypedState, TasksFit}
use Rattle.dm_sound.proofs.RunningLemmas.{program_runs_typed}
use Rattle.dm_void.specs.Bodies.{with_functions, IsRestated, IsNeverCalled}
use Rattle.dm_void.proofs.SameFrameLemmas.{frame_same, memory_same}
use Rattle.dm_void.proofs.StateLemmas.{no_value, FrameAgrees, CallersAgree, beside, StateAgrees, Found, among_next, task_met, phase_met}

-- the function returns the value that it drops, which isn't there
pub record ReturnsNothing (program : Program) (f : ℕ) (value other : Tree) : Type 0 where
  pub sound : IsTypedProgram program
  pub nothing : gives_nothing (type_declared program f) ≡ true
  pub gives : Gives value
  pub valueless : is_void (bare (kind_of value)) ≡ true
  pub same : other ≡ value

module _ (program : Program) (f : ℕ) (value returned : Tree) (functions : List Definition) (restated : IsRestated program f value returned functions) (other_name : is_main (declaration_of program f) ≡ false)
    (called : ReturnsNothing program f value returned ⊎ IsNeverCalled program f) where
  abbrev there : Program
  there = with_functions program functions

  -- ---- the beginning of a run

  same_main_in : (before behind : List Definition) (one other : Definition) → one.function ≡ f → other.function ≡ f → main_in there (before ++ other ∷ behind) ≡ main_in program (before ++ one ∷ behind)
  same_main_in [] behind one other e g =
      ap (λ b. if b then Some other else main_in there behind) (ap (λ n. is_main (declaration_of program n)) g ∙ other_name)
      ∙ (same_mains behind ∙ sym (ap (λ b. if b then Some one else main_in program behind) (ap (λ n. is_main (declaration_of program n)) e ∙ other_name)))
    where
      same_mains : (definitions : List Definition) → main_in there definitions ≡ main_in program definitions
      same_mains [] = refl
      same_mains (first ∷ rest) = ap (λ (o : Option Definition). if is_main (declaration_of program first.function) then Some first else o) (same_mains rest)
  same_main_in (first ∷ before) behind one other e g =
      ap (λ (o : Option Definition). if is_main (declaration_of program first.function) then Some first else o) (same_main_in before behind one other e g)

  same_main : main_in there functions ≡ main_in program program.functions
  same_main =
      ap (main_in there) restated.is
      ∙ (same_main_in restated.before restated.behind (record { function = f; parameters = restated.parameters; body = restated.body }) (record { function = f; parameters = restated.parameters; body = restated.other_body }) refl refl
      ∙ sym (ap (main_in program) restated.was))

  start_agrees : (names : ℕ → ℕ) (main : Definition) (input : List ℕ) → StateAgrees program f value returned functions restated 0 (start names program main input) (start names there main input)
  start_agrees names main input =
      let statics = named_from names 0 (static_numbers program.statics) [] in
      let argv = length program.statics in
      let others : ℕ → ℕ = λ i. names (suc argv + i) in
      let block = record (new_block (layout program) argv_kind) { contents = all_zero (layout program) argv_kind } in
      record {
        frame = (start names there main input).frame;
        callers = [];
        is = ap (λ m. record {
          standing = going;
          frame = (start names there main input).frame;
          callers = [];
          statics = statics;
          world = record { memory = m; input = input; output = [] };
        }) (ap (λ m. opened_memory there others main (arguments_for (names argv) main.parameters) ((names argv, block) ∷ m)) (statics_memory_same program functions names statics)
            ∙ memory_same program functions others main (arguments_for (names argv) main.parameters) ((names argv, block) ∷ statics_memory program names statics));
        frames = inl (frame_same program functions others main);
        waiting = tt;
      }

  -- ---- the simulation

  -- the state is one of a run
  pub record Related (w : ℕ) (state other : State) : Type 0 where
    pub agrees : StateAgrees program f value returned functions restated w state other
    pub input : List ℕ
    pub count : ℕ
    pub reached : RunsTo (machine_of program) input count state

  goes_nothing : (one : Program) (t : State) → Goes (machine_of one) 0 t t
  unfolding Goes
  goes_nothing one t = refl

  goes_one : (one : Program) (s t : State) → Step one s t → Goes (machine_of one) 1 s t
  unfolding Goes
  goes_one one s t step = (t, step, refl)

  goes_last : (one : Program) (n : ℕ) (s t u : State) → Goes (machine_of one) n s t → Step one t u → Goes (machine_of one) (suc n) s u
  unfolding Goes
  goes_last one zero s t u e step = (u, subst (λ x. Step one x u) (sym e) step, refl)
  goes_last one (suc n) s t u (middle, first, rest) step = (middle, first, goes_last one n middle t u rest step)

  begins_related : (input : List ℕ) (s : State) → Begins program input s → (w : ℕ) × (t : State) × (w ≤ 0) × Begins there input t × Related w s t
  begins_related input s (bytes, names, fresh, main, is_main_here, e) = (
    0,
    start names there main input,
    omega arith,
    (bytes, names, fresh, main, same_main ∙ is_main_here, refl),
    record {
      agrees = subst (λ x. StateAgrees program f value returned functions restated 0 x (start names there main input)) (sym e) (start_agrees names main input);
      input = input;
      count = 0;
      reached = record { start = s; begins = (bytes, names, fresh, main, is_main_here, e); goes = goes_nothing program s };
    },
  )

  -- where the expression has no type with values, it comes to none
  valueless : ReturnsNothing program f value returned → (s : State) (input : List ℕ) (count : ℕ) → RunsTo (machine_of program) input count s → (place : Place) (kind : CType) (result : Value) (locks : List At) (rest : List Task)
      → s.frame.tasks ≡ evaluates place (done kind (of_value result) locks) drops ∷ rest → kind ≡ kind_of value → result ≡ unset
  valueless returns s input count reached place kind result locks rest e k =
      let task = (subst (TasksFit program s.world.memory (bare (result_of program s.frame.function))) e (program_runs_typed program returns.sound input count s reached).frame.tasks).0 in
      no_value program (kind_of task.0) result (ap (λ t. is_void (bare t)) (sym task.2.0 ∙ k) ∙ returns.valueless) task.2.1.1.typed

  Outcome : ℕ → State → State → Type 0
  Outcome w s' t = GoesWrong (machine_of there) t ⊎ Meets (machine_of program) (machine_of there) Related 2 w s' t

  steps_met : (w : ℕ) (s s' t : State) → Related w s t → Step program s s' → Outcome w s' t
  unfolding Outcome
  steps_met w s s' t h step = subst (Outcome w s') (sym h.agrees.is) (by_frame h.agrees.frame h.agrees.callers h.agrees.waiting h.agrees.frames)
    where
      from : (s.standing ≡ going) × IsAmong s' (task_steps program step.0 s (unfolded s.frame.tasks))
      from = from_steps s.standing (task_steps program step.0 s (unfolded s.frame.tasks)) s' step.2

      reached : RunsTo (machine_of program) h.input (suc h.count) s'
      reached = record { start = h.reached.start; begins = h.reached.begins; goes = goes_last program h.count h.reached.start s s' h.reached.goes step }

      related : (v : ℕ) (u : State) → StateAgrees program f value returned functions restated v s' u → Related v s' u
      related v u agrees = record { agrees = agrees; input = h.input; count = suc h.count; reached = reached }

      found : (frame : Frame) (callers : List Caller) (waiting : CallersAgree program f value returned functions restated s.callers callers) → Found program f value returned functions restated step.0 w s step.1 from.0 frame callers waiting s'
          → Outcome w s' (beside program f value returned functions restated s frame callers)
      found frame callers waiting (inl wrong) = inl wrong
      found frame callers waiting (inr (inl met)) =
          inr (1, 2, met.state_there, goes_one there (beside program f value returned functions restated s frame callers) met.state_there met.step, omega arith, related 2 met.state_there met.agrees)
      found frame callers waiting (inr (inr (v, less, agrees))) =
          inr (0, v, beside program f value returned functions restated s frame callers, goes_nothing there (beside program f value returned functions restated s frame callers), omega (arith, less), related v (beside program f value returned functions restated s frame callers) agrees)

      by_frame : (frame : Frame) (callers : List Caller) (waiting : CallersAgree program f value returned functions restated s.callers callers) → FrameAgrees program f value returned functions restated w s.frame frame
          → Outcome w s' (beside program f value returned functions restated s frame callers)
      by_frame frame callers waiting (inl e) =
          subst (λ fr. Outcome w s' (beside program f value returned functions restated s fr callers)) (sym e)
          (found s.frame callers waiting
          (task_met program f value returned functions restated step.0 w s step.1 from.0 callers waiting (unfolded s.frame.tasks)
          (among_next program f value returned functions restated step.0 w s step.1 from.0 s.frame callers waiting (unfolded s.frame.tasks) refl) s' from.1))
      by_frame frame callers waiting (inr (here, here_there, objects, phase)) = by_called called
        where
          by_called : ReturnsNothing program f value returned ⊎ IsNeverCalled program f → Outcome w s' (beside program f value returned functions restated s frame callers)
          by_called (inl returns) =
              found frame callers waiting
              (phase_met program f value returned functions restated returns.gives returns.same returns.nothing other_name step.0 w s step.1 from.0 frame callers waiting here here_there objects
              (valueless returns s h.input h.count h.reached) phase s' from.1)
          by_called (inr never) = absurd (never h.input h.count s h.reached here)

  simulation : IsSimulation (machine_of program) (machine_of there) Related 0 2
  unfolding Outcome
  simulation = record {
    begins = begins_related;
    steps = steps_met;
    going_on = λ w s t h e. inr (ap (λ (x : State). x.standing) h.agrees.is ∙ e, ap (λ (x : State). x.world.output) h.agrees.is);
    ending = λ w s t status h e. inr (0, t, goes_nothing there t, ap (λ (x : State). x.standing) h.agrees.is ∙ e, ap (λ (x : State). x.world.output) h.agrees.is);
    wrong = λ w s t cause place h e. (0, t, goes_nothing there t, cause, place, ap (λ (x : State). x.standing) h.agrees.is ∙ e);
  }

  pub restated_refines : Refines (machine_of program) (machine_of there)
  restated_refines = simulated (machine_of program) (machine_of there) Related 0 2 simulation
