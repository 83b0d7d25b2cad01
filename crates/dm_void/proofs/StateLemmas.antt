-- States of the program, and of the one in which the function returns the value of its expression.
--     StateAgrees      the states are the same but for what is left to do where that function runs
--     step_met      each step of the program is met by one of the other, or by none
use Rattle.std.specs.Prelude.{◌≡◌, refl, ◌⊎◌, ℕ, zero, suc, ◌≤◌, ◌+◌, ◌*◌, ◌-◌, ◌==◌, Bool, true, false, not, IsTrue, List, [], ◌∷◌, ◌++◌, map, take, length, Option, Some, None, pos, if◌then◌else◌}
use Rattle.std.proofs.Common.{arith, true≢false, ap, sym, ◌∙◌, subst, inl, inr}
use Rattle.dm_token.specs.declared.place.Place.{Place}
use Rattle.dm_int.specs.declared.Kind.TheVariants.{Int}
use Rattle.dm_type.specs.CTypes.{CType, void, integer, pointer, array, struct, function as function_type, const, bare}
use Rattle.dm_tree.specs.Scenes.{is_void}
use Rattle.dm_tree.specs.Trees.{full, return, Tree, node, no_trees, more_trees, kind_of, parts_of}
use Rattle.dm_meaning.specs.declared.cause.Cause.{Cause}
use Rattle.dm_meaning.specs.declared.cause.Cause.TheVariants.{NoValue, External}
use Rattle.dm_meaning.specs.Among.{IsAmong}
use Rattle.dm_meaning.specs.Called.{Gives}
use Rattle.dm_meaning.specs.Expressions.{Move, goes, calls, fails, exits, value_of, moves}
use Rattle.dm_meaning.specs.Machines.{Standing, going, exited, undefined, Goes, RunsTo}
use Rattle.dm_meaning.specs.Memory.{Memory, killed, IsFresh}
use Rattle.dm_meaning.specs.Operations.{Result, of_value, World, Objects}
use Rattle.dm_meaning.specs.Programs.{Definition, Program, layout, declaration_of, definition_in, definition_of}
use Rattle.dm_meaning.specs.Replaced.{Zipped}
use Rattle.dm_meaning.specs.Running.{Run, done, to_do, Hole, begun, filled_in, locks_in}
use Rattle.dm_meaning.specs.Simulation.{GoesWrong}
use Rattle.dm_meaning.specs.States.{Use, drops, returns, Task, begins, declares, initials, evaluates, again, tests, ends, ends_switch, leaves, skips, hands_back, Frame, Caller, State}
use Rattle.dm_meaning.specs.Statements.{Turned, onward, refused, place_of, declared_in, type_declared, made_from, named_from, named_since, items_tasks, begin_statement, begin_declarator, begin_initialiser, concluded, unfolded, ended, after_break, after_continue}
use Rattle.dm_meaning.specs.Steps.{given_from, opened_frame, opened_memory, opened, resumed, lacks_value, gone_back, handed_back, is_main, gives_nothing, body_place, no_place, closed, turned, moved, scene_of, expression_steps, task_steps, steps_from, next, Step}
use Rattle.dm_meaning.specs.Units.{is_pointer, machine_of}
use Rattle.dm_meaning.specs.Values.{At, Value, integer_value, pointer_value, parts as compound, unset}
use Rattle.dm_meaning.proofs.AmongLemmas.{among-map, among-map_from}
use Rattle.dm_meaning.proofs.GrowLemmas.{equal_of}
use Rattle.dm_meaning.proofs.StateLemmas.{from_steps}
use Rattle.dm_meaning.proofs.YieldLemmas.{Yields, HoleYields, MoveYields, begun_yields, filled_yields, move_yields_on}
use Rattle.dm_sound.specs.TypedStates.{IsTypedState, TasksFit}
use Rattle.dm_sound.specs.TypedValues.{own_type, has_parts, HasType}
use Rattle.dm_void.specs.Bodies.{with_functions, IsRestated}
use Rattle.dm_void.proofs.SameExpressionLemmas.{AreBoth, moves_same}
use Rattle.dm_void.proofs.SameFrameLemmas.{frame_same, memory_same}
use Rattle.dm_void.proofs.SameStatementLemmas.{statement_same, initialiser_same, concluded_same}

-- ---- values of no type

own_void : (kind : CType) → is_void (bare kind) ≡ true → own_type kind ≡ void
own_void void e = refl
own_void (const void) e = refl
own_void (const (integer kind)) e = absurd (true≢false (sym e))
own_void (const (pointer target)) e = absurd (true≢false (sym e))
own_void (const (array element count)) e = absurd (true≢false (sym e))
own_void (const (struct n)) e = absurd (true≢false (sym e))
own_void (const (function_type result parameters)) e = absurd (true≢false (sym e))
own_void (const (const kind)) e = absurd (true≢false (sym e))
own_void (integer kind) e = absurd (true≢false (sym e))
own_void (pointer target) e = absurd (true≢false (sym e))
own_void (array element count) e = absurd (true≢false (sym e))
own_void (struct n) e = absurd (true≢false (sym e))
own_void (function_type result parameters) e = absurd (true≢false (sym e))

-- no value is one of a type that has none
pub no_value : (program : Program) (kind : CType) (value : Value) → is_void (bare kind) ≡ true → HasType (layout program) kind value → value ≡ unset
no_value program kind (integer_value own z) e h = absurd (cc (sym h.0 ∙ own_void kind e))
no_value program kind (pointer_value p) e h = absurd (true≢false (sym h ∙ ap is_pointer (own_void kind e)))
no_value program kind (compound all) e h = absurd (true≢false (sym h.0 ∙ ap has_parts (own_void kind e)))
no_value program kind unset e h = refl

-- ---- objects that stay

same_taken : {A : Type 0} (xs : List A) (n : ℕ) → n ≡ 0 → take n xs ≡ []
same_taken xs n e = ap (λ k. take k xs) e

none_since : (objects : Objects) → named_since objects objects ≡ []
none_since objects = ap (map (λ entry. entry.1)) (same_taken objects (length objects - length objects) (omega arith))

-- ---- states

module _ (program : Program) (f : ℕ) (value returned : Tree) (functions : List Definition) (restated : IsRestated program f value returned functions) where
  abbrev pub there : Program
  there = with_functions program functions

  -- its body begins
  pub record Beginning (tasks others : List Task) : Type 0 where
    pub is : tasks ≡ begins (node full restated.kind restated.spans (more_trees value no_trees)) ∷ []
    pub stands : others ≡ begins (node return restated.other_kind restated.other_spans (more_trees returned no_trees)) ∷ []

  -- its expression is under evaluation
  pub record Evaluating (objects : Objects) (tasks others : List Task) : Type 0 where
    pub place : Place
    pub run : Run
    pub is : tasks ≡ evaluates place run drops ∷ ends objects ∷ []
    pub stands : others ≡ evaluates place run returns ∷ []
    pub yields : Yields (kind_of value) run

  -- it ends, while the other one has only to hand back no value
  pub record Ending (tasks others left : List Task) : Type 0 where
    pub is : tasks ≡ left
    pub stands : others ≡ hands_back unset ∷ []

  -- how many steps the program may take alone
  abbrev pub Phase : ℕ → Objects → List Task → List Task → Type 0
  Phase w objects tasks others =
      Beginning tasks others
      ⊎ (Evaluating objects tasks others ⊎ (((2 ≤ w) × Ending tasks others (ends objects ∷ [])) ⊎ ((1 ≤ w) × Ending tasks others [])))

  abbrev pub FrameAgrees : ℕ → Frame → Frame → Type 0
  FrameAgrees w frame other =
      (other ≡ frame)
      ⊎ ((frame.function ≡ f) × (other.function ≡ f) × (other.objects ≡ frame.objects) × Phase w frame.objects frame.tasks other.tasks)

  -- the function waits for another, in its expression
  pub record WaitsThere (caller other : Caller) : Type 0 where
    pub objects : Objects
    pub place : Place
    pub kind : CType
    pub hole : Hole
    pub is : caller ≡ record { frame = record { function = f; objects = objects; tasks = ends objects ∷ [] }; place = place; kind = kind; hole = hole; use_of = drops }
    pub stands : other ≡ record { frame = record { function = f; objects = objects; tasks = [] }; place = place; kind = kind; hole = hole; use_of = returns }
    pub yields : HoleYields (kind_of value) kind hole

  abbrev pub CallerAgrees : Caller → Caller → Type 0
  CallerAgrees caller other = (other ≡ caller) ⊎ WaitsThere caller other

  abbrev pub CallersAgree : List Caller → List Caller → Type 0
  CallersAgree callers others = Zipped CallerAgrees callers others

  -- with this frame, and these that wait
  abbrev pub beside : State → Frame → List Caller → State
  beside state frame callers = record { standing = state.standing; frame = frame; callers = callers; statics = state.statics; world = state.world }

  pub record StateAgrees (w : ℕ) (state other : State) : Type 0 where
    pub frame : Frame
    pub callers : List Caller
    pub is : other ≡ beside state frame callers
    pub frames : FrameAgrees w state.frame frame
    pub waiting : CallersAgree state.callers callers

  -- ---- functions

  -- a number is that of the same definition in both, or of the function
  pub record IsFunction (g : ℕ) (found other : Option Definition) : Type 0 where
    pub is : g ≡ f
    pub was : found ≡ Some (record { function = f; parameters = restated.parameters; body = restated.body })
    pub stands : other ≡ Some (record { function = f; parameters = restated.parameters; body = restated.other_body })

  abbrev LooksUp : ℕ → Option Definition → Option Definition → Type 0
  LooksUp g found other = (other ≡ found) ⊎ IsFunction g found other

  one_looked_up : (g : ℕ) (one other : Definition) (found others : Option Definition) → one.function ≡ other.function → LooksUp g (Some one) (Some other) → LooksUp g found others
      → LooksUp g (if one.function == g then Some one else found) (if other.function == g then Some other else others)
  one_looked_up g one other found others e h k = subst (λ n. LooksUp g (if one.function == g then Some one else found) (if n == g then Some other else others)) e (by_bool (one.function == g))
    where
      by_bool : (b : Bool) → LooksUp g (if b then Some one else found) (if b then Some other else others)
      by_bool true = h
      by_bool false = k

  all_looked_up : (g : ℕ) (before behind : List Definition) (one other : Definition) → (one.function ≡ other.function) → ((one.function == g) ≡ true → LooksUp g (Some one) (Some other))
      → LooksUp g (definition_in (before ++ one ∷ behind) g) (definition_in (before ++ other ∷ behind) g)
  all_looked_up g [] behind one other e h = subst (λ n. LooksUp g (if one.function == g then Some one else definition_in behind g) (if n == g then Some other else definition_in behind g)) e (by_bool (one.function == g) refl)
    where
      by_bool : (b : Bool) → (one.function == g) ≡ b → LooksUp g (if b then Some one else definition_in behind g) (if b then Some other else definition_in behind g)
      by_bool true k = h k
      by_bool false k = inl refl
  all_looked_up g (first ∷ before) behind one other e h =
      one_looked_up g first first (definition_in (before ++ one ∷ behind) g) (definition_in (before ++ other ∷ behind) g) refl (inl refl) (all_looked_up g before behind one other e h)

  pub looked_up : (g : ℕ) → LooksUp g (definition_of program g) (definition_in functions g)
  looked_up g =
      subst (λ (ds : List Definition). LooksUp g (definition_in ds g) (definition_in functions g)) (sym restated.was)
      (subst (λ (ds : List Definition). LooksUp g (definition_in (restated.before ++ record { function = f; parameters = restated.parameters; body = restated.body } ∷ restated.behind) g) (definition_in ds g)) (sym restated.is)
      (all_looked_up g restated.before restated.behind (record { function = f; parameters = restated.parameters; body = restated.body }) (record { function = f; parameters = restated.parameters; body = restated.other_body }) refl
      (λ k. inr (record { is = sym (equal_of f g k); was = refl; stands = refl }))))

  pub same_defined : (g : ℕ) → AreBoth (definition_of program g) (definition_in functions g)
  same_defined g = by_found (definition_of program g) (definition_in functions g) (looked_up g)
    where
      itself : (o : Option Definition) → AreBoth o o
      itself None = tt
      itself (Some definition) = tt

      by_found : (found other : Option Definition) → LooksUp g found other → AreBoth found other
      by_found found other (inl e) = subst (AreBoth found) (sym e) (itself found)
      by_found found other (inr h) = subst (λ o. AreBoth o other) (sym h.was) (subst (AreBoth (Some (record { function = f; parameters = restated.parameters; body = restated.body }))) (sym h.stands) tt)

  -- ---- steps

  module _ (names : ℕ → ℕ) (w : ℕ) (state : State) (fresh : IsFresh names state.world.memory) (stands : state.standing ≡ going) (frame : Frame) (callers : List Caller) (waiting : CallersAgree state.callers callers) where
    abbrev pub other : State
    other = beside state frame callers

    -- what meets a step
    pub record IsMet (later : State) : Type 0 where
      pub state_there : State
      pub step : Step there other state_there
      pub agrees : StateAgrees 2 later state_there

    abbrev pub Found : State → Type 0
    Found later = GoesWrong (machine_of there) other ⊎ (IsMet later ⊎ ((v : ℕ) × (v + 1 ≤ w) × StateAgrees v later other))

    pub among_next : (tasks : List Task) → unfolded frame.tasks ≡ tasks → (x : State) → IsAmong x (task_steps there names other tasks) → IsAmong x (next names there other)
    among_next tasks e x h =
        subst (λ standing. IsAmong x (steps_from standing (task_steps there names other (unfolded frame.tasks)))) (sym stands)
        (subst (λ ts. IsAmong x (task_steps there names other ts)) (sym e) h)

    step_to : (x : State) → IsAmong x (next names there other) → Step there other x
    step_to x h = (names, fresh, h)

    goes_one : (x : State) → Step there other x → Goes (machine_of there) 1 other x
    unfolding Goes
    goes_one x step = (x, step, refl)

    wrong_there : (x : State) → IsAmong x (next names there other) → (cause : Cause) (place : Place) → x.standing ≡ undefined cause place → (later : State) → Found later
    wrong_there x h cause place e later = inl (1, x, goes_one x (step_to x h), cause, place, e)

    met_by : (x later : State) → IsAmong x (next names there other) → StateAgrees 2 later x → Found later
    met_by x later h agrees = inr (inl (record { state_there = x; step = step_to x h; agrees = agrees }))

    -- what a step leaves in the frame, which is the same or the function's
    turned_met : (objects others : Objects) (tasks other_tasks : List Task) (memory : Memory)
        → FrameAgrees 2 (record { function = state.frame.function; objects = objects; tasks = tasks }) (record { function = frame.function; objects = others; tasks = other_tasks })
        → IsAmong (turned other (onward others other_tasks memory)) (next names there other) → Found (turned state (onward objects tasks memory))
    turned_met objects others tasks other_tasks memory agrees h =
        met_by (turned other (onward others other_tasks memory)) (turned state (onward objects tasks memory)) h
        (record { frame = record { function = frame.function; objects = others; tasks = other_tasks }; callers = callers; is = refl; frames = agrees; waiting = waiting })

    -- ---- a step of an expression

    module _ (place : Place) (rest others : List Task) (use_of other_use : Use) where
      abbrev caller_at : CType → Hole → Caller
      caller_at kind hole = record { frame = record { function = state.frame.function; objects = state.frame.objects; tasks = rest }; place = place; kind = kind; hole = hole; use_of = use_of }

      abbrev other_at : CType → Hole → Caller
      other_at kind hole = record { frame = record { function = frame.function; objects = frame.objects; tasks = others }; place = place; kind = kind; hole = hole; use_of = other_use }

      -- the function's frame, or another
      opened_met : (kind : CType) (hole : Hole) (arguments : List Value) (g : ℕ) (found other_found : Option Definition) → LooksUp g found other_found → CallerAgrees (caller_at kind hole) (other_at kind hole)
          → IsAmong (opened there names other others place other_use kind hole arguments other_found) (next names there other) → Found (opened program names state rest place use_of kind hole arguments found)
      opened_met kind hole arguments g None other_found (inl e) waits h =
          wrong_there (opened there names other others place other_use kind hole arguments None) (subst (λ o. IsAmong (opened there names other others place other_use kind hole arguments o) (next names there other)) e h) External place refl
          (opened program names state rest place use_of kind hole arguments None)
      opened_met kind hole arguments g (Some definition) other_found (inl e) waits h =
          met_by (opened there names other others place other_use kind hole arguments (Some definition)) (opened program names state rest place use_of kind hole arguments (Some definition))
          (subst (λ o. IsAmong (opened there names other others place other_use kind hole arguments o) (next names there other)) e h) (record {
            frame = opened_frame there names definition;
            callers = other_at kind hole ∷ callers;
            is = λ i. record {
              standing = state.standing;
              frame = opened_frame there names definition;
              callers = other_at kind hole ∷ callers;
              statics = state.statics;
              world = record { memory = memory_same program functions names definition arguments state.world.memory i; input = state.world.input; output = state.world.output };
            };
            frames = inl (frame_same program functions names definition);
            waiting = (waits, waiting);
          })
      opened_met kind hole arguments g found other_found (inr is) waits h =
          let one : Definition = record { function = f; parameters = restated.parameters; body = restated.body } in
          let another : Definition = record { function = f; parameters = restated.parameters; body = restated.other_body } in
          let own = named_from names 0 restated.parameters [] in
          subst (λ o. Found (opened program names state rest place use_of kind hole arguments o)) (sym is.was)
          (met_by (opened there names other others place other_use kind hole arguments (Some another)) (opened program names state rest place use_of kind hole arguments (Some one))
          (subst (λ o. IsAmong (opened there names other others place other_use kind hole arguments o) (next names there other)) is.stands h) (record {
            frame = opened_frame there names another;
            callers = other_at kind hole ∷ callers;
            is = ap (λ memory. record {
              standing = state.standing;
              frame = opened_frame there names another;
              callers = other_at kind hole ∷ callers;
              statics = state.statics;
              world = record { memory = memory; input = state.world.input; output = state.world.output };
            }) (memory_same program functions names another arguments state.world.memory ∙ entered_alike arguments state.world.memory);
            frames = inr (
              refl,
              refl,
              ap (λ items. named_from names (length restated.parameters) (declared_in there items) own) restated.returns
                  ∙ sym (ap (λ items. named_from names (length restated.parameters) (declared_in program items) own) restated.drops),
              inl (record { is = ap items_tasks restated.drops; stands = ap items_tasks restated.returns }),
            );
            waiting = (waits, waiting);
          }))
        where
          made_items : List Value → Memory → List Tree → Memory
          made_items arguments memory items = made_from program names (length restated.parameters) (declared_in program items) (given_from program names 0 restated.parameters arguments memory)

          entered_alike : (arguments : List Value) (memory : Memory)
              → opened_memory program names (record { function = f; parameters = restated.parameters; body = restated.other_body }) arguments memory
              ≡ opened_memory program names (record { function = f; parameters = restated.parameters; body = restated.body }) arguments memory
          entered_alike arguments memory = ap (made_items arguments memory) restated.returns ∙ sym (ap (made_items arguments memory) restated.drops)

      moved_met : (m : Move Run Hole) → FrameAgrees 2 state.frame frame
          → ((world : World) (run : Run) → m ≡ goes world run → FrameAgrees 2 (record { function = state.frame.function; objects = state.frame.objects; tasks = evaluates place run use_of ∷ rest })
          (record { function = frame.function; objects = frame.objects; tasks = evaluates place run other_use ∷ others }))
          → ((g : ℕ) (arguments : List Value) (kind : CType) (hole : Hole) → m ≡ calls g arguments kind hole → CallerAgrees (caller_at kind hole) (other_at kind hole))
          → IsAmong (moved there names other others place other_use m) (next names there other) → Found (moved program names state rest place use_of m)
      moved_met (goes world run) now on waits h =
          met_by (moved there names other others place other_use (goes world run)) (moved program names state rest place use_of (goes world run)) h (record {
            frame = record { function = frame.function; objects = frame.objects; tasks = evaluates place run other_use ∷ others };
            callers = callers;
            is = refl;
            frames = on world run refl;
            waiting = waiting;
          })
      moved_met (calls g arguments kind hole) now on waits h =
          opened_met kind hole arguments g (definition_of program g) (definition_in functions g) (looked_up g) (waits g arguments kind hole refl) h
      moved_met (fails cause at) now on waits h = wrong_there (moved there names other others place other_use (fails cause at)) h cause at refl (moved program names state rest place use_of (fails cause at))
      moved_met (exits status) now on waits h =
          met_by (moved there names other others place other_use (exits status)) (moved program names state rest place use_of (exits status)) h
          (record { frame = frame; callers = callers; is = refl; frames = now; waiting = waiting })

      -- the steps of the expression are the same in both
      expression_met : (run : Run) → frame.objects ≡ state.frame.objects → FrameAgrees 2 state.frame frame
          → ((m : Move Run Hole) → IsAmong m (moves (scene_of program state) state.world (locks_in run) run) → (world : World) (later : Run) → m ≡ goes world later
          → FrameAgrees 2 (record { function = state.frame.function; objects = state.frame.objects; tasks = evaluates place later use_of ∷ rest })
          (record { function = frame.function; objects = frame.objects; tasks = evaluates place later other_use ∷ others }))
          → ((m : Move Run Hole) → IsAmong m (moves (scene_of program state) state.world (locks_in run) run) → (g : ℕ) (arguments : List Value) (kind : CType) (hole : Hole) → m ≡ calls g arguments kind hole
          → CallerAgrees (caller_at kind hole) (other_at kind hole))
          → ((x : State) → IsAmong x (map (moved there names other others place other_use) (moves (scene_of there other) other.world (locks_in run) run)) → IsAmong x (next names there other))
          → (later : State) → IsAmong later (map (moved program names state rest place use_of) (moves (scene_of program state) state.world (locks_in run) run)) → Found later
      expression_met run objects now on waits lift later h =
          let from = among-map_from (moved program names state rest place use_of) later (moves (scene_of program state) state.world (locks_in run) run) h in
          subst Found (sym from.2)
          (moved_met from.0 now (on from.0 from.1) (waits from.0 from.1)
          (lift (moved there names other others place other_use from.0) (among-map (moved there names other others place other_use) from.0 (moves (scene_of there other) other.world (locks_in run) run)
          (subst (IsAmong from.0) (sym same_moves) from.1))))
        where
          same_moves : moves (scene_of there other) other.world (locks_in run) run ≡ moves (scene_of program state) state.world (locks_in run) run
          same_moves =
              ap (λ os. moves (record { program = there; objects = state.statics ++ os }) state.world (locks_in run) run) objects
              ∙ moves_same program functions same_defined (state.statics ++ state.frame.objects) state.world (locks_in run) run

    -- ---- a function hands back a value

    handed_met : (result : Value) → FrameAgrees 2 state.frame frame → frame.objects ≡ state.frame.objects → (waiting_callers others : List Caller) → CallersAgree waiting_callers others
        → IsAmong (handed_back other result others) (next names there other) → Found (handed_back state result waiting_callers)
    handed_met result now objects [] [] agree h = met_by (handed_back other result []) (handed_back state result []) h (record { frame = frame; callers = callers; is = refl; frames = now; waiting = waiting })
    handed_met result now objects [] (d ∷ ds) agree h = absurd agree
    handed_met result now objects (c ∷ cs) [] agree h = absurd agree
    handed_met result now objects (c ∷ cs) (d ∷ ds) (inl e, rest) h =
        by_lack (lacks_value c.kind result) (subst (λ (one : Caller). IsAmong (handed_back other result (one ∷ ds)) (next names there other)) e h)
      where
        by_lack : (b : Bool) → IsAmong (if b then record other { standing = undefined NoValue c.place } else gone_back other result c ds) (next names there other)
            → Found (if b then record state { standing = undefined NoValue c.place } else gone_back state result c cs)
        by_lack true k = wrong_there (record other { standing = undefined NoValue c.place }) k NoValue c.place refl (record state { standing = undefined NoValue c.place })
        by_lack false k =
            met_by (gone_back other result c ds) (gone_back state result c cs) k (record {
              frame = resumed c result;
              callers = ds;
              is = ap (λ (os : Objects). record {
                standing = state.standing;
                frame = resumed c result;
                callers = ds;
                statics = state.statics;
                world = record { memory = killed (map (λ entry. entry.1) os) state.world.memory; input = state.world.input; output = state.world.output };
              }) objects;
              frames = inl refl;
              waiting = rest;
            })
    handed_met result now objects (c ∷ cs) (d ∷ ds) (inr there_one, rest) h =
        subst (λ (one : Caller). Found (handed_back state result (one ∷ cs))) (sym there_one.is)
        (by_lack (lacks_value there_one.kind result) refl (subst (λ (one : Caller). IsAmong (handed_back other result (one ∷ ds)) (next names there other)) there_one.stands h))
      where
        waits : Caller
        waits = record { frame = record { function = f; objects = there_one.objects; tasks = ends there_one.objects ∷ [] }; place = there_one.place; kind = there_one.kind; hole = there_one.hole; use_of = drops }

        waits_there : Caller
        waits_there = record { frame = record { function = f; objects = there_one.objects; tasks = [] }; place = there_one.place; kind = there_one.kind; hole = there_one.hole; use_of = returns }

        by_lack : (b : Bool) → lacks_value there_one.kind result ≡ b → IsAmong (if b then record other { standing = undefined NoValue there_one.place } else gone_back other result waits_there ds) (next names there other)
            → Found (if b then record state { standing = undefined NoValue there_one.place } else gone_back state result waits cs)
        by_lack true e k = wrong_there (record other { standing = undefined NoValue there_one.place }) k NoValue there_one.place refl (record state { standing = undefined NoValue there_one.place })
        by_lack false e k =
            met_by (gone_back other result waits_there ds) (gone_back state result waits cs) k (record {
              frame = resumed waits_there result;
              callers = ds;
              is = ap (λ (os : Objects). record {
                standing = state.standing;
                frame = resumed waits_there result;
                callers = ds;
                statics = state.statics;
                world = record { memory = killed (map (λ entry. entry.1) os) state.world.memory; input = state.world.input; output = state.world.output };
              }) objects;
              frames = inr (
                refl,
                refl,
                refl,
                inr (inl (record {
                  place = there_one.place;
                  run = filled_in there_one.hole (done there_one.kind (of_value result) []);
                  is = refl;
                  stands = refl;
                  yields = filled_yields (kind_of value) there_one.kind there_one.hole (done there_one.kind (of_value result) []) there_one.yields (refl, result, refl, e);
                })),
              );
              waiting = rest;
            })

  -- ---- where both are in the same frame

  module _ (names : ℕ → ℕ) (w : ℕ) (state : State) (fresh : IsFresh names state.world.memory) (stands : state.standing ≡ going) (callers : List Caller) (waiting : CallersAgree state.callers callers) where
    abbrev pub same_there : State
    same_there = beside state state.frame callers

    abbrev pub SameFound : State → Type 0
    SameFound later = Found names w state fresh stands state.frame callers waiting later

    same_turned : (turn turn_there : Turned) → turn_there ≡ turn → IsAmong (turned same_there turn_there) (next names there same_there) → SameFound (turned state turn)
    same_turned (onward objects tasks memory) turn_there e h =
        turned_met names w state fresh stands state.frame callers waiting objects objects tasks tasks memory (inl refl) (subst (λ t. IsAmong (turned same_there t) (next names there same_there)) e h)
    same_turned (refused cause place) turn_there e h =
        wrong_there names w state fresh stands state.frame callers waiting (turned same_there (refused cause place)) (subst (λ t. IsAmong (turned same_there t) (next names there same_there)) e h) cause place refl (turned state (refused cause place))

    abbrev pub Lifts : List Task → Type 0
    Lifts tasks = (x : State) → IsAmong x (task_steps there names same_there tasks) → IsAmong x (next names there same_there)

    only_turned : (turn turn_there : Turned) → turn_there ≡ turn → (later : State) → IsAmong later (turned state turn ∷ []) → IsAmong (turned same_there turn_there) (next names there same_there) → SameFound later
    only_turned turn turn_there e later (inl k) h = subst SameFound (sym k) (same_turned turn turn_there e h)
    only_turned turn turn_there e later (inr k) h = absurd k

    closed_met : (main empty : Bool) (place at : Place)
        → IsAmong (if main then record same_there { frame = record state.frame { tasks = hands_back (integer_value Int (pos 0)) ∷ [] } } else if empty then record same_there { frame = record state.frame { tasks = hands_back unset ∷ [] } } else record same_there { standing = undefined NoValue at }) (next names there same_there)
        → SameFound (if main then record state { frame = record state.frame { tasks = hands_back (integer_value Int (pos 0)) ∷ [] } } else if empty then record state { frame = record state.frame { tasks = hands_back unset ∷ [] } } else record state { standing = undefined NoValue place })
    closed_met true empty place at h =
        met_by names w state fresh stands state.frame callers waiting _ _ h
        (record { frame = record state.frame { tasks = hands_back (integer_value Int (pos 0)) ∷ [] }; callers = callers; is = refl; frames = inl refl; waiting = waiting })
    closed_met false true place at h =
        met_by names w state fresh stands state.frame callers waiting _ _ h (record { frame = record state.frame { tasks = hands_back unset ∷ [] }; callers = callers; is = refl; frames = inl refl; waiting = waiting })
    closed_met false false place at h = wrong_there names w state fresh stands state.frame callers waiting (record same_there { standing = undefined NoValue at }) h NoValue at refl (record state { standing = undefined NoValue place })

    evaluated_met : (place : Place) (run : Run) (use_of : Use) (rest : List Task) → Lifts (evaluates place run use_of ∷ rest) → (later : State) → IsAmong later (expression_steps program names state rest place use_of run) → SameFound later
    evaluated_met place (done kind result locks) use_of rest lift later h =
        only_turned (concluded program state.frame.objects rest state.world.memory place use_of result) (concluded there state.frame.objects rest state.world.memory place use_of result)
        (concluded_same program functions state.frame.objects rest state.world.memory place use_of result) later h (lift _ (inl refl))
    evaluated_met place (to_do doing kind at parts) use_of rest lift later h =
        expression_met names w state fresh stands state.frame callers waiting place rest rest use_of use_of (to_do doing kind at parts) refl (inl refl) (λ m l world run e. inl refl) (λ m l g arguments own hole e. inl refl) lift later h

    pub task_met : (tasks : List Task) → Lifts tasks → (later : State) → IsAmong later (task_steps program names state tasks) → SameFound later
    task_met [] lift later (inl e) =
        subst SameFound (sym e)
        (closed_met (is_main (declaration_of program state.frame.function)) (gives_nothing (type_declared program state.frame.function)) (body_place (definition_of program state.frame.function) no_place) (body_place (definition_of there state.frame.function) no_place)
        (lift _ (inl refl)))
    task_met [] lift later (inr e) = absurd e
    task_met (begins tree ∷ rest) lift later h =
        only_turned (begin_statement program names state.frame.objects rest state.world.memory tree) (begin_statement there names state.frame.objects rest state.world.memory tree)
        (statement_same program functions names state.frame.objects rest state.world.memory tree) later h (lift _ (inl refl))
    task_met (declares declarator expressions ∷ rest) lift later h =
        only_turned (begin_declarator program state.frame.objects rest state.world.memory declarator expressions) (begin_declarator there state.frame.objects rest state.world.memory declarator expressions) refl later h (lift _ (inl refl))
    task_met (initials at kind initialiser expressions ∷ rest) lift later h =
        only_turned (begin_initialiser program state.frame.objects rest state.world.memory at kind initialiser expressions) (begin_initialiser there state.frame.objects rest state.world.memory at kind initialiser expressions)
        (initialiser_same program functions state.frame.objects rest state.world.memory at kind initialiser expressions) later h (lift _ (inl refl))
    task_met (evaluates place run use_of ∷ rest) lift later h = evaluated_met place run use_of rest lift later h
    task_met (ends saved ∷ rest) lift later h = only_turned (ended saved state.frame.objects rest state.world.memory) _ refl later h (lift _ (inl refl))
    task_met (ends_switch saved ∷ rest) lift later h = only_turned (ended saved state.frame.objects rest state.world.memory) _ refl later h (lift _ (inl refl))
    task_met (leaves ∷ rest) lift later h = only_turned (after_break state.frame.objects state.world.memory rest) _ refl later h (lift _ (inl refl))
    task_met (skips ∷ rest) lift later h = only_turned (after_continue state.frame.objects state.world.memory rest) _ refl later h (lift _ (inl refl))
    task_met (hands_back result ∷ rest) lift later (inl e) =
        subst SameFound (sym e) (handed_met names w state fresh stands state.frame callers waiting result (inl refl) refl state.callers callers waiting (lift _ (inl refl)))
    task_met (hands_back result ∷ rest) lift later (inr e) = absurd e
    task_met (again saved loop ∷ rest) lift later h = absurd h
    task_met (tests saved loop ∷ rest) lift later h = absurd h

  -- ---- where the function runs

  module _ (gives : Gives value) (same : returned ≡ value) (nothing : gives_nothing (type_declared program f) ≡ true) (other_name : is_main (declaration_of program f) ≡ false) (names : ℕ → ℕ) (w : ℕ) (state : State) (fresh : IsFresh names state.world.memory)
      (stands : state.standing ≡ going) (frame : Frame) (callers : List Caller) (waiting : CallersAgree state.callers callers)
      (here : state.frame.function ≡ f) (here_there : frame.function ≡ f) (objects : frame.objects ≡ state.frame.objects)
      (valueless : (place : Place) (kind : CType) (result : Value) (locks : List At) (rest : List Task) → state.frame.tasks ≡ evaluates place (done kind (of_value result) locks) drops ∷ rest → kind ≡ kind_of value → result ≡ unset) where
    abbrev pub ThereFound : State → Type 0
    ThereFound later = Found names w state fresh stands frame callers waiting later

    beginning_met : Beginning state.frame.tasks frame.tasks → (later : State) → IsAmong later (task_steps program names state (unfolded state.frame.tasks)) → ThereFound later
    beginning_met h later k = at_statement (subst (λ tasks. IsAmong later (task_steps program names state (unfolded tasks))) h.is k)
      where
        at_statement : IsAmong later (task_steps program names state (begins (node full restated.kind restated.spans (more_trees value no_trees)) ∷ [])) → ThereFound later
        at_statement (inl e) =
            subst ThereFound (sym e)
            (turned_met names w state fresh stands frame callers waiting state.frame.objects frame.objects (evaluates (place_of value) (begun value) drops ∷ ends state.frame.objects ∷ []) (evaluates (place_of value) (begun value) returns ∷ [])
            state.world.memory (inr (here, here_there, objects, inr (inl (record { place = place_of value; run = begun value; is = refl; stands = refl; yields = begun_yields value gives }))))
            (among_next names w state fresh stands frame callers waiting (begins (node return restated.other_kind restated.other_spans (more_trees value no_trees)) ∷ [])
            (ap unfolded (h.stands ∙ ap (λ v. begins (node return restated.other_kind restated.other_spans (more_trees v no_trees)) ∷ []) same)) _ (inl refl)))
        at_statement (inr e) = absurd e

    evaluating_met : Evaluating state.frame.objects state.frame.tasks frame.tasks → (later : State) → IsAmong later (task_steps program names state (unfolded state.frame.tasks)) → ThereFound later
    evaluating_met h later k = at_run h.run h.is h.stands h.yields (subst (λ tasks. IsAmong later (task_steps program names state (unfolded tasks))) h.is k)
      where
        at_run : (run : Run) → state.frame.tasks ≡ evaluates h.place run drops ∷ ends state.frame.objects ∷ [] → frame.tasks ≡ evaluates h.place run returns ∷ [] → Yields (kind_of value) run
            → IsAmong later (expression_steps program names state (ends state.frame.objects ∷ []) h.place drops run) → ThereFound later
        at_run (done kind result locks) is stood y (inl e) =
            subst ThereFound (sym e)
            (turned_met names w state fresh stands frame callers waiting state.frame.objects frame.objects (ends state.frame.objects ∷ []) (hands_back (value_of result) ∷ []) state.world.memory
            (inr (
              here,
              here_there,
              objects,
              inr (inr (inl (
                omega arith,
                record {
                  is = refl;
                  stands =
                      ap (λ r. hands_back (value_of r) ∷ []) y.2
                      ∙ ap (λ v. hands_back v ∷ []) (valueless h.place kind y.1 locks (ends state.frame.objects ∷ []) (is ∙ ap (λ r. evaluates h.place (done kind r locks) drops ∷ ends state.frame.objects ∷ []) y.2) y.0);
                },
              ))),
            ))
            (among_next names w state fresh stands frame callers waiting (evaluates h.place (done kind result locks) returns ∷ []) (ap unfolded stood) _ (inl refl)))
        at_run (done kind result locks) is stood y (inr e) = absurd e
        at_run (to_do doing kind at parts) is stood y l =
            expression_met names w state fresh stands frame callers waiting h.place (ends state.frame.objects ∷ []) [] drops returns (to_do doing kind at parts) objects
            (inr (here, here_there, objects, inr (inl (record { place = h.place; run = to_do doing kind at parts; is = is; stands = stood; yields = y }))))
            (λ m among world run e. inr (
              here,
              here_there,
              objects,
              inr (inl (record {
                place = h.place;
                run = run;
                is = refl;
                stands = refl;
                yields = subst (MoveYields (kind_of value)) e (move_yields_on (scene_of program state) state.world (locks_in (to_do doing kind at parts)) (kind_of value) (to_do doing kind at parts) y m among);
              })),
            ))
            (λ m among g arguments own hole e. inr (record {
              objects = state.frame.objects;
              place = h.place;
              kind = own;
              hole = hole;
              is = ap (λ n. record { frame = record { function = n; objects = state.frame.objects; tasks = ends state.frame.objects ∷ [] }; place = h.place; kind = own; hole = hole; use_of = drops }) here;
              stands = ap (λ n. record { frame = record { function = n; objects = frame.objects; tasks = [] }; place = h.place; kind = own; hole = hole; use_of = returns }) here_there
                  ∙ ap (λ os. record { frame = record { function = f; objects = os; tasks = [] }; place = h.place; kind = own; hole = hole; use_of = returns }) objects;
              yields = subst (MoveYields (kind_of value)) e (move_yields_on (scene_of program state) state.world (locks_in (to_do doing kind at parts)) (kind_of value) (to_do doing kind at parts) y m among);
            }))
            (among_next names w state fresh stands frame callers waiting (evaluates h.place (to_do doing kind at parts) returns ∷ []) (ap unfolded stood)) later l

    ending_met : 2 ≤ w → Ending state.frame.tasks frame.tasks (ends state.frame.objects ∷ []) → (later : State) → IsAmong later (task_steps program names state (unfolded state.frame.tasks)) → ThereFound later
    ending_met left h later k = at_end (subst (λ tasks. IsAmong later (task_steps program names state (unfolded tasks))) h.is k)
      where
        same_memory : killed (named_since state.frame.objects state.frame.objects) state.world.memory ≡ state.world.memory
        same_memory = ap (λ ns. killed ns state.world.memory) (none_since state.frame.objects)

        at_end : IsAmong later (turned state (onward state.frame.objects [] (killed (named_since state.frame.objects state.frame.objects) state.world.memory)) ∷ []) → ThereFound later
        at_end (inl e) =
            subst ThereFound (sym e)
            (inr (inr (
              1,
              left,
              record {
                frame = frame;
                callers = callers;
                is = ap (λ m. record { standing = state.standing; frame = frame; callers = callers; statics = state.statics; world = record { memory = m; input = state.world.input; output = state.world.output } }) (sym same_memory);
                frames = inr (here, here_there, objects, inr (inr (inr (omega arith, record { is = refl; stands = h.stands }))));
                waiting = waiting;
              },
            )))
        at_end (inr e) = absurd e

    closing_met : 1 ≤ w → Ending state.frame.tasks frame.tasks [] → (later : State) → IsAmong later (task_steps program names state (unfolded state.frame.tasks)) → ThereFound later
    closing_met left h later k = at_end (subst (λ tasks. IsAmong later (task_steps program names state (unfolded tasks))) h.is k)
      where
        last : State
        last = record state { frame = record state.frame { tasks = hands_back unset ∷ [] } }

        closed_by : Bool → Bool → State
        closed_by main empty =
            if main then record state { frame = record state.frame { tasks = hands_back (integer_value Int (pos 0)) ∷ [] } } else if empty then last else record state { standing = undefined NoValue (body_place (definition_of program state.frame.function) no_place) }

        is_last : closed program state ≡ last
        is_last =
            ap (λ b. closed_by b (gives_nothing (type_declared program state.frame.function))) (ap (λ n. is_main (declaration_of program n)) here ∙ other_name)
            ∙ ap (closed_by false) (ap (λ n. gives_nothing (type_declared program n)) here ∙ nothing)

        at_end : IsAmong later (closed program state ∷ []) → ThereFound later
        at_end (inl e) =
            subst ThereFound (sym (e ∙ is_last))
            (inr (inr (
              0,
              left,
              record {
                frame = frame;
                callers = callers;
                is = refl;
                frames = inl (λ i. record { function = (here_there ∙ sym here) i; objects = objects i; tasks = h.stands i });
                waiting = waiting;
              },
            )))
        at_end (inr e) = absurd e

    pub phase_met : Phase w state.frame.objects state.frame.tasks frame.tasks → (later : State) → IsAmong later (task_steps program names state (unfolded state.frame.tasks)) → ThereFound later
    phase_met (inl h) later k = beginning_met h later k
    phase_met (inr (inl h)) later k = evaluating_met h later k
    phase_met (inr (inr (inl (left, h)))) later k = ending_met left h later k
    phase_met (inr (inr (inr (left, h)))) later k = closing_met left h later k
