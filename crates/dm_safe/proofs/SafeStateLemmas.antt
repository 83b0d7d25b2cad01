-- Safe expressions come to a value in each state of each run, where they stand in the full expression under evaluation.
use Rattle.std.specs.Prelude.{◌≡◌, refl, ◌⊎◌, ℕ, zero, suc, ◌==◌, Bool, true, false, ◌||◌, IsTrue, List, [], ◌∷◌, ◌++◌, Some, None, ℤ, if◌then◌else◌}
use Rattle.std.proofs.Common.{ap, sym, ◌∙◌, subst, inl, inr, true≢false}
use Rattle.dm_token.specs.declared.place.Place.{Place}
use Rattle.dm_type.specs.CTypes.{CType, bare}
use Rattle.dm_tree.specs.Scenes.{is_integer, is_pointer, is_scalar}
use Rattle.dm_tree.specs.Trees.{Tree}
use Rattle.dm_meaning.specs.Among.{IsAmong}
use Rattle.dm_meaning.specs.Called.{is_static_number}
use Rattle.dm_meaning.specs.Causes.{is_unset}
use Rattle.dm_meaning.specs.Lifetimes.{numbers_of}
use Rattle.dm_meaning.specs.Machines.{Goes, RunsTo}
use Rattle.dm_meaning.specs.Memory.{Memory, Block}
use Rattle.dm_meaning.specs.Values.{numbered, At, integer_value}
use Rattle.dm_meaning.specs.Programs.{Program, Static, layout, constant_of}
use Rattle.dm_meaning.specs.Operations.{of_value, Objects, object_named}
use Rattle.dm_meaning.specs.Running.{Run, begun}
use Rattle.dm_meaning.specs.States.{Use, drops, chooses, selects, repeats, continues, returns, initialises, Task, evaluates, State}
use Rattle.dm_meaning.specs.Statements.{kind_declared, type_declared, named_from, unfolded}
use Rattle.dm_meaning.specs.Steps.{scene_of}
use Rattle.dm_meaning.specs.Units.{static_numbers, Begins, machine_of}
use Rattle.dm_meaning.proofs.GrowLemmas.{equal_of}
use Rattle.dm_meaning.proofs.KnownLemmas.{NamesKnown, begins_known, known_later}
use Rattle.dm_meaning.proofs.OptionLemmas.{none_is_some, some_is_some}
use Rattle.dm_rewrite.specs.Computed.{IsPure}
use Rattle.dm_sound.specs.TypedValues.{IsSet}
use Rattle.dm_sound.specs.TypedRuns.{IsTypedProgram, result_of}
use Rattle.dm_sound.specs.TypedTrees.{IsTyped}
use Rattle.dm_sound.specs.TypedStates.{IsOfKind, TasksFit, IsTypedState}
use Rattle.dm_sound.proofs.PlaceLemmas.{named_there}
use Rattle.dm_sound.proofs.RunningLemmas.{program_runs_typed}
use Rattle.dm_sound.proofs.TaskLemmas.{unfolded_fit}
use Rattle.dm_effect.specs.Forms.{is_built}
use Rattle.dm_effect.specs.Safe.{safe_rule}
use Rattle.dm_initialised.specs.Living.{AreApart, callers_then, IsLivingState}
use Rattle.dm_initialised.specs.SetStates.{IsUnderWay, AreSetStatics, IsSetEvaluation}
use Rattle.dm_initialised.specs.Settled.{IsSettledProgram}
use Rattle.dm_initialised.proofs.BeginLemmas.{run_set}
use Rattle.dm_initialised.proofs.LivingLemmas.{named_alive, run_lives}
use Rattle.dm_initialised.proofs.NameLemmas.{run_names_set}
use Rattle.dm_central.specs.ClosedPrograms.{AreAlwaysSafe}
use Rattle.dm_central.specs.Outcomes.{ComesSafely}
use Rattle.dm_central.specs.Standing.{StandsIn}
use Rattle.dm_central.proofs.ShapeLemmas.{same_statics}
use Rattle.dm_central.proofs.StandingLemmas.{stands_within}
use Rattle.dm_safe.specs.Numbers.{HoldsInteger, Names, ComesToNumber}
use Rattle.dm_safe.specs.SafePrograms.{IsSetDeclaration, AreSafeTrees}
use Rattle.dm_safe.specs.Spared.{RunSpares, TasksSpare}
use Rattle.dm_safe.proofs.ConstantLemmas.{constant_comes}
use Rattle.dm_safe.proofs.SafeLemmas.{built_comes}
use Rattle.dm_safe.proofs.ScopeLemmas.{WholeRun, comes_whole, name_in_scope}
use Rattle.dm_safe.proofs.SparedStateLemmas.{run_spares}
use Rattle.dm_safe.proofs.TypedLemmas.{stands_typed}
use Rattle.dm_safe.proofs.SparedTaskLemmas.{unfolded_spare}

-- ---- objects

-- an object has one name
named_number : (objects : Objects) (d n : ℕ) → object_named objects d ≡ Some n → IsAmong n (numbers_of objects)
named_number [] d n e = absurd (none_is_some n e)
named_number (entry ∷ entries) d n e = by_name (entry.0 == d) e (named_number entries d n)
  where
    by_name : (b : Bool) → (if b then Some entry.1 else object_named entries d) ≡ Some n → (object_named entries d ≡ Some n → IsAmong n (numbers_of entries)) → IsAmong n (entry.1 ∷ numbers_of entries)
    by_name true f later = inl (sym (some_is_some entry.1 n f))
    by_name false f later = inr (later f)

left_of : (n : ℕ) (xs ys : List ℕ) → IsAmong n xs → IsAmong n (xs ++ ys)
left_of n [] ys h = absurd h
left_of n (x ∷ xs) ys (inl e) = inl e
left_of n (x ∷ xs) ys (inr h) = inr (left_of n xs ys h)

one_name : (objects : Objects) (others : List ℕ) → AreApart (numbers_of objects ++ others) → (c d n : ℕ) → object_named objects c ≡ Some n → object_named objects d ≡ Some n → c ≡ d
one_name [] others apart c d n e f = absurd (none_is_some n e)
one_name (entry ∷ entries) others apart c d n e f = by_names (entry.0 == c) refl (entry.0 == d) refl e f (one_name entries others apart.1 c d n)
  where
    elsewhere : (x : ℕ) → entry.1 ≡ n → object_named entries x ≡ Some n → ⊥
    elsewhere x g h = apart.0 (subst (λ m. IsAmong m (numbers_of entries ++ others)) (sym g) (left_of n (numbers_of entries) others (named_number entries x n h)))

    by_names : (a : Bool) → (entry.0 == c) ≡ a → (b : Bool) → (entry.0 == d) ≡ b → (if a then Some entry.1 else object_named entries c) ≡ Some n → (if b then Some entry.1 else object_named entries d) ≡ Some n
        → (object_named entries c ≡ Some n → object_named entries d ≡ Some n → c ≡ d) → c ≡ d
    by_names true p true q g h later = sym (equal_of entry.0 c p) ∙ equal_of entry.0 d q
    by_names true p false q g h later = absurd (elsewhere d (some_is_some entry.1 n g) h)
    by_names false p true q g h later = absurd (elsewhere c (some_is_some entry.1 n h) g)
    by_names false p false q g h later = later g h

-- what is found in the first of two lists
found_first : (statics own : Objects) (d n : ℕ) → object_named statics d ≡ Some n → object_named (statics ++ own) d ≡ Some n
found_first [] own d n e = absurd (none_is_some n e)
found_first (entry ∷ entries) own d n e = by_name (entry.0 == d) e (found_first entries own d n)
  where
    by_name : (b : Bool) → (if b then Some entry.1 else object_named entries d) ≡ Some n → (object_named entries d ≡ Some n → object_named (entries ++ own) d ≡ Some n)
        → (if b then Some entry.1 else object_named (entries ++ own) d) ≡ Some n
    by_name true f later = f
    by_name false f later = later f

found_behind : (statics own : Objects) (d n : ℕ) → object_named statics d ≡ None → object_named own d ≡ Some n → object_named (statics ++ own) d ≡ Some n
found_behind [] own d n e f = f
found_behind (entry ∷ entries) own d n e f = by_name (entry.0 == d) e (λ g. found_behind entries own d n g f)
  where
    by_name : (b : Bool) → (if b then Some entry.1 else object_named entries d) ≡ None → (object_named entries d ≡ None → object_named (entries ++ own) d ≡ Some n) → (if b then Some entry.1 else object_named (entries ++ own) d) ≡ Some n
    by_name true g later = absurd (none_is_some entry.1 (sym g))
    by_name false g later = later g

-- ---- objects of static storage duration

-- no others have their names
abbrev StaticsOnly : Program → Objects → Type 0
StaticsOnly program objects = (d : ℕ) → is_static_number program.statics d ≡ false → object_named objects d ≡ None

or_none : (a b : Bool) → (a || b) ≡ false → (a ≡ false) × (b ≡ false)
or_none true b e = absurd (true≢false e)
or_none false b e = (refl, e)

only_from : (names : ℕ → ℕ) (i : ℕ) (statics : List Static) (objects : Objects) (d : ℕ) → object_named objects d ≡ None → is_static_number statics d ≡ false → object_named (named_from names i (static_numbers statics) objects) d ≡ None
only_from names i [] objects d h e = h
only_from names i (static ∷ statics) objects d h e =
    let there = or_none (static.declared == d) (is_static_number statics d) e in
    only_from names (suc i) statics ((static.declared, names i) ∷ objects) d (ap (λ b. if b then Some (names i) else object_named objects d) there.0 ∙ h) there.1

module _ (program : Program) where
  goes_only : (n : ℕ) (state other : State) → StaticsOnly program state.statics × NamesKnown program state → Goes (machine_of program) n state other → StaticsOnly program other.statics × NamesKnown program other
  unfolding Goes
  goes_only zero state other h g = subst (λ (s : State). StaticsOnly program s.statics × NamesKnown program s) g h
  goes_only (suc n) state other h g =
      goes_only n g.0 other (subst (StaticsOnly program) (sym (same_statics program state g.0 g.1)) h.0, known_later program state g.0 g.1 h.1) g.2

  statics_are : (input : List ℕ) (n : ℕ) (state : State) → RunsTo (machine_of program) input n state → StaticsOnly program state.statics × NamesKnown program state
  statics_are input n state run = goes_only n run.start state (begins_only run.begins, begins_known program input run.start run.begins) run.goes
    where
      begins_only : Begins program input run.start → StaticsOnly program run.start.statics
      begins_only (bytes, names, fresh, main, is_main, e) = subst (λ (s : State). StaticsOnly program s.statics) (sym e) (λ d f. only_from names 0 program.statics [] d refl f)

  static_set : (memory : Memory) (objects : Objects) → AreSetStatics program memory objects → (d n : ℕ) → object_named objects d ≡ Some n → IsTrue (is_scalar (type_declared program d)) → IsSet memory n
  static_set memory [] h d n e scalar = absurd (none_is_some n e)
  static_set memory (entry ∷ entries) h d n e scalar = by_name (entry.0 == d) refl e (λ f. static_set memory entries h.1 d n f scalar)
    where
      by_name : (b : Bool) → (entry.0 == d) ≡ b → (if b then Some entry.1 else object_named entries d) ≡ Some n → (object_named entries d ≡ Some n → IsSet memory n) → IsSet memory n
      by_name true f g later = subst (IsSet memory) (some_is_some entry.1 n g) (h.0 (subst (λ c. IsTrue (is_scalar (type_declared program c))) (sym (equal_of entry.0 d f)) scalar))
      by_name false f g later = later g

integer_scalar : (type : CType) → is_integer type ≡ true → is_scalar type ≡ true
integer_scalar type e = ap (λ b. b || is_pointer type) e

module _ (program : Program) (needs : ℕ → Bool) (sets : Tree → ℕ → Bool) (safe : Tree → Bool) (sound : IsTypedProgram program) (settled : IsSettledProgram needs program) (safes : AreSafeTrees program needs sets safe)
    (input : List ℕ) (count : ℕ) (state : State) (run_here : RunsTo (machine_of program) input count state) where
  abbrev memory : Memory
  memory = state.world.memory

  typed : IsTypedState program state
  typed = program_runs_typed program sound input count state run_here

  living : IsLivingState state
  living = run_lives program input count state run_here

  -- an object that is set
  holds_integer : (d n : ℕ) (here : IsSetDeclaration program needs d) → object_named (state.statics ++ state.frame.objects) d ≡ Some n → IsOfKind memory n (type_declared program d) → IsSet memory n → HoldsInteger (scene_of program state) memory d
  holds_integer d n here named kind set =
      let alive = named_alive state living d n named in
      let same_set : set.0 ≡ kind.0 = some_is_some set.0 kind.0 (sym set.1 ∙ kind.1) in
      let same_alive : alive.block ≡ kind.0 = some_is_some alive.block kind.0 (sym alive.found ∙ kind.1) in
      record {
        entry = here.entry;
        object = n;
        block = kind.0;
        declared = here.declared;
        integer = here.integer;
        named = named;
        found = kind.1;
        typed = kind.2 ∙ ap kind_declared here.declared;
        alive = subst (λ (block : Block). block.alive ≡ true) same_alive alive.alive;
        set = subst (λ (block : Block). is_unset block.contents ≡ false) same_set set.2;
      }

  static_holds : (d : ℕ) (here : IsSetDeclaration program needs d) → is_static_number program.statics d ≡ true → HoldsInteger (scene_of program state) memory d
  static_holds d here is =
      let named = (statics_are program input count state run_here).1.0 d is in
      let scalar : IsTrue (is_scalar (type_declared program d)) = ap (λ o. is_scalar (kind_declared o)) here.declared ∙ integer_scalar here.entry.kind here.integer in
      holds_integer d named.0 here (found_first state.statics state.frame.objects d named.0 named.1) (named_there program memory state.statics typed.statics d named.0 named.1)
      (static_set program memory state.statics (run_set program sound needs settled input count state run_here).statics d named.0 named.1 scalar)

  module _ (place : Place) (run : Run) (use_of : Use) (rest : List Task) (evaluating : unfolded state.frame.tasks ≡ evaluates place run use_of ∷ rest) (tree : Tree) (picked : safe tree ≡ true) (stands : StandsIn (begun tree) run) where
    setting : IsSetEvaluation program needs memory state.frame.objects run use_of
    setting = run_names_set program needs settled sound input count state run_here place run use_of rest evaluating

    spared : RunSpares needs sets state.frame.objects run use_of
    spared = (subst (TasksSpare needs sets state.frame.objects) evaluating (unfolded_spare needs sets state.frame.objects state.frame.tasks (run_spares program needs sets safes.initialisers input count state run_here).0)).0

    whole_run : WholeRun run
    whole_run =
        let fits = subst (TasksFit program memory (bare (result_of program state.frame.function))) evaluating (unfolded_fit program (bare (result_of program state.frame.function)) memory state.frame.tasks typed.frame.tasks) in
        comes_whole (layout program) fits.0.0 run fits.0.2 fits.0.4

    typed_here : IsTyped program (bare (result_of program state.frame.function)) tree
    typed_here =
        let fits = subst (TasksFit program memory (bare (result_of program state.frame.function))) evaluating (unfolded_fit program (bare (result_of program state.frame.function)) memory state.frame.tasks typed.frame.tasks) in
        stands_typed program (layout program) (bare (result_of program state.frame.function)) tree fits.0.0 run fits.0.2 fits.0.1 fits.0.4 stands

    -- no object that the expression takes for set is under way
    under_way : (u : Use) → RunSpares needs sets state.frame.objects run u → (d n : ℕ) → needs d ≡ true → sets tree d ≡ true → object_named state.frame.objects d ≡ Some n → IsUnderWay u n → ⊥
    under_way (initialises at kind) h d n needed taken e f =
        let same_object : n ≡ h.1 = same_number n h.1 (sym f ∙ h.3) in
        let same_name : h.0 ≡ d = one_name state.frame.objects (callers_then state.callers (numbers_of state.statics)) living.apart h.0 d n (h.2 ∙ ap Some (sym same_object)) e in
        h.4 (subst (λ c. needs c ≡ true) (sym same_name) needed) tree (subst (λ c. sets tree c ≡ true) (sym same_name) taken) stands
      where
        same_number : (a b : ℕ) → numbered a ≡ numbered b → a ≡ b
        same_number a b g = cc
    under_way drops h d n needed taken e f = f
    under_way (chooses first second) h d n needed taken e f = f
    under_way (selects items) h d n needed taken e f = f
    under_way (repeats loop) h d n needed taken e f = f
    under_way (continues loop) h d n needed taken e f = f
    under_way returns h d n needed taken e f = f

    automatic_holds : (d : ℕ) (here : IsSetDeclaration program needs d) → needs d ≡ true → sets tree d ≡ true → is_static_number program.statics d ≡ false → Names d (begun tree) → HoldsInteger (scene_of program state) memory d
    automatic_holds d here needed taken other named =
        by_set (setting.set d needed (name_in_scope (layout program) needs setting.scope d needed named.0 named.1 setting.tree run setting.comes whole_run setting.settled (stands_within _ (begun tree) run named.2 stands)))
      where
        by_set : ((n : ℕ) × (object_named state.frame.objects d ≡ Some n) × IsSet memory n) ⊎ ((n : ℕ) × (object_named state.frame.objects d ≡ Some n) × IsUnderWay use_of n) → HoldsInteger (scene_of program state) memory d
        by_set (inl s) =
            holds_integer d s.0 here (found_behind state.statics state.frame.objects d s.0 ((statics_are program input count state run_here).0 d other) s.1) (named_there program memory state.frame.objects typed.frame.named d s.0 s.1) s.2
        by_set (inr u) = absurd (under_way use_of spared d u.0 needed taken u.1 u.2)

    tree_holds : (d : ℕ) → sets tree d ≡ true → Names d (begun tree) → HoldsInteger (scene_of program state) memory d
    tree_holds d taken named = let there = safes.objects tree d taken in by_set there there.set
      where
        by_set : (there : IsSetDeclaration program needs d) → (is_static_number program.statics d ≡ true) ⊎ ((needs d ≡ true) × (is_static_number program.statics d ≡ false)) → HoldsInteger (scene_of program state) memory d
        by_set there (inl is) = static_holds d there is
        by_set there (inr (needed, other)) = automatic_holds d there needed taken other named

    number_comes_safely : (scene_of program state).program ≡ program → ComesToNumber (scene_of program state) state.world tree → ComesSafely (scene_of program state) state.world (begun tree)
    number_comes_safely same h =
        let comes = h.comes in
        (record { result = of_value (integer_value comes.kind h.value); reads = comes.reads }, comes.comes, λ at l. let n = comes.named at l in (n.0, ap (λ (a : At). a.name) n.1))

    pub tree_comes : IsPure (begun tree) × ComesSafely (scene_of program state) state.world (begun tree)
    tree_comes =
        let here = safes.trees tree picked in
        (here.pure, number_comes_safely refl (by_form here.form))
      where
        by_form : ((z : ℤ) × (constant_of program tree ≡ Some z)) ⊎ (is_built (safe_rule (sets tree)) tree ≡ true) → ComesToNumber (scene_of program state) state.world tree
        by_form (inl (z, e)) = record { value = z; comes = constant_comes (scene_of program state) state.world sound.scope typed.world.memory (bare (result_of program state.frame.function)) tree typed_here z e }
        by_form (inr e) =
            built_comes (scene_of program state) state.world sound.scope typed.world.memory (bare (result_of program state.frame.function)) (sets tree) tree typed_here e (λ d f named. tree_holds d f named)

-- So the safe expressions of a typed program always come to a value.
pub always_safe : (program : Program) (needs : ℕ → Bool) (sets : Tree → ℕ → Bool) (safe : Tree → Bool) → IsTypedProgram program → IsSettledProgram needs program → AreSafeTrees program needs sets safe
    → AreAlwaysSafe program safe
always_safe program needs sets safe sound settled safes input count state run_here place run use_of rest evaluating tree picked stands =
    tree_comes program needs sets safe sound settled safes input count state run_here place run use_of rest evaluating tree picked stands
