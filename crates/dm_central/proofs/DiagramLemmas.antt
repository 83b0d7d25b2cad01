-- Each step of a tree of the new program is met in the old one.
use Rattle.std.specs.Prelude.{◌≡◌, refl, ◌⊎◌, ℕ, Bool, true, false, not, List, [], ◌∷◌, ◌++◌, map, Option, Some, None}
use Rattle.std.proofs.Common.{true≢false, ap, sym, ◌∙◌, subst, inl, inr}
use Rattle.dm_token.specs.declared.place.Place.{Place}
use Rattle.dm_type.specs.CTypes.{CType, bare}
use Rattle.dm_tree.specs.Scenes.{is_void}
use Rattle.dm_tree.specs.Trees.{function, read, call}
use Rattle.dm_meaning.specs.declared.cause.Cause.{Cause}
use Rattle.dm_meaning.specs.declared.cause.Cause.TheVariants.{Conflict, Bounds, Life, Unset, OtherType}
use Rattle.dm_meaning.specs.Among.{IsAmong}
use Rattle.dm_meaning.specs.Values.{At, numbered}
use Rattle.dm_meaning.specs.Objects.{object_of}
use Rattle.dm_meaning.specs.Memory.{Block, look_up, lives, reached_in, value_in, or_unset, contents_at}
use Rattle.dm_meaning.specs.Programs.{layout, definition_of}
use Rattle.dm_meaning.specs.Causes.{when, is_unset, is_unset_object, is_outside, is_other, read_causes}
use Rattle.dm_meaning.specs.Operations.{of_value, designates, Operand, World, Objects, Scene, unless, plain, designated, whole}
use Rattle.dm_meaning.specs.Running.{Doing, evaluates, Run, done, to_do, Runs, no_runs, more_runs, begun, Open, every, first_open, others_open, open_parts, operands_in, Hole, here, within, Holes, in_first, in_others}
use Rattle.dm_meaning.specs.Expressions.{Move, goes, calls, fails, exits, lifted, as_move, value_of, called, node_step, own_or_inner, where_open, moves, moves_in}
use Rattle.dm_meaning.specs.Called.{Called, new_of}
use Rattle.dm_meaning.specs.Extending.{AreAmong}
use Rattle.dm_meaning.specs.Statements.{type_declared}
use Rattle.dm_meaning.proofs.AmongLemmas.{among_either, among-map_from}
use Rattle.dm_meaning.proofs.ConstantLemmas.{own_step}
use Rattle.dm_meaning.proofs.RunLemmas.{redone}
use Rattle.dm_meaning.proofs.YieldLemmas.{given_may, Yields, MoveYields, move_yields_on}
use Rattle.dm_meaning.proofs.MatchLemmas.{may_stand, open_parts_redone, IsNamedRun}
use Rattle.dm_meaning.proofs.PassRunLemmas.{AllYield, MoveYieldsAll, IsCome}
use Rattle.dm_rewrite.specs.Closed.{MemoryAvoids, May, only_closed, unseen, names_first}
use Rattle.dm_rewrite.specs.Effects.{Effect, Stage}
use Rattle.dm_rewrite.proofs.ClosedRunLemmas.{unseen_shut}
use Rattle.dm_rewrite.proofs.ShrinkEffectLemmas.{AllFirst, AllRuns, all_parts, first_of}
use Rattle.dm_central.specs.Added.{IsAdded}
use Rattle.dm_central.specs.Agreement.{Stood, a_value, a_tree, Entry, Mode, outside, inside, is_inside, entries_of, named_object, StandsFor, IsReading, beside_first, before_rest, AreUnbegun, IfOpen, IsPassed, RunAgrees, RunsAgree, PassesRun}
use Rattle.dm_central.specs.NodeSteps.{new_scene, old_stage, MeanTheSame}
use Rattle.dm_central.specs.Outcomes.{StepAgrees, Enters, Met, AreSafe, IsClaimed, IsReady, AreReady}
use Rattle.dm_central.proofs.FactLemmas.{PartAgrees, begun_kind, same_operands, as_call}
use Rattle.dm_central.proofs.NodeLemmas.{node_agrees}
use Rattle.dm_central.proofs.SafeLemmas.{AllSafe, safe_below, safe_first, safe_rest, safe_arguments}
use Rattle.dm_central.proofs.CallLemmas.{arguments_stepped, arguments_stood, arguments_failed, arguments_entered, arguments_entered_aside}
use Rattle.dm_central.proofs.OutcomeLemmas.{MetIn, PartMet, node_met, first_met, rest_met}
use Rattle.dm_central.proofs.EnteredLemmas.{target_begun, all_come, call_enters}

inside_by : (mode : Mode) (entry : Entry) → IsAmong entry (entries_of mode) → is_inside mode ≡ true
inside_by (outside safe) entry h = absurd h
inside_by (inside entries) entry h = refl

-- ---- what arguments come to

module _ (scene : Scene) (world : World) (locks : List At) where
  first_yields : (kind : CType) (kinds : List CType) (rest : Runs) → is_void (bare kind) ≡ false → AllYield kinds rest → (m : Move Run Hole) → MoveYields kind m
      → MoveYieldsAll (kind ∷ kinds) (lifted (λ run. more_runs run rest) (λ hole. in_first hole rest) m)
  first_yields kind kinds rest solid h (goes after run) y = (y, solid, h)
  first_yields kind kinds rest solid h (calls f arguments called_kind hole) y = (y, solid, h)
  first_yields kind kinds rest solid h (fails cause place) y = tt
  first_yields kind kinds rest solid h (exits status) y = tt

  rest_yield : (kind : CType) (kinds : List CType) (first : Run) → Yields kind first → is_void (bare kind) ≡ false → (m : Move Runs Holes) → MoveYieldsAll kinds m
      → MoveYieldsAll (kind ∷ kinds) (lifted (more_runs first) (in_others first) m)
  rest_yield kind kinds first y solid (goes after parts) h = (y, solid, h)
  rest_yield kind kinds first y solid (calls f arguments called_kind holes) h = (y, solid, h)
  rest_yield kind kinds first y solid (fails cause place) h = tt
  rest_yield kind kinds first y solid (exits status) h = tt

  -- each step keeps what arguments come to
  moves_yield_all : (kinds : List CType) (parts : Runs) → AllYield kinds parts → (m : Move Runs Holes) → IsAmong m (moves_in scene world locks every parts) → MoveYieldsAll kinds m
  moves_yield_all kinds no_runs h m k = absurd k
  moves_yield_all [] (more_runs first rest) h m k = absurd h
  moves_yield_all (kind ∷ kinds) (more_runs first rest) h m k = by_either (among_either m _ _ k) (moves_yield_all kinds rest h.2)
    where
      by_either : IsAmong m (map (lifted (λ run. more_runs run rest) (λ hole. in_first hole rest)) (moves scene world locks first))
          ⊎ IsAmong m (map (lifted (more_runs first) (in_others first)) (moves_in scene world locks every rest))
          → ((x : Move Runs Holes) → IsAmong x (moves_in scene world locks every rest) → MoveYieldsAll kinds x) → MoveYieldsAll (kind ∷ kinds) m
      by_either (inl l) later =
          let from = among-map_from (lifted (λ run. more_runs run rest) (λ hole. in_first hole rest)) m _ l in
          subst (MoveYieldsAll (kind ∷ kinds)) (sym from.2) (first_yields kind kinds rest h.1 h.2 from.0 (move_yields_on scene world locks kind first h.0 from.0 from.1))
      by_either (inr l) later =
          let from = among-map_from (lifted (more_runs first) (in_others first)) m _ l in
          subst (MoveYieldsAll (kind ∷ kinds)) (sym from.2) (rest_yield kind kinds first h.0 h.1 from.0 (later from.0 from.1))

module _ (change : Called) (added : IsAdded change) (objects others : Objects) (closed : List ℕ) (quiet : ℕ → Bool) (mode : Mode) (same_objects : MeanTheSame change mode objects others) (world : World)
    (fewer locks : List At) (among : AreAmong fewer locks) (ready : AreReady change mode objects (old_stage change others closed quiet) world fewer)
    (avoid : (n : ℕ) → IsAmong n closed → MemoryAvoids n world.memory) where
  abbrev stage : Stage
  stage = old_stage change others closed quiet

  abbrev scene : Scene
  scene = new_scene change objects

  abbrev MetHere : List Effect → Run → Move Run Hole → Type 0
  MetHere beside other m = Met change stage mode world locks beside other m

  abbrev MetThere : List Effect → List Effect → Open → Runs → Move Runs Holes → Type 0
  MetThere before beside opens other_parts m = MetIn change stage mode world locks before beside opens other_parts m

  abbrev PartHere : List Effect → Run → Move Run Hole → Type 0
  PartHere beside other m = PartMet change stage mode world locks beside other m

  abbrev SafeHere : List Effect → Run → Type 0
  SafeHere beside other = AreSafe stage mode world locks beside other

  abbrev SafeThere : List Effect → List Effect → Open → Runs → Type 0
  SafeThere before beside opens other_parts = AllSafe change stage mode world locks before beside opens other_parts

  -- ---- a parameter is read

  -- its object may be
  abbrev asks : CType → Bool → Option Block → List Cause
  asks kind overlap o =
      (when Conflict overlap ++ when Bounds (is_outside (reached_in (layout change.old) [] o)) ++ when Life (not (lives o)) ++ when OtherType (is_other kind (reached_in (layout change.old) [] o)))
      ++ when Unset (is_unset_object (or_unset (value_in [] o)) (reached_in (layout change.old) [] o))

  own_read : (kind : CType) (entry : Entry) → IsReady change objects stage world fewer entry → is_other kind (object_of (bare (type_declared (new_of change) entry.parameter)) false) ≡ false
      → read_causes (layout change.old) world.memory fewer kind (whole (numbered entry.stored)) ≡ []
  own_read kind entry r own =
      ap (λ overlap. asks kind overlap (look_up world.memory entry.stored)) r.free
      ∙ ap (asks kind false) r.found
      ∙ ap (λ b. when OtherType b ++ when Unset (is_unset entry.value)) own
      ∙ ap (when Unset) r.set

  leaf_met : (beside : List Effect) (entry : Entry) → IsAmong entry (entries_of mode) → IsReady change objects stage world fewer entry → (named : Bool) (kind : CType) (place : Place) (named_kind : CType) (named_place : Place)
      → is_other kind (object_of (bare (type_declared (new_of change) entry.parameter)) false) ≡ false → (other : Run) → StandsFor entry entry.stood kind other → (m : Move Run Hole)
      → IsAmong m (moves scene world fewer (to_do (evaluates read) kind place (more_runs (named_object entry named named_kind named_place) no_runs))) → PartHere beside other m
  leaf_met beside entry here_is r false kind place named_kind named_place own other stands m (inl k) =
      inr (record {
        run = to_do (evaluates read) kind place (more_runs (done named_kind (designates (whole (numbered entry.stored))) []) no_runs);
        is =
            k
            ∙ ap (λ o. lifted (to_do (evaluates read) kind place) (within (evaluates read) kind place) (lifted (λ run. more_runs run no_runs) (λ hole. in_first hole no_runs) (as_move named_kind named_place [] (designated world o)))) r.named;
        reads = record {
          entry = entry;
          among = here_is;
          named = true;
          kind = kind;
          place = place;
          named_kind = named_kind;
          named_place = named_place;
          is = refl;
          own = own;
          stands = stands;
        };
      })
  leaf_met beside entry here_is r false kind place named_kind named_place own other stands m (inr k) = absurd k
  leaf_met beside entry here_is r true kind place named_kind named_place own other stands m (inr k) = absurd k
  leaf_met beside entry here_is r true kind place named_kind named_place own other stands m (inl k) =
      by_stood entry.stood stands r.claimed
      (k
      ∙ ap (λ causes. as_move kind place [] (unless causes (plain world (contents_at world.memory (whole (numbered entry.stored)))))) (own_read kind entry r own)
      ∙ ap (λ o. as_move kind place [] (plain world (or_unset (value_in [] o)))) r.found)
    where
      by_stood : (s : Stood) → StandsFor entry s kind other → IsClaimed stage world entry.value s → m ≡ goes world (done kind (of_value entry.value) []) → PartHere beside other m
      by_stood a_value (own_locks, e) claimed g =
          inl (inr (inl (record {
            run = done kind (of_value entry.value) [];
            is = g;
            agrees = subst (RunAgrees change stage mode world beside (done kind (of_value entry.value) [])) (sym e) (refl, refl, λ lock l. absurd l);
          })))
      by_stood (a_tree tree) (e, typed, gives) claimed g =
          inl (inr (inr (inl (record {
            inner = inside_by mode entry here_is;
            hole = here;
            opened = tt;
            tree = begun tree;
            pure = claimed.0;
            is = e;
            no_name = target_begun others tree (given_may tree gives);
            value = entry.value;
            comes = claimed.1;
            run = done kind (of_value entry.value) [];
            goes_on = g;
            agrees = (typed ∙ sym (begun_kind tree), refl, λ lock l. absurd l);
          }))))

  pub reading_met : (beside : List Effect) (run other : Run) → IsReading change mode run other → (m : Move Run Hole) → IsAmong m (moves scene world fewer run) → PartHere beside other m
  reading_met beside run other h m k =
      leaf_met beside h.entry h.among (ready h.entry h.among) h.named h.kind h.place h.named_kind h.named_place h.own other h.stands m (subst (λ r. IsAmong m (moves scene world fewer r)) h.is k)

  -- the same with the record undone
  pub read_met : (beside : List Effect) (run other : Run) → IsReading change mode run other → (m : Move Run Hole) → IsAmong m (moves scene world fewer run)
      → MetHere beside other m ⊎ ((later : Run) × (m ≡ goes world later) × IsReading change mode later other)
  read_met beside run other h m k = by_part (reading_met beside run other h m k)
    where
      by_part : PartHere beside other m → MetHere beside other m ⊎ ((later : Run) × (m ≡ goes world later) × IsReading change mode later other)
      by_part (inl x) = inl x
      by_part (inr s) = inr (s.run, s.is, s.reads)

  part_matched : (beside : List Effect) (run other : Run) → PartAgrees change stage mode world beside run other
      → (RunAgrees change stage mode world beside run other → (m : Move Run Hole) → IsAmong m (moves scene world fewer run) → MetHere beside other m)
      → (m : Move Run Hole) → IsAmong m (moves scene world fewer run) → PartHere beside other m
  part_matched beside run other (inl h) later m k = inl (later h m k)
  part_matched beside run other (inr h) later m k = reading_met beside run other h m k

  -- ---- the step of a node whose operands are evaluated, or one of its operands

  by_operands : (beside : List Effect) (doing : Doing) (kind : CType) (place at : Place) (parts other_parts : Runs) → RunsAgree change stage mode world [] beside (open_parts doing) parts other_parts
      → may_stand change.old (is_inside mode) doing ≡ true → (o : Option (List Operand)) → operands_in (open_parts doing) parts ≡ o
      → ((m : Move Runs Holes) → IsAmong m (moves_in scene world fewer (open_parts doing) parts) → MetThere [] beside (open_parts doing) other_parts m) → (m : Move Run Hole)
      → IsAmong m (own_or_inner o (node_step scene world fewer (redone change.rename doing) kind place parts)
      (map (lifted (to_do (redone change.rename doing) kind place) (within (redone change.rename doing) kind place)) (moves_in scene world fewer (open_parts doing) parts)))
      → MetHere beside (to_do doing kind at other_parts) m
  by_operands beside doing kind place at parts other_parts h stands (Some operands) e inner m (inl k) =
      inl (record {
        step = node_step stage.scene world locks doing kind at other_parts operands;
        among = own_step (operands_in (open_parts doing) other_parts) operands _ _ _ (same_operands change stage mode world [] beside (open_parts doing) parts other_parts operands h e) refl;
        agrees =
            subst (λ x. StepAgrees change stage mode world beside x (node_step stage.scene world locks doing kind at other_parts operands)) (sym k)
            (node_agrees change added objects others closed quiet mode same_objects world fewer locks among beside doing kind place at parts other_parts operands h stands);
      })
  by_operands beside doing kind place at parts other_parts h stands (Some operands) e inner m (inr k) = absurd k
  by_operands beside doing kind place at parts other_parts h stands None e inner m k =
      let from = among-map_from _ m _ k in
      subst (MetHere beside (to_do doing kind at other_parts)) (sym from.2) (node_met change stage mode world locks beside doing kind place at stands other_parts from.0 (inner from.0 from.1))

  -- a node of the same form
  node_matched : (beside : List Effect) (doing other : Doing) (kind other_kind : CType) (place at : Place) (parts other_parts : Runs) → doing ≡ redone change.rename other → kind ≡ other_kind
      → may_stand change.old (is_inside mode) other ≡ true → RunsAgree change stage mode world [] beside (open_parts other) parts other_parts
      → ((m : Move Runs Holes) → IsAmong m (moves_in scene world fewer (open_parts other) parts) → MetThere [] beside (open_parts other) other_parts m)
      → (m : Move Run Hole) → IsAmong m (moves scene world fewer (to_do doing kind place parts)) → MetHere beside (to_do other other_kind at other_parts) m
  node_matched beside doing other kind other_kind place at parts other_parts e f stands h inner m k =
      let same : IsAmong m (moves scene world fewer (to_do (redone change.rename other) other_kind place parts)) =
      subst (λ d. IsAmong m (moves scene world fewer (to_do d other_kind place parts))) e (subst (λ t. IsAmong m (moves scene world fewer (to_do doing t place parts))) f k) in
      let opened : IsAmong m (own_or_inner (operands_in (open_parts other) parts) (node_step scene world fewer (redone change.rename other) other_kind place parts)
      (map (lifted (to_do (redone change.rename other) other_kind place) (within (redone change.rename other) other_kind place)) (moves_in scene world fewer (open_parts other) parts))) =
      subst (λ opens. IsAmong m (own_or_inner (operands_in opens parts) (node_step scene world fewer (redone change.rename other) other_kind place parts)
      (map (lifted (to_do (redone change.rename other) other_kind place) (within (redone change.rename other) other_kind place)) (moves_in scene world fewer opens parts))))
      (open_parts_redone change.rename other) same in
      by_operands beside other other_kind place at parts other_parts h stands (operands_in (open_parts other) parts) refl inner m opened

  -- ---- calls of the added function

  abbrev named_run : CType → Place → Run
  named_run kind place = to_do (evaluates (function change.added.function)) kind place no_runs

  module _ (beside : List Effect) (kind : CType) (place : Place) (other : Run) (inner : Runs) (passed : IsPassed change stage mode world beside (evaluates call) kind other inner) (named_kind : CType) (named_place : Place)
      (safe : SafeHere beside other) (shut : AllFirst stage world locks other) where
    abbrev named : Run
    named = named_run named_kind named_place

    abbrev calling_run : Runs → Run
    calling_run parts = to_do (evaluates call) kind place (more_runs named parts)

    abbrev calling_hole : Holes → Hole
    calling_hole holes = within (evaluates call) kind place (in_others named holes)

    is_named : IsNamedRun change named
    is_named = record { kind = named_kind; place = named_place; is = refl }

    -- the arguments are evaluated: the function is called
    call_entered : (operands : List Operand) (m : Move Run Hole) → m ≡ called scene world kind place (map (λ a. value_of a.result) operands) change.added.function (definition_of (new_of change) change.added.function)
        → IsCome passed.kinds operands inner → MetHere beside other m
    call_entered operands m e come =
        inr (inr (inr (inr (inl
        (subst (λ x. Enters change stage mode world beside other x)
        (sym (e ∙ ap (called scene world kind place (map (λ a. value_of a.result) operands) change.added.function) added.found ∙ ap (λ vs. calls change.added.function vs kind here) come.is))
        (call_enters change stage mode world avoid locks beside kind other inner added.gives passed shut operands come))))))

    -- a step of an argument
    argument_met : (x : Move Runs Holes) → MoveYieldsAll passed.kinds x → MetThere [] beside every inner x → MetHere beside other (lifted calling_run calling_hole x)
    argument_met x y (inl s) =
        arguments_stepped change stage mode world locks beside added kind place other inner passed named is_named avoid safe shut x s.step y s.among s.agrees
    argument_met x y (inr (inl s)) =
        arguments_stood change stage mode world locks beside added kind place other inner passed named is_named avoid safe shut x y s.runs s.is s.agrees
    argument_met x y (inr (inr (inl e))) = absurd (true≢false (sym e.inner ∙ ap is_inside passed.elsewhere))
    argument_met x y (inr (inr (inr (inl f)))) =
        arguments_failed change stage mode world locks beside added kind place other inner passed named is_named avoid safe shut (lifted calling_run calling_hole x) f.holes f.opened f.tree f.pure f.is f.meets
    argument_met x y (inr (inr (inr (inr (inl e))))) =
        subst (λ z. MetHere beside other (lifted calling_run calling_hole z)) (sym e.called)
        (arguments_entered change stage mode world locks beside added kind place other inner passed named is_named avoid safe shut e.elsewhere e.values e.kind e.holes e.other_holes e.opened e.run e.is e.no_name e.agrees
        (subst (MoveYieldsAll passed.kinds) e.called y) e.gives e.typed e.entered)
    argument_met x y (inr (inr (inr (inr (inr e))))) =
        subst (λ z. MetHere beside other (lifted calling_run calling_hole z)) (sym e.called)
        (arguments_entered_aside change stage mode world locks beside added kind place other inner passed named is_named avoid safe shut e.elsewhere e.values e.kind e.holes e.run e.pure e.found e.is e.value e.comes e.lacks e.entered e.closed
        (subst (MoveYieldsAll passed.kinds) e.called y) e.agrees)

    -- a step of a call
    call_steps : (parts : Runs) → AllYield passed.kinds parts → RunsAgree change stage mode world [] beside every parts inner
        → ((m : Move Runs Holes) → IsAmong m (moves_in scene world fewer every parts) → MetThere [] beside every inner m) → (o : Option (List Operand)) → operands_in every parts ≡ o → (m : Move Run Hole)
        → IsAmong m (own_or_inner o (node_step scene world fewer (evaluates call) kind place (more_runs named parts))
        (map (lifted (to_do (evaluates call) kind place) (within (evaluates call) kind place)) (map (lifted (more_runs named) (in_others named)) (moves_in scene world fewer every parts))))
        → MetHere beside other m
    call_steps parts yields agrees steps (Some operands) e m (inl k) = call_entered operands m k (all_come change stage mode world [] beside passed.kinds parts inner operands yields agrees e)
    call_steps parts yields agrees steps (Some operands) e m (inr k) = absurd k
    call_steps parts yields agrees steps None e m k =
        let outermost = among-map_from (lifted (to_do (evaluates call) kind place) (within (evaluates call) kind place)) m _ k in
        let middle = among-map_from (lifted (more_runs named) (in_others named)) outermost.0 _ outermost.1 in
        subst (MetHere beside other) (sym (outermost.2 ∙ ap (lifted (to_do (evaluates call) kind place) (within (evaluates call) kind place)) middle.2 ∙ sym (lifted_twice middle.0)))
        (argument_met middle.0 (moves_yield_all scene world fewer passed.kinds parts yields middle.0 middle.1) (steps middle.0 middle.1))
      where
        lifted_twice : (z : Move Runs Holes) → lifted calling_run calling_hole z ≡ lifted (to_do (evaluates call) kind place) (within (evaluates call) kind place) (lifted (more_runs named) (in_others named) z)
        lifted_twice (goes after run) = refl
        lifted_twice (calls f arguments called_kind hole) = refl
        lifted_twice (fails cause at_place) = refl
        lifted_twice (exits status) = refl

  -- the arguments of a call, and their steps
  pub record Passing (beside : List Effect) (kinds : List CType) (parts inner : Runs) : Type 0 where
    pub named_kind : CType
    pub named_place : Place
    pub rest : Runs
    pub is : parts ≡ more_runs (named_run named_kind named_place) rest
    pub yields : AllYield kinds rest
    pub agrees : RunsAgree change stage mode world [] beside every rest inner
    pub steps : SafeThere [] beside every inner → AllRuns stage world locks only_closed inner → (m : Move Runs Holes) → IsAmong m (moves_in scene world fewer every rest) → MetThere [] beside every inner m

  call_matched : (beside : List Effect) (doing : Doing) (kind : CType) (place : Place) (parts : Runs) (other : Run) (inner : Runs) (passed : IsPassed change stage mode world beside doing kind other inner)
      → Passing beside passed.kinds parts inner → SafeHere beside other → AllFirst stage world locks other → (m : Move Run Hole) → IsAmong m (moves scene world fewer (to_do doing kind place parts)) → MetHere beside other m
  call_matched beside doing kind place parts other inner passed passing safe shut m k =
      let called_here = as_call change added stage mode world beside doing kind other inner passed in
      call_steps beside kind place other inner called_here passing.named_kind passing.named_place safe shut passing.rest passing.yields passing.agrees
      (passing.steps (safe_arguments change stage mode world locks added beside kind other inner called_here safe) passed.closed) (operands_in every passing.rest) refl m
      (subst (λ d. IsAmong m (moves scene world fewer (to_do d kind place (more_runs (named_run passing.named_kind passing.named_place) passing.rest)))) passed.is
      (subst (λ ps. IsAmong m (moves scene world fewer (to_do doing kind place ps))) passing.is k))

  -- ---- all trees

  first_or_rest : (before beside : List Effect) (may : May) (opens : Open) → (may ≡ unseen → first_open opens ≡ false) → (first : Run) (rest : Runs) (other : Run) (other_parts : Runs)
      → RunsAgree change stage mode world before beside opens (more_runs first rest) (more_runs other other_parts) → SafeThere before beside opens (more_runs other other_parts) → AllRuns stage world locks may (more_runs other other_parts)
      → (RunAgrees change stage mode world (beside_first stage opens before beside other_parts) first other → SafeHere (beside_first stage opens before beside other_parts) other → AllFirst stage world locks other → (x : Move Run Hole) → IsAmong x (moves scene world fewer first)
      → MetHere (beside_first stage opens before beside other_parts) other x)
      → (SafeThere (before_rest stage opens before other) beside (others_open opens) other_parts → (x : Move Runs Holes) → IsAmong x (moves_in scene world fewer (others_open opens) rest) → MetThere (before_rest stage opens before other) beside (others_open opens) other_parts x)
      → (m : Move Runs Holes)
      → IsAmong m (where_open (first_open opens) (map (lifted (λ run. more_runs run rest) (λ hole. in_first hole rest)) (moves scene world fewer first)))
      ⊎ IsAmong m (map (lifted (more_runs first) (in_others first)) (moves_in scene world fewer (others_open opens) rest))
      → MetThere before beside opens (more_runs other other_parts) m
  first_or_rest before beside may opens shut first rest other other_parts h safe all one more m (inr k) =
      let from = among-map_from (lifted (more_runs first) (in_others first)) m _ k in
      subst (MetThere before beside opens (more_runs other other_parts)) (sym from.2)
      (rest_met change stage mode world locks avoid before beside opens first rest other other_parts h (λ n c. (all n c).1) from.0
      (more (safe_rest change stage mode world locks before beside opens first rest other other_parts h safe) from.0 from.1))
  first_or_rest before beside may opens shut first rest other other_parts h safe all one more m (inl k) = by_open (first_open opens) refl h.0 k
    where
      by_open : (b : Bool) → first_open opens ≡ b
          → IfOpen b (PartAgrees change stage mode world (beside_first stage opens before beside other_parts) first other) (AreUnbegun change stage mode beside first other)
          → IsAmong m (where_open b (map (lifted (λ run. more_runs run rest) (λ hole. in_first hole rest)) (moves scene world fewer first)))
          → MetThere before beside opens (more_runs other other_parts) m
      by_open false o part l = absurd l
      by_open true o part l =
          let from = among-map_from (lifted (λ run. more_runs run rest) (λ hole. in_first hole rest)) m _ l in
          let all_first = first_of stage world locks avoid may (first_open opens) other other_parts shut o all in
          subst (MetThere before beside opens (more_runs other other_parts)) (sym from.2)
          (first_met change stage mode world locks avoid before beside opens first rest other other_parts h o all_first from.0
          (part_matched (beside_first stage opens before beside other_parts) first other part
          (λ agrees x among_x. one agrees (safe_first change stage mode world locks before beside opens first rest other other_parts o h.1 safe) all_first x among_x) from.0 from.1))

  mutual
    -- Each step of a tree is met.
    pub run_matched : (beside : List Effect) (run other : Run) → RunAgrees change stage mode world beside run other → SafeHere beside other → AllFirst stage world locks other → (m : Move Run Hole)
        → IsAmong m (moves scene world fewer run) → MetHere beside other m
    run_matched beside (done kind result own) (done other_kind other_result other_own) h safe shut m k = absurd k
    run_matched beside (done kind result own) (to_do doing other_kind place parts) h safe shut m k = absurd h
    run_matched beside (to_do doing kind place parts) (done other_kind result own) h safe shut m k =
        call_matched beside doing kind place parts (done other_kind result own) h.0 h.1 (passes_matched beside h.1.kinds parts h.0 h.2) safe shut m k
    run_matched beside (to_do doing kind place parts) (to_do other other_kind at other_parts) (inl h) safe shut m k =
        node_matched beside doing other kind other_kind place at parts other_parts h.0 h.1 h.2 h.3
        (runs_matched [] beside (names_first other) (open_parts other) (unseen_shut other) parts other_parts h.3 (safe_below change stage mode world locks beside other other_kind at other_parts safe) (all_parts stage world locks other other_kind at other_parts shut)) m k
    run_matched beside (to_do doing kind place parts) (to_do other other_kind at other_parts) (inr h) safe shut m k =
        call_matched beside doing kind place parts (to_do other other_kind at other_parts) h.0 h.1 (passes_matched beside h.1.kinds parts h.0 h.2) safe shut m k

    pub runs_matched : (before beside : List Effect) (may : May) (opens : Open) → (may ≡ unseen → first_open opens ≡ false) → (parts other_parts : Runs) → RunsAgree change stage mode world before beside opens parts other_parts
        → SafeThere before beside opens other_parts → AllRuns stage world locks may other_parts → (m : Move Runs Holes) → IsAmong m (moves_in scene world fewer opens parts) → MetThere before beside opens other_parts m
    runs_matched before beside may opens shut no_runs no_runs h safe all m k = absurd k
    runs_matched before beside may opens shut no_runs (more_runs other other_parts) h safe all m k = absurd h
    runs_matched before beside may opens shut (more_runs first rest) no_runs h safe all m k = absurd h
    runs_matched before beside may opens shut (more_runs first rest) (more_runs other other_parts) h safe all m k =
        first_or_rest before beside may opens shut first rest other other_parts h safe all
        (λ agrees safe_there all_first x among_x. run_matched (beside_first stage opens before beside other_parts) first other agrees safe_there all_first x among_x)
        (λ safe_there x among_x. runs_matched (before_rest stage opens before other) beside only_closed (others_open opens) (λ e. absurd (cc)) rest other_parts h.1 safe_there (λ n c. (all n c).1) x among_x) m (among_either m _ _ k)

    passes_matched : (beside : List Effect) (kinds : List CType) (parts inner : Runs) → PassesRun change stage mode world beside kinds parts inner → Passing beside kinds parts inner
    passes_matched beside kinds no_runs inner h = absurd h
    passes_matched beside kinds (more_runs named rest) inner h = record {
      named_kind = h.0.kind;
      named_place = h.0.place;
      rest = rest;
      is = ap (λ run. more_runs run rest) h.0.is;
      yields = h.1;
      agrees = h.2;
      steps = λ safe all m k. runs_matched [] beside only_closed every (λ e. absurd (cc)) rest inner h.2 safe all m k;
    }
