-- States of two programs of which one reads an added const object, in one memory, which has that object: each step of the new program is met by
-- steps of the old one, or, where it names the object, by none.
use Rattle.std.specs.Prelude.{◌+◌, ◌≤◌, ◌==◌, ◌≡◌, refl, ◌⊎◌, ℕ, zero, suc, Bool, true, false, List, [], ◌∷◌, ◌++◌, map, length, Option, Some, None, option_map, pos, bytes_eq, codes, if◌then◌else◌}
use Rattle.std.proofs.Common.{arith, ap, sym, ◌∙◌, subst, inl, inr}
use Rattle.dm_token.specs.declared.place.Place.{Place}
use Rattle.dm_int.specs.declared.Kind.TheVariants.{Int}
use Rattle.dm_type.specs.CTypes.{CType}
use Rattle.dm_tree.specs.declared.unit.Sort.{Sort}
use Rattle.dm_tree.specs.Trees.{Tree, parts_of, Declarator, Initialiser}
use Rattle.dm_tree.specs.Units.{Declaration}
use Rattle.dm_meaning.specs.declared.cause.Cause.{Cause}
use Rattle.dm_meaning.specs.declared.cause.Cause.TheVariants.{NoValue, External}
use Rattle.dm_meaning.specs.Among.{IsAmong}
use Rattle.dm_meaning.specs.Machines.{Standing, going, exited, undefined, Goes}
use Rattle.dm_meaning.specs.Simulation.{GoesWrong}
use Rattle.dm_meaning.specs.Values.{At, numbered, overlaps_any, Value, integer_value, unset}
use Rattle.dm_meaning.specs.Memory.{Memory, look_up, new_block, killed, IsFresh}
use Rattle.dm_meaning.specs.Programs.{Program, Definition, layout, declaration_of, definition_of}
use Rattle.dm_meaning.specs.Operations.{of_value, Objects, object_named, whole}
use Rattle.dm_meaning.specs.Running.{Run, done, to_do, Hole, locks_in}
use Rattle.dm_meaning.specs.Expressions.{Move, goes, calls, fails, exits, moves}
use Rattle.dm_meaning.specs.States.{Use, Task, begins, declares, initials, evaluates, again, tests, ends, ends_switch, leaves, skips, hands_back, Caller, State}
use Rattle.dm_meaning.specs.Statements.{Turned, onward, refused, declared_in, type_declared, named_from, made_from, unfolded, concluded, begin_statement, begin_declarator, begin_initialiser, ended, after_break, after_continue}
use Rattle.dm_meaning.specs.Steps.{given_from, opened_frame, opened_memory, opened, lacks_value, gone_back, handed_back, is_main, gives_nothing, body_place, no_place, closed, turned, moved, scene_of, expression_steps, task_steps, steps_from, next, Step}
use Rattle.dm_meaning.specs.Units.{machine_of}
use Rattle.dm_meaning.specs.Replaced.{renamed_declarator, Zipped, facts_of}
use Rattle.dm_meaning.proofs.AmongLemmas.{among-map, among-map_from}
use Rattle.dm_meaning.proofs.StepLemmas.{fresh_names}
use Rattle.dm_meaning.proofs.QuietLemmas.{Quietly, Fails}
use Rattle.dm_meaning.proofs.RunLemmas.{OptionAgrees, renamed_objects, object_renamed}
use Rattle.dm_meaning.proofs.StatementLemmas.{numbers_renamed, named_from_renamed, length_renamed}
use Rattle.dm_meaning.specs.MoreObjects.{TasksSettled, LocksMade}
use Rattle.dm_meaning.proofs.MatchLemmas.{unlocked}
use Rattle.dm_meaning.proofs.ShrinkLemmas.{left_in, hole_left, Leaves as LeavesLess, filled_left, move_leaves}
use Rattle.dm_meaning.proofs.PassStatementLemmas.{definition_small}
use Rattle.dm_rewrite.specs.NamedConstants.{Named, new_of, IsNaming, HasHeld, NameAlike, RunAgrees, HoleAgrees, RunMoveAgrees, Matched}
use Rattle.dm_rewrite.proofs.NamedConstantLemmas.{definition_agrees, filled_agrees, same_locks, run_matched}
use Rattle.dm_rewrite.proofs.NamedStatementLemmas.{same_type, declared_in_agrees, made_from_agrees, items_agree, statement_begins, declarator_begins, initialiser_begins, conclusion_agrees, unfolded_agree, ended_agrees, break_agrees, continue_agrees}
use Rattle.dm_rewrite.proofs.NamedSizeLemmas.{limit, TreeFits, RunFits, DefinitionFits, UseAgrees, TasksAgree, TurnedAgrees, option_fits, body_fits, likeness, tasks_left}

-- ---- how states agree

pub record CallerAgrees (change : Named) (number : ℕ) (caller other : Caller) : Type 0 where
  pub function : caller.frame.function ≡ change.rename other.frame.function
  pub objects : caller.frame.objects ≡ renamed_objects change.rename other.frame.objects
  pub tasks : TasksAgree change number caller.frame.tasks other.frame.tasks
  pub kind : caller.kind ≡ other.kind
  pub hole : HoleAgrees change number caller.hole other.hole
  pub few : hole_left caller.hole ≤ limit change
  pub use_of : UseAgrees change caller.use_of other.use_of

abbrev pub CallersAgree : Named → ℕ → List Caller → List Caller → Type 0
CallersAgree change number callers others = Zipped (λ caller other. CallerAgrees change number caller other) callers others

pub record StateAgrees (change : Named) (number : ℕ) (state other : State) : Type 0 where
  pub standing : state.standing ≡ other.standing
  pub function : state.frame.function ≡ change.rename other.frame.function
  pub objects : state.frame.objects ≡ renamed_objects change.rename other.frame.objects
  pub tasks : TasksAgree change number (unfolded state.frame.tasks) (unfolded other.frame.tasks)
  pub callers : CallersAgree change number state.callers other.callers
  pub statics : NameAlike change number state.statics other.statics
  pub world : state.world ≡ other.world

-- the state of the new program by that of the old one, but for what is left to do and the names of static objects
abbrev pub built : Named → State → Objects → List Task → List Caller → State
built change other statics tasks callers = record {
  standing = other.standing;
  frame = record { function = change.rename other.frame.function; objects = renamed_objects change.rename other.frame.objects; tasks = tasks };
  callers = callers;
  statics = statics;
  world = other.world;
}

is_built : (change : Named) (number : ℕ) (state other : State) → StateAgrees change number state other → state ≡ built change other state.statics state.frame.tasks state.callers
is_built change number state other h = λ i. record {
  standing = h.standing i;
  frame = record { function = h.function i; objects = h.objects i; tasks = state.frame.tasks };
  callers = state.callers;
  statics = state.statics;
  world = h.world i;
}

less_still : (a b c : ℕ) → a + 1 ≤ b → b ≤ c → a ≤ c
less_still a b c h k = omega (arith, h, k)

less_than : (a b c : ℕ) → a + 1 ≤ b → b ≤ c → a + 1 ≤ c
less_than a b c h k = omega (arith, h, k)

-- a name is looked up in one list and then in another
named_behind : (change : Named) (number : ℕ) (news olds : Objects) → NameAlike change number news olds → (objects : Objects) → ((c d : ℕ) → change.rename c ≡ change.rename d → c ≡ d)
    → NameAlike change number (news ++ renamed_objects change.rename objects) (olds ++ objects)
named_behind change number news olds h objects injective = record {
  same = λ d.
      behind news (renamed_objects change.rename objects) (change.rename d)
      ∙ ap (λ o. or_else o (object_named (renamed_objects change.rename objects) (change.rename d))) (h.same d)
      ∙ ap (or_else (object_named olds d)) (object_renamed change.rename injective objects d)
      ∙ sym (behind olds objects d);
  added = behind news (renamed_objects change.rename objects) change.added ∙ ap (λ o. or_else o (object_named (renamed_objects change.rename objects) change.added)) h.added;
}
  where
    or_else : Option ℕ → Option ℕ → Option ℕ
    or_else None other = other
    or_else (Some n) other = Some n

    behind_if : (b : Bool) (n : ℕ) (o rest other : Option ℕ) → o ≡ or_else rest other → (if b then Some n else o) ≡ or_else (if b then Some n else rest) other
    behind_if true n o rest other e = refl
    behind_if false n o rest other e = e

    behind : (first second : Objects) (d : ℕ) → object_named (first ++ second) d ≡ or_else (object_named first d) (object_named second d)
    behind [] second d = refl
    behind (entry ∷ entries) second d = behind_if (entry.0 == d) entry.1 _ _ _ (behind entries second d)

-- ---- steps of a machine

goes_one : (program : Program) (s t : State) → Step program s t → Goes (machine_of program) 1 s t
unfolding Goes
goes_one program s t step = (t, step, refl)

goes_none : (program : Program) (s t : State) → s ≡ t → Goes (machine_of program) 0 s t
unfolding Goes
goes_none program s t e = e

goes_first : (program : Program) (n : ℕ) (s t u : State) → Step program s t → Goes (machine_of program) n t u → Goes (machine_of program) (suc n) s u
unfolding Goes
goes_first program n s t u step rest = (t, step, rest)

from_steps : (standing : Standing) (states : List State) (x : State) → IsAmong x (steps_from standing states) → (standing ≡ going) × IsAmong x states
from_steps going states x h = (refl, h)
from_steps (exited status) states x h = absurd h
from_steps (undefined cause place) states x h = absurd h

-- ---- the frame of a call

main_fact : Option (List ℕ × Sort × CType) → Bool
main_fact None = false
main_fact (Some facts) = bytes_eq facts.0 (codes "main")

main_is : (o : Option Declaration) → is_main o ≡ main_fact (option_map facts_of o)
unfolding main_fact
main_is None = refl
main_is (Some declaration) = refl

module _ (change : Named) (number : ℕ) (naming : IsNaming change) where
  pub same_main : (d : ℕ) → is_main (declaration_of (new_of change) (change.rename d)) ≡ is_main (declaration_of change.old d)
  same_main d = main_is (declaration_of (new_of change) (change.rename d)) ∙ ap main_fact (naming.told d) ∙ sym (main_is (declaration_of change.old d))

  given_agrees : (names : ℕ → ℕ) (i : ℕ) (ds : List ℕ) (values : List Value) (memory : Memory)
      → given_from (new_of change) names i (map change.rename ds) values memory ≡ given_from change.old names i ds values memory
  given_agrees names i [] [] memory = refl
  given_agrees names i [] (value ∷ values) memory = refl
  given_agrees names i (d ∷ ds) [] memory =
      ap (λ kind. given_from (new_of change) names (suc i) (map change.rename ds) [] ((names i, new_block (layout change.old) kind) ∷ memory)) (same_type change (likeness change number naming) d)
      ∙ given_agrees names (suc i) ds [] ((names i, new_block (layout change.old) (type_declared change.old d)) ∷ memory)
  given_agrees names i (d ∷ ds) (value ∷ values) memory =
      ap (λ kind. given_from (new_of change) names (suc i) (map change.rename ds) values ((names i, record (new_block (layout change.old) kind) { contents = value }) ∷ memory)) (same_type change (likeness change number naming) d)
      ∙ given_agrees names (suc i) ds values ((names i, record (new_block (layout change.old) (type_declared change.old d)) { contents = value }) ∷ memory)

  pub frame_objects : (names : ℕ → ℕ) (definition other : Definition) → DefinitionFits change definition other
      → (opened_frame (new_of change) names definition).objects ≡ renamed_objects change.rename (opened_frame change.old names other).objects
  frame_objects names definition other h =
      ap (λ ps. named_from names (length ps) (declared_in (new_of change) (parts_of definition.body)) (named_from names 0 ps [])) h.0.1
      ∙ ap (λ n. named_from names n (declared_in (new_of change) (parts_of definition.body)) (named_from names 0 (map change.rename other.parameters) [])) (length_renamed change.rename other.parameters)
      ∙ ap (λ ds. named_from names (length other.parameters) ds (named_from names 0 (map change.rename other.parameters) []))
      (declared_in_agrees change (likeness change number naming) (parts_of definition.body) (parts_of other.body) (body_fits change definition other h))
      ∙ ap (named_from names (length other.parameters) (map change.rename (declared_in change.old (parts_of other.body)))) (named_from_renamed change.rename names 0 other.parameters [])
      ∙ named_from_renamed change.rename names (length other.parameters) (declared_in change.old (parts_of other.body)) (named_from names 0 other.parameters [])

  pub frame_tasks : (names : ℕ → ℕ) (definition other : Definition) → DefinitionFits change definition other
      → TasksAgree change number (opened_frame (new_of change) names definition).tasks (opened_frame change.old names other).tasks
  frame_tasks names definition other h = items_agree change (likeness change number naming) (parts_of definition.body) (parts_of other.body) (body_fits change definition other h)

  pub frame_memory : (names : ℕ → ℕ) (definition other : Definition) (arguments : List Value) (memory : Memory) → DefinitionFits change definition other
      → opened_memory (new_of change) names definition arguments memory ≡ opened_memory change.old names other arguments memory
  frame_memory names definition other arguments memory h =
      ap (λ ps. made_from (new_of change) names (length ps) (declared_in (new_of change) (parts_of definition.body)) (given_from (new_of change) names 0 ps arguments memory)) h.0.1
      ∙ ap (λ n. made_from (new_of change) names n (declared_in (new_of change) (parts_of definition.body)) (given_from (new_of change) names 0 (map change.rename other.parameters) arguments memory)) (length_renamed change.rename other.parameters)
      ∙ ap (λ ds. made_from (new_of change) names (length other.parameters) ds (given_from (new_of change) names 0 (map change.rename other.parameters) arguments memory))
      (declared_in_agrees change (likeness change number naming) (parts_of definition.body) (parts_of other.body) (body_fits change definition other h))
      ∙ ap (made_from (new_of change) names (length other.parameters) (map change.rename (declared_in change.old (parts_of other.body)))) (given_agrees names 0 other.parameters arguments memory)
      ∙ made_from_agrees change (likeness change number naming) names (length other.parameters) (declared_in change.old (parts_of other.body)) (given_from change.old names 0 other.parameters arguments memory)

  -- functions that agree, with bodies that aren't larger
  definition_fits : (g : ℕ) → OptionAgrees (DefinitionFits change) (definition_of (new_of change) (change.rename g)) (definition_of change.old g)
  definition_fits g =
      option_fits change (definition_of (new_of change) (change.rename g)) (definition_of change.old g)
      (definition_agrees change naming.injective change.functions change.old.functions naming.functions g) (definition_small change.functions (change.rename g))

  -- ---- one step

  module _ (names : ℕ → ℕ) (other : State) (fresh : IsFresh names other.world.memory) (stands : other.standing ≡ going)
      (has : HasHeld change number other.world.memory) (memory : Memory) (absent : look_up memory number ≡ None) (settled : TasksSettled memory (unfolded other.frame.tasks))
      (statics : Objects) (alike : NameAlike change number statics other.statics)
      (tasks : List Task) (tasks_agree : TasksAgree change number (unfolded tasks) (unfolded other.frame.tasks)) (callers : List Caller) (callers_agree : CallersAgree change number callers other.callers) (w : ℕ) where
    abbrev now : State
    now = built change other statics tasks callers

    -- the old program goes wrong, or goes on to a state that agrees, or stands still while the new one has less to do
    abbrev Met : State → Type 0
    Met state = GoesWrong (machine_of change.old) other
        ⊎ (((n : ℕ) × (last : State) × Goes (machine_of change.old) (suc n) other last × StateAgrees change number state last)
        ⊎ ((tasks_left (unfolded state.frame.tasks) + 1 ≤ w) × StateAgrees change number state other))

    one_step : (y : State) → IsAmong y (next names change.old other) → (state : State) → StateAgrees change number state y → Met state
    one_step y among state agrees = inr (inl (0, y, goes_one change.old other y (names, fresh, among), agrees))

    wrong_step : (y : State) → IsAmong y (next names change.old other) → (cause : Cause) (place : Place) → y.standing ≡ undefined cause place → GoesWrong (machine_of change.old) other
    wrong_step y among cause place e = (1, y, goes_one change.old other y (names, fresh, among), cause, place, e)

    old_among : (us : List Task) → unfolded other.frame.tasks ≡ us → (y : State) → IsAmong y (task_steps change.old names other us) → IsAmong y (next names change.old other)
    old_among us e y h =
        subst (λ standing. IsAmong y (steps_from standing (task_steps change.old names other (unfolded other.frame.tasks)))) (sym stands)
        (subst (λ tasks. IsAmong y (task_steps change.old names other tasks)) (sym e) h)

    turned_met : (t u : Turned) → TurnedAgrees change number t u → IsAmong (turned other u) (next names change.old other) → Met (turned now t)
    turned_met (onward objects ts memory) (onward others us other_memory) h among =
        one_step (turned other (onward others us other_memory)) among (turned now (onward objects ts memory)) (record {
          standing = refl;
          function = refl;
          objects = h.0;
          tasks = unfolded_agree change (likeness change number naming) ts us h.1;
          callers = callers_agree;
          statics = alike;
          world = ap (λ m. record { memory = m; input = other.world.input; output = other.world.output }) h.2;
        })
    turned_met (onward objects ts memory) (refused cause place) h among = absurd h
    turned_met (refused cause place) (onward others us other_memory) h among = absurd h
    turned_met (refused cause place) (refused other_cause at) h among = inl (wrong_step (turned other (refused other_cause at)) among other_cause at refl)

    -- ---- the closing brace

    abbrev closed_by : State → Place → Bool → Bool → State
    closed_by state place main empty =
        if main then record state { frame = record state.frame { tasks = hands_back (integer_value Int (pos 0)) ∷ [] } }
        else if empty then record state { frame = record state.frame { tasks = hands_back unset ∷ [] } }
        else record state { standing = undefined NoValue place }

    closed_bools : (place at : Place) (main empty : Bool) → IsAmong (closed_by other at main empty) (next names change.old other) → Met (closed_by now place main empty)
    closed_bools place at true empty among =
        one_step (closed_by other at true empty) among (closed_by now place true empty)
        (record { standing = refl; function = refl; objects = refl; tasks = (refl, tt); callers = callers_agree; statics = alike; world = refl })
    closed_bools place at false true among =
        one_step (closed_by other at false true) among (closed_by now place false true)
        (record { standing = refl; function = refl; objects = refl; tasks = (refl, tt); callers = callers_agree; statics = alike; world = refl })
    closed_bools place at false false among = inl (wrong_step (closed_by other at false false) among NoValue at refl)

    closed_met : IsAmong (closed change.old other) (next names change.old other) → Met (closed (new_of change) now)
    closed_met among =
        let place = body_place (definition_of (new_of change) (change.rename other.frame.function)) no_place in
        let at = body_place (definition_of change.old other.frame.function) no_place in
        subst (λ main. Met (closed_by now place main (gives_nothing (type_declared (new_of change) (change.rename other.frame.function))))) (sym (same_main other.frame.function))
        (subst (λ type. Met (closed_by now place (is_main (declaration_of change.old other.frame.function)) (gives_nothing type))) (sym (same_type change (likeness change number naming) other.frame.function))
        (closed_bools place at (is_main (declaration_of change.old other.frame.function)) (gives_nothing (type_declared change.old other.frame.function)) among))

    -- ---- the end of a frame

    back_met : (value : Value) (cs ds : List Caller) → CallersAgree change number cs ds → IsAmong (handed_back other value ds) (next names change.old other) → Met (handed_back now value cs)
    back_met value [] [] h among =
        one_step (handed_back other value []) among (handed_back now value [])
        (record { standing = refl; function = refl; objects = refl; tasks = tasks_agree; callers = callers_agree; statics = alike; world = refl })
    back_met value [] (d ∷ ds) h among = absurd h
    back_met value (c ∷ cs) [] h among = absurd h
    back_met value (c ∷ cs) (d ∷ ds) h among =
        subst (λ kind. Met (if lacks_value kind value then record now { standing = undefined NoValue c.place } else gone_back now value c cs)) (sym h.0.kind) (by_lack (lacks_value d.kind value) among)
      where
        by_lack : (b : Bool) → IsAmong (if b then record other { standing = undefined NoValue d.place } else gone_back other value d ds) (next names change.old other)
            → Met (if b then record now { standing = undefined NoValue c.place } else gone_back now value c cs)
        by_lack true k = inl (wrong_step (record other { standing = undefined NoValue d.place }) k NoValue d.place refl)
        by_lack false k =
            one_step (gone_back other value d ds) k (gone_back now value c cs) (record {
              standing = refl;
              function = h.0.function;
              objects = h.0.objects;
              tasks = (
                (
                  (
                    filled_agrees change number c.hole d.hole (done c.kind (of_value value) []) (done d.kind (of_value value) []) h.0.hole (h.0.kind, refl, refl),
                    subst (λ n. n ≤ limit change) (sym (filled_left c.hole (done c.kind (of_value value) []) refl)) h.0.few,
                  ),
                  h.0.use_of,
                ),
                h.0.tasks,
              );
              callers = h.1;
              statics = alike;
              world = ap (λ ns. record { memory = killed ns other.world.memory; input = other.world.input; output = other.world.output }) (numbers_renamed change.rename other.frame.objects);
            })

    -- ---- expressions

    module _ (rest other_rest : List Task) (rest_agrees : TasksAgree change number rest other_rest) (place at : Place) (use_of other_use : Use) (use_agrees : UseAgrees change use_of other_use) where
      abbrev with_run : Run → State
      with_run run = record other { frame = record other.frame { tasks = evaluates at run other_use ∷ other_rest } }

      opened_met : (kind : CType) (hole other_hole : Hole) (arguments : List Value) → HoleAgrees change number hole other_hole → hole_left hole ≤ limit change → (definition other_definition : Option Definition)
          → OptionAgrees (DefinitionFits change) definition other_definition
          → IsAmong (opened change.old names other other_rest at other_use kind other_hole arguments other_definition) (next names change.old other)
          → Met (opened (new_of change) names now rest place use_of kind hole arguments definition)
      opened_met kind hole other_hole arguments h few None None k among = inl (wrong_step _ among External at refl)
      opened_met kind hole other_hole arguments h few None (Some definition) k among = absurd k
      opened_met kind hole other_hole arguments h few (Some definition) None k among = absurd k
      opened_met kind hole other_hole arguments h few (Some definition) (Some other_definition) k among =
          one_step (opened change.old names other other_rest at other_use kind other_hole arguments (Some other_definition)) among
          (opened (new_of change) names now rest place use_of kind hole arguments (Some definition)) (record {
            standing = refl;
            function = k.0.0;
            objects = frame_objects names definition other_definition k;
            tasks = unfolded_agree change (likeness change number naming) _ _ (frame_tasks names definition other_definition k);
            callers = (record { function = refl; objects = refl; tasks = rest_agrees; kind = refl; hole = h; few = few; use_of = use_agrees }, callers_agree);
            statics = alike;
            world = ap (λ m. record { memory = m; input = other.world.input; output = other.world.output }) (frame_memory names definition other_definition arguments other.world.memory k);
          })

      called_met : (f g : ℕ) (arguments others : List Value) (kind other_kind : CType) (hole other_hole : Hole) → f ≡ change.rename g → arguments ≡ others → kind ≡ other_kind → HoleAgrees change number hole other_hole → hole_left hole ≤ limit change
          → IsAmong (opened change.old names other other_rest at other_use other_kind other_hole others (definition_of change.old g)) (next names change.old other)
          → Met (opened (new_of change) names now rest place use_of kind hole arguments (definition_of (new_of change) f))
      called_met f g arguments others kind other_kind hole other_hole e a k h few among =
          subst (λ d. Met (opened (new_of change) names now rest place use_of kind hole arguments (definition_of (new_of change) d))) (sym e)
          (subst (λ l. Met (opened (new_of change) names now rest place use_of kind hole l (definition_of (new_of change) (change.rename g)))) (sym a)
          (subst (λ t. Met (opened (new_of change) names now rest place use_of t hole others (definition_of (new_of change) (change.rename g)))) (sym k)
          (opened_met other_kind hole other_hole others h few (definition_of (new_of change) (change.rename g)) (definition_of change.old g)
          (definition_fits g) among)))

      moved_met : (left : ℕ) → left ≤ limit change → (m n : Move Run Hole) → RunMoveAgrees change number m n → LeavesLess left m → IsAmong (moved change.old names other other_rest at other_use n) (next names change.old other)
          → Met (moved (new_of change) names now rest place use_of m)
      moved_met left few (goes world run) (goes other_world other_run) h l among =
          one_step (moved change.old names other other_rest at other_use (goes other_world other_run)) among (moved (new_of change) names now rest place use_of (goes world run))
          (record { standing = refl; function = refl; objects = refl; tasks = (((h.1, less_still (left_in run) left (limit change) l few), use_agrees), rest_agrees); callers = callers_agree; statics = alike; world = h.0 })
      moved_met left few (goes world run) (calls f others kind hole) h l among = absurd h
      moved_met left few (goes world run) (fails cause place') h l among = absurd h
      moved_met left few (goes world run) (exits status) h l among = absurd h
      moved_met left few (calls f arguments kind hole) (calls g others other_kind other_hole) h l among = called_met f g arguments others kind other_kind hole other_hole h.0 h.1 h.2 h.3 (less_still (hole_left hole) left (limit change) l few) among
      moved_met left few (calls f arguments kind hole) (goes other_world other_run) h l among = absurd h
      moved_met left few (calls f arguments kind hole) (fails cause place') h l among = absurd h
      moved_met left few (calls f arguments kind hole) (exits status) h l among = absurd h
      moved_met left few (fails cause here) (fails other_cause there) h l among = inl (wrong_step _ among other_cause there refl)
      moved_met left few (fails cause here) (goes other_world other_run) h l among = absurd h
      moved_met left few (fails cause here) (calls g others other_kind other_hole) h l among = absurd h
      moved_met left few (fails cause here) (exits status) h l among = absurd h
      moved_met left few (exits status) (exits other_status) h l among =
          one_step (moved change.old names other other_rest at other_use (exits other_status)) among (moved (new_of change) names now rest place use_of (exits status))
          (record { standing = ap exited h; function = refl; objects = refl; tasks = tasks_agree; callers = callers_agree; statics = alike; world = refl })
      moved_met left few (exits status) (goes other_world other_run) h l among = absurd h
      moved_met left few (exits status) (calls g others other_kind other_hole) h l among = absurd h
      moved_met left few (exits status) (fails cause here) h l among = absurd h

      -- a quiet step of the expression is one of the state
      quiet_among : (some_names : ℕ → ℕ) (a b : Run) → ((locks : _) → IsAmong (goes other.world b) (moves (scene_of change.old other) other.world locks a))
          → IsAmong (with_run b) (expression_steps change.old some_names other other_rest at other_use a)
      quiet_among some_names (done kind result locks) b h = absurd (h [])
      quiet_among some_names (to_do doing kind here parts) b h =
          among-map (moved change.old some_names other other_rest at other_use) (goes other.world b) _ (h (locks_in (to_do doing kind here parts)))

      later_among : (some_names : ℕ → ℕ) (a b c : Run) → ((locks : _) → IsAmong (goes other.world b) (moves (scene_of change.old other) other.world locks a))
          → IsAmong (with_run b) (expression_steps change.old some_names (with_run c) other_rest at other_use a)
      later_among some_names (done kind result locks) b c h = absurd (h [])
      later_among some_names (to_do doing kind here parts) b c h =
          among-map (moved change.old some_names (with_run c) other_rest at other_use) (goes other.world b) _ (h (locks_in (to_do doing kind here parts)))

      quiet_goes : (n : ℕ) (a b : Run) → Quietly (scene_of change.old other) other.world n a b → Goes (machine_of change.old) n (with_run a) (with_run b)
      quiet_goes zero a b e = goes_none change.old (with_run a) (with_run b) (ap with_run e)
      quiet_goes (suc n) a b h =
          let some = fresh_names other.world.memory in
          goes_first change.old n (with_run a) (with_run h.0) (with_run b)
          (some.0, some.1, subst (λ standing. IsAmong (with_run h.0) (steps_from standing (expression_steps change.old some.0 (with_run a) other_rest at other_use a))) (sym stands) (later_among some.0 a h.0 a h.1))
          (quiet_goes n h.0 b h.2)

      -- and the first one of the state as it is
      quiet_first : (n : ℕ) (a b : Run) → unfolded other.frame.tasks ≡ evaluates at a other_use ∷ other_rest → Quietly (scene_of change.old other) other.world (suc n) a b
          → Goes (machine_of change.old) (suc n) other (with_run b)
      quiet_first n a b e h =
          goes_first change.old n other (with_run h.0) (with_run b)
          (names, fresh, old_among (evaluates at a other_use ∷ other_rest) e (with_run h.0) (quiet_among names a h.0 h.1))
          (quiet_goes n h.0 b h.2)

      -- an undefined step of the expression is one of the state
      abbrev broken : (ℕ → ℕ) → State → Cause → Place → State
      broken some_names state cause there = moved change.old some_names state other_rest at other_use (fails cause there)

      fails_among : (some_names : ℕ → ℕ) (a : Run) (cause : Cause) (there : Place) → ((locks : _) → IsAmong (fails cause there) (moves (scene_of change.old other) other.world locks a))
          → IsAmong (broken some_names other cause there) (expression_steps change.old some_names other other_rest at other_use a)
      fails_among some_names (done kind result locks) cause there h = absurd (h [])
      fails_among some_names (to_do doing kind here parts) cause there h = among-map (moved change.old some_names other other_rest at other_use) (fails cause there) _ (h (locks_in (to_do doing kind here parts)))

      fails_later_among : (some_names : ℕ → ℕ) (a c : Run) (cause : Cause) (there : Place) → ((locks : _) → IsAmong (fails cause there) (moves (scene_of change.old other) other.world locks a))
          → IsAmong (broken some_names (with_run c) cause there) (expression_steps change.old some_names (with_run c) other_rest at other_use a)
      fails_later_among some_names (done kind result locks) c cause there h = absurd (h [])
      fails_later_among some_names (to_do doing kind here parts) c cause there h =
          among-map (moved change.old some_names (with_run c) other_rest at other_use) (fails cause there) _ (h (locks_in (to_do doing kind here parts)))

      fails_goes : (n : ℕ) (a b : Run) → Quietly (scene_of change.old other) other.world n a b → (cause : Cause) (there : Place)
          → ((locks : _) → IsAmong (fails cause there) (moves (scene_of change.old other) other.world locks b))
          → (last : State) × Goes (machine_of change.old) (suc n) (with_run a) last × (last.standing ≡ undefined cause there)
      fails_goes zero a b e cause there h =
          let some = fresh_names other.world.memory in
          let here_fails = subst (λ x. (locks : List At) → IsAmong (fails cause there) (moves (scene_of change.old other) other.world locks x)) (sym e) h in (
            broken some.0 (with_run a) cause there,
            goes_one change.old (with_run a) (broken some.0 (with_run a) cause there)
                (some.0, some.1, subst (λ standing. IsAmong (broken some.0 (with_run a) cause there) (steps_from standing (expression_steps change.old some.0 (with_run a) other_rest at other_use a))) (sym stands) (fails_later_among some.0 a a cause there here_fails)),
            refl,
          )
      fails_goes (suc n) a b k cause there h =
          let some = fresh_names other.world.memory in
          let rest = fails_goes n k.0 b k.2 cause there h in (
            rest.0,
            goes_first change.old (suc n) (with_run a) (with_run k.0) rest.0
                (some.0, some.1, subst (λ standing. IsAmong (with_run k.0) (steps_from standing (expression_steps change.old some.0 (with_run a) other_rest at other_use a))) (sym stands) (later_among some.0 a k.0 a k.1))
                rest.1,
            rest.2,
          )

      -- where the expression's evaluation is undefined, the program goes wrong
      fails_first : (a : Run) → unfolded other.frame.tasks ≡ evaluates at a other_use ∷ other_rest → Fails (scene_of change.old other) other.world a → GoesWrong (machine_of change.old) other
      fails_first a e k = by_count k.count k.steps
        where
          by_count : (n : ℕ) → Quietly (scene_of change.old other) other.world n a k.last → GoesWrong (machine_of change.old) other
          by_count zero same =
              wrong_step (broken names other k.cause k.place)
              (old_among (evaluates at a other_use ∷ other_rest) e (broken names other k.cause k.place)
              (fails_among names a k.cause k.place (subst (λ x. (locks : List At) → IsAmong (fails k.cause k.place) (moves (scene_of change.old other) other.world locks x)) (sym same) k.fails)))
              k.cause k.place refl
          by_count (suc n) h =
              let rest = fails_goes n h.0 k.last h.2 k.cause k.place k.fails in (
                suc (suc n),
                rest.0,
                goes_first change.old (suc n) other (with_run h.0) rest.0
                    (names, fresh, old_among (evaluates at a other_use ∷ other_rest) e (with_run h.0) (quiet_among names a h.0 h.1))
                    rest.1,
                k.cause,
                k.place,
                rest.2,
              )

      expression_met : (run other_run : Run) → RunFits change number run other_run → left_in run ≤ w → LocksMade memory (locks_in other_run) → unfolded other.frame.tasks ≡ evaluates at other_run other_use ∷ other_rest
          → (state : State) → IsAmong state (expression_steps (new_of change) names now rest place use_of run) → Met state
      expression_met (done kind result locks) (done other_kind other_result other_locks) (h, few) enough made e state (inl k) =
          subst Met (sym k)
          (subst (λ r. Met (turned now (concluded (new_of change) now.frame.objects rest other.world.memory place use_of r))) (sym h.1)
          (turned_met (concluded (new_of change) now.frame.objects rest other.world.memory place use_of other_result) (concluded change.old other.frame.objects other_rest other.world.memory at other_use other_result)
          (conclusion_agrees change (likeness change number naming) other.frame.objects rest other_rest other.world.memory rest_agrees place at use_of other_use use_agrees other_result)
          (old_among _ e _ (inl refl))))
      expression_met (done kind result locks) (done other_kind other_result other_locks) (h, few) enough made e state (inr k) = absurd k
      expression_met (done kind result locks) (to_do doing other_kind here parts) (h, few) enough made e state k = absurd h
      expression_met (to_do doing kind here parts) (done other_kind result locks) (h, few) enough made e state k = absurd h
      expression_met (to_do doing kind here parts) (to_do other_doing other_kind there others) (h, few) enough made e state k =
          let run = to_do doing kind here parts in
          let other_run = to_do other_doing other_kind there others in
          let from = among-map_from (moved (new_of change) names now rest place use_of) state _ k in
          let news = statics ++ renamed_objects change.rename other.frame.objects in
          let olds = other.statics ++ other.frame.objects in
          let same = same_locks change number run other_run h in
          subst Met (sym from.2)
          (by_match from.0 (move_leaves (record { program = new_of change; objects = news }) other.world (locks_in run) run from.0 from.1)
          (run_matched change number naming news olds (named_behind change number statics other.statics alike other.frame.objects naming.injective) other.world has (locks_in run)
          (subst (λ locks. overlaps_any (whole (numbered number)) locks ≡ false) (sym same) (unlocked memory number absent (locks_in other_run) made)) run other_run h from.0 from.1))
        where
          met_quietly : (m : Move Run Hole) (next_run : Run) → m ≡ goes other.world next_run → left_in next_run + 1 ≤ left_in (to_do doing kind here parts) → (n : ℕ) (last : Run)
              → Quietly (scene_of change.old other) other.world n (to_do other_doing other_kind there others) last → RunAgrees change number next_run last → Met (moved (new_of change) names now rest place use_of m)
          met_quietly m next_run is less zero last quiet agrees =
              subst (λ x. Met (moved (new_of change) names now rest place use_of x)) (sym is)
              (inr (inr (
                less_than (left_in next_run) (left_in (to_do doing kind here parts)) w less enough,
                record {
                  standing = refl;
                  function = refl;
                  objects = refl;
                  tasks =
                      subst (TasksAgree change number (evaluates place next_run use_of ∷ rest)) (sym e) (
                        (
                          (subst (RunAgrees change number next_run) (sym quiet) agrees, less_still (left_in next_run) (left_in (to_do doing kind here parts)) (limit change) less few),
                          use_agrees,
                        ),
                        rest_agrees,
                      );
                  callers = callers_agree;
                  statics = alike;
                  world = refl;
                },
              )))
          met_quietly m next_run is less (suc n) last quiet agrees =
              subst (λ x. Met (moved (new_of change) names now rest place use_of x)) (sym is)
              (inr (inl (
                n,
                with_run last,
                quiet_first n (to_do other_doing other_kind there others) last e quiet,
                record {
                  standing = refl;
                  function = refl;
                  objects = refl;
                  tasks = (((agrees, less_still (left_in next_run) (left_in (to_do doing kind here parts)) (limit change) less few), use_agrees), rest_agrees);
                  callers = callers_agree;
                  statics = alike;
                  world = refl;
                },
              )))

          by_match : (m : Move Run Hole) → LeavesLess (left_in (to_do doing kind here parts)) m
              → Matched change number (scene_of change.old other) other.world (locks_in (to_do doing kind here parts)) (to_do other_doing other_kind there others) m
              → Met (moved (new_of change) names now rest place use_of m)
          by_match m l (inl (n, among, agrees)) =
              moved_met (left_in (to_do doing kind here parts)) few m n agrees l
              (old_among _ e _
              (among-map (moved change.old names other other_rest at other_use) n _
              (subst (λ locks. IsAmong n (moves (scene_of change.old other) other.world locks (to_do other_doing other_kind there others)))
              (same_locks change number (to_do doing kind here parts) (to_do other_doing other_kind there others) h) among)))
          by_match m l (inr (inr k)) = inl (fails_first (to_do other_doing other_kind there others) e k)
          by_match m l (inr (inl (next_run, is, n, last, quiet, agrees))) =
              met_quietly m next_run is (subst (LeavesLess (left_in (to_do doing kind here parts))) is l) n last quiet agrees

    -- ---- all tasks

    -- a task with one step
    single_met : (us : List Task) → unfolded other.frame.tasks ≡ us → (t u : Turned) → TurnedAgrees change number t u → IsAmong (turned other u) (task_steps change.old names other us)
        → (state : State) → IsAmong state (turned now t ∷ []) → Met state
    single_met us e t u h among state (inl k) = subst Met (sym k) (turned_met t u h (old_among us e _ among))
    single_met us e t u h among state (inr k) = absurd k

    declares_met : (declarator other_declarator : Declarator) (trees others : List Tree) (ts us : List Task) → declarator ≡ renamed_declarator change.rename other_declarator → Zipped (TreeFits change) trees others → TasksAgree change number ts us
        → unfolded other.frame.tasks ≡ declares other_declarator others ∷ us → (state : State) → IsAmong state (task_steps (new_of change) names now (declares declarator trees ∷ ts)) → Met state
    declares_met declarator other_declarator trees others ts us d h r e state k =
        single_met (declares other_declarator others ∷ us) e (begin_declarator (new_of change) now.frame.objects ts other.world.memory (renamed_declarator change.rename other_declarator) trees)
        (begin_declarator change.old other.frame.objects us other.world.memory other_declarator others)
        (declarator_begins change (likeness change number naming) other.frame.objects ts us other.world.memory r other_declarator trees others h) (inl refl) state
        (subst (λ x. IsAmong state (task_steps (new_of change) names now (declares x trees ∷ ts))) d k)

    initials_met : (at : At) (kind : CType) (initialiser : Initialiser) (trees others : List Tree) (ts us : List Task) → Zipped (TreeFits change) trees others → TasksAgree change number ts us
        → unfolded other.frame.tasks ≡ initials at kind initialiser others ∷ us → (state : State) → IsAmong state (task_steps (new_of change) names now (initials at kind initialiser trees ∷ ts)) → Met state
    initials_met at kind initialiser trees others ts us h r e state k =
        single_met (initials at kind initialiser others ∷ us) e (begin_initialiser (new_of change) now.frame.objects ts other.world.memory at kind initialiser trees)
        (begin_initialiser change.old other.frame.objects us other.world.memory at kind initialiser others)
        (initialiser_begins change (likeness change number naming) other.frame.objects ts us other.world.memory r at kind initialiser trees others h) (inl refl) state k

    task_met : (t u : Task) (ts us : List Task) → TasksAgree change number (t ∷ ts) (u ∷ us) → tasks_left (t ∷ ts) ≤ w → TasksSettled memory (u ∷ us) → unfolded other.frame.tasks ≡ u ∷ us → (state : State) → IsAmong state (task_steps (new_of change) names now (t ∷ ts)) → Met state
    task_met (begins tree) (begins other_tree) ts us h enough made e state k =
        single_met (begins other_tree ∷ us) e (begin_statement (new_of change) names now.frame.objects ts other.world.memory tree)
        (begin_statement change.old names other.frame.objects us other.world.memory other_tree)
        (statement_begins change (likeness change number naming) names other.frame.objects ts us other.world.memory h.1 tree other_tree h.0) (inl refl) state k
    task_met (declares declarator trees) (declares other_declarator others) ts us h enough made e state k = declares_met declarator other_declarator trees others ts us h.0.0 h.0.1 h.1 e state k
    task_met (initials at kind initialiser trees) (initials other_at other_kind other_initialiser others) ts us h enough made e state k =
        initials_met other_at other_kind other_initialiser trees others ts us h.0.3 h.1 e state
        (subst (λ x. IsAmong state (task_steps (new_of change) names now (initials other_at other_kind x trees ∷ ts))) h.0.2
        (subst (λ x. IsAmong state (task_steps (new_of change) names now (initials other_at x initialiser trees ∷ ts))) h.0.1
        (subst (λ x. IsAmong state (task_steps (new_of change) names now (initials x kind initialiser trees ∷ ts))) h.0.0 k)))
    task_met (evaluates place run use_of) (evaluates at other_run other_use) ts us h enough made e state k = expression_met ts us h.1 place at use_of other_use h.0.1 run other_run h.0.0 enough made.0.0 e state k
    task_met (again objects loop) (again others other_loop) ts us h enough made e state k = absurd k
    task_met (tests objects loop) (tests others other_loop) ts us h enough made e state k = absurd k
    task_met (ends saved) (ends others) ts us h enough made e state k =
        single_met (ends others ∷ us) e (ended saved now.frame.objects ts other.world.memory) (ended others other.frame.objects us other.world.memory) (ended_agrees change (likeness change number naming) saved others other.frame.objects ts us other.world.memory h.0 h.1) (inl refl) state k
    task_met (ends_switch saved) (ends_switch others) ts us h enough made e state k =
        single_met (ends_switch others ∷ us) e (ended saved now.frame.objects ts other.world.memory) (ended others other.frame.objects us other.world.memory) (ended_agrees change (likeness change number naming) saved others other.frame.objects ts us other.world.memory h.0 h.1) (inl refl) state k
    task_met leaves leaves ts us h enough made e state k =
        single_met (leaves ∷ us) e (after_break now.frame.objects other.world.memory ts) (after_break other.frame.objects other.world.memory us) (break_agrees change (likeness change number naming) other.frame.objects other.world.memory ts us h.1) (inl refl) state k
    task_met skips skips ts us h enough made e state k =
        single_met (skips ∷ us) e (after_continue now.frame.objects other.world.memory ts) (after_continue other.frame.objects other.world.memory us) (continue_agrees change (likeness change number naming) other.frame.objects other.world.memory ts us h.1) (inl refl) state k
    task_met (hands_back value) (hands_back other_value) ts us h enough made e state (inl k) =
        subst Met (sym k) (subst (λ v. Met (handed_back now v callers)) (sym h.0) (back_met other_value callers other.callers callers_agree (old_among _ e _ (inl refl))))
    task_met (hands_back value) (hands_back other_value) ts us h enough made e state (inr k) = absurd k
    task_met t u ts us h enough made e state k = absurd h.0

    tasks_met : (ts us : List Task) → TasksAgree change number ts us → tasks_left ts ≤ w → TasksSettled memory us → unfolded other.frame.tasks ≡ us → (state : State) → IsAmong state (task_steps (new_of change) names now ts) → Met state
    tasks_met [] [] h enough made e state (inl k) = subst Met (sym k) (closed_met (old_among [] e _ (inl refl)))
    tasks_met [] [] h enough made e state (inr k) = absurd k
    tasks_met [] (u ∷ us) h enough made e state k = absurd h
    tasks_met (t ∷ ts) [] h enough made e state k = absurd h
    tasks_met (t ∷ ts) (u ∷ us) h enough made e state k = task_met t u ts us h enough made e state k

  -- each step is met
  pub step_met : (w : ℕ) (state next_state other : State) → StateAgrees change number state other → tasks_left (unfolded state.frame.tasks) ≤ w
      → HasHeld change number other.world.memory → (memory : Memory) → look_up memory number ≡ None → TasksSettled memory (unfolded other.frame.tasks) → Step (new_of change) state next_state
      → GoesWrong (machine_of change.old) other
      ⊎ (((n : ℕ) × (last : State) × Goes (machine_of change.old) (suc n) other last × StateAgrees change number next_state last)
      ⊎ ((tasks_left (unfolded next_state.frame.tasks) + 1 ≤ w) × StateAgrees change number next_state other))
  step_met w state next_state other h enough has memory absent settled step =
      let moved_step : Step (new_of change) (built change other state.statics state.frame.tasks state.callers) next_state =
      subst (λ s. Step (new_of change) s next_state) (is_built change number state other h) step in
      let from = from_steps other.standing _ next_state moved_step.2 in
      tasks_met moved_step.0 other moved_step.1 from.0 has memory absent settled state.statics h.statics state.frame.tasks h.tasks state.callers h.callers w (unfolded state.frame.tasks) (unfolded other.frame.tasks)
      h.tasks enough settled refl next_state from.1
