-- Where the static objects of a program are those of another and an added const object, and it reads that in place of constant expressions of
-- the other, the beginnings of runs correspond, and so the program refines the other.
use Rattle.std.specs.Prelude.{◌≡◌, refl, ℕ, suc, ◌+◌, ◌≤◌, ◌==◌, Bool, true, false, List, [], ◌∷◌, map, length, Option, Some, None, if◌then◌else◌}
use Rattle.std.proofs.Common.{arith, ap, sym, ◌∙◌, subst, inr}
use Rattle.dm_tree.specs.Trees.{parts_of}
use Rattle.dm_meaning.specs.Refinement.{Refines}
use Rattle.dm_meaning.specs.Simulation.{IsSimulation, simulated}
use Rattle.dm_meaning.specs.Values.{Value}
use Rattle.dm_meaning.specs.Objects.{all_zero}
use Rattle.dm_meaning.specs.Memory.{Memory, Block, look_up, new_block}
use Rattle.dm_meaning.specs.Programs.{Definition, Program, layout, declaration_of}
use Rattle.dm_meaning.specs.States.{State}
use Rattle.dm_meaning.specs.Statements.{declared_in, made_from, named_from}
use Rattle.dm_meaning.specs.Steps.{given_from, opened_frame, opened_memory, is_main}
use Rattle.dm_meaning.specs.Units.{static_numbers, statics_memory, argv_kind, arguments_for, start, main_in, main_of, Begins, machine_of}
use Rattle.dm_meaning.specs.Extending.{HasAll}
use Rattle.dm_meaning.specs.MoreObjects.{with_memory}
use Rattle.dm_meaning.specs.Replaced.{Zipped}
use Rattle.dm_meaning.proofs.OptionLemmas.{none_is_some, some_is_some}
use Rattle.dm_meaning.proofs.GrowLemmas.{equal_of}
use Rattle.dm_meaning.proofs.RunLemmas.{OptionAgrees}
use Rattle.dm_meaning.proofs.PassStatementLemmas.{IsSmall, main_small}
use Rattle.dm_meaning.proofs.SpareStateLemmas.{settled_beginnings}
use Rattle.dm_rewrite.specs.NamedConstants.{Named, new_of, IsNaming, DefinitionAgrees, AddsObject, held}
use Rattle.dm_rewrite.proofs.NamedStatementLemmas.{unfolded_agree}
use Rattle.dm_rewrite.proofs.NamedSizeLemmas.{limit, DefinitionFits, likeness, tasks_few}
use Rattle.dm_rewrite.proofs.NamedStateLemmas.{StateAgrees, same_main, frame_objects, frame_tasks, frame_memory}
use Rattle.dm_rewrite.proofs.NamedStaticLemmas.{IsBeside, beside_added, HasOneMore, one_more}
use Rattle.dm_rewrite.proofs.NamedRefineLemmas.{goes_nothing, Relation, steps_met}

-- ---- memories of which one has an object more

beside_made : (program : Program) (n : ℕ) (block : Block) (names : ℕ → ℕ) → ((i : ℕ) → names i ≡ n → ⊥) → (i : ℕ) (ds : List ℕ) (more memory : Memory) → IsBeside n block more memory
    → IsBeside n block (made_from program names i ds more) (made_from program names i ds memory)
beside_made program n block names e i [] more memory h = h
beside_made program n block names e i (d ∷ ds) more memory h = beside_made program n block names e (suc i) ds _ _ (beside_added n block more memory h (names i) _ (e i))

beside_given : (program : Program) (n : ℕ) (block : Block) (names : ℕ → ℕ) → ((i : ℕ) → names i ≡ n → ⊥) → (i : ℕ) (ds : List ℕ) (values : List Value) (more memory : Memory) → IsBeside n block more memory
    → IsBeside n block (given_from program names i ds values more) (given_from program names i ds values memory)
beside_given program n block names e i [] [] more memory h = h
beside_given program n block names e i [] (value ∷ values) more memory h = h
beside_given program n block names e i (d ∷ ds) [] more memory h = beside_given program n block names e (suc i) ds [] _ _ (beside_added n block more memory h (names i) _ (e i))
beside_given program n block names e i (d ∷ ds) (value ∷ values) more memory h = beside_given program n block names e (suc i) ds values _ _ (beside_added n block more memory h (names i) _ (e i))

beside_opened : (program : Program) (n : ℕ) (block : Block) (names : ℕ → ℕ) → ((i : ℕ) → names i ≡ n → ⊥) → (definition : Definition) (values : List Value) (more memory : Memory) → IsBeside n block more memory
    → IsBeside n block (opened_memory program names definition values more) (opened_memory program names definition values memory)
beside_opened program n block names e definition values more memory h =
    beside_made program n block names e (length definition.parameters) (declared_in program (parts_of definition.body)) _ _ (beside_given program n block names e 0 definition.parameters values more memory h)

beside_has : (n : ℕ) (block : Block) (more memory : Memory) → IsBeside n block more memory → HasAll more memory
beside_has n block more memory h m found e = by_number (m == n) refl
  where
    by_number : (b : Bool) → (m == n) ≡ b → look_up more m ≡ Some found
    by_number true f = absurd (none_is_some found (sym h.absent ∙ ap (look_up memory) (sym (equal_of m n f)) ∙ e))
    by_number false f = h.same m (other f) ∙ e
      where
        differ : (i j : ℕ) → i ≡ j → (i == j) ≡ false → ⊥
        differ i j same differs = grind arith

        other : (m == n) ≡ false → m ≡ n → ⊥
        other differs same = differ m n same differs

module _ (change : Named) (naming : IsNaming change) (adds : AddsObject change) where
  -- ---- main

  main_agrees : (fs gs : List Definition) → Zipped (DefinitionAgrees change) fs gs → OptionAgrees (DefinitionAgrees change) (main_in (new_of change) fs) (main_in change.old gs)
  main_agrees [] [] h = tt
  main_agrees [] (g ∷ gs) h = absurd h
  main_agrees (f ∷ fs) [] h = absurd h
  main_agrees (f ∷ fs) (g ∷ gs) h =
      let same : is_main (declaration_of (new_of change) f.function) ≡ is_main (declaration_of change.old g.function) =
      ap (λ d. is_main (declaration_of (new_of change) d)) h.0.0 ∙ same_main change 0 naming g.function in
      subst (λ b. OptionAgrees (DefinitionAgrees change) (if b then Some f else main_in (new_of change) fs) (main_in change.old (g ∷ gs))) (sym same)
      (by_bool (is_main (declaration_of change.old g.function)) (main_agrees fs gs h.1))
    where
      by_bool : (b : Bool) → OptionAgrees (DefinitionAgrees change) (main_in (new_of change) fs) (main_in change.old gs)
          → OptionAgrees (DefinitionAgrees change) (if b then Some f else main_in (new_of change) fs) (if b then Some g else main_in change.old gs)
      by_bool true k = h.0
      by_bool false k = k

  other_main : (one other : Option Definition) (main : Definition) → OptionAgrees (DefinitionAgrees change) one other → one ≡ Some main → (m : Definition) × (other ≡ Some m) × DefinitionAgrees change main m
  other_main None other main h e = absurd (none_is_some main e)
  other_main (Some one) None main h e = absurd h
  other_main (Some one) (Some other) main h e = (other, refl, subst (λ d. DefinitionAgrees change d other) (some_is_some one main e) h)

  arguments_agree : (n : ℕ) (ds : List ℕ) → arguments_for n (map change.rename ds) ≡ arguments_for n ds
  arguments_agree n [] = refl
  arguments_agree n (d ∷ ds) = refl

  -- ---- beginnings

  module _ (names : ℕ → ℕ) (more : HasOneMore change names) (main other : Definition) (input : List ℕ) (fits : DefinitionFits change main other) where
    abbrev state : State
    state = start names (new_of change) main input

    abbrev old_state : State
    old_state = start more.others change.old other input

    -- the names of what main makes
    abbrev later_names : ℕ → ℕ
    later_names i = names (suc (length change.statics) + i)

    abbrev argv_block : Block
    argv_block = record (new_block (layout change.old) argv_kind) { contents = all_zero (layout change.old) argv_kind }

    sum_on : (m i : ℕ) → suc m + i ≡ m + suc i
    sum_on m i = omega arith

    sum_none : (m : ℕ) → m ≡ m + 0
    sum_none m = omega arith

    same_later : (i : ℕ) → later_names i ≡ more.others (suc (length change.old.statics) + i)
    same_later i = ap names (sum_on (length change.statics) i) ∙ more.later (suc i) ∙ ap more.others (sym (sum_on (length change.old.statics) i))

    same_names : later_names ≡ (λ i. more.others (suc (length change.old.statics) + i))
    same_names = λ j i. same_later i j

    same_argv : names (length change.statics) ≡ more.others (length change.old.statics)
    same_argv = ap names (sum_none (length change.statics)) ∙ more.later 0 ∙ ap more.others (sym (sum_none (length change.old.statics)))

    apart_later : (i : ℕ) → later_names i ≡ more.number → ⊥
    apart_later i e = more.apart (suc i) (ap names (sym (sum_on (length change.statics) i)) ∙ e)

    apart_argv : names (length change.statics) ≡ more.number → ⊥
    apart_argv e = more.apart 0 (ap names (sym (sum_none (length change.statics))) ∙ e)

    abbrev old_memory : (ℕ → ℕ) → ℕ → Memory
    old_memory some argv =
        opened_memory change.old some other (arguments_for argv other.parameters)
        ((argv, argv_block) ∷ statics_memory change.old more.others (named_from more.others 0 (static_numbers change.old.statics) []))

    beside : IsBeside more.number (held change) state.world.memory old_state.world.memory
    beside =
        let made = (names (length change.statics), argv_block) ∷ statics_memory (new_of change) names (named_from names 0 (static_numbers change.statics) []) in
        let arguments = arguments_for (names (length change.statics)) main.parameters in
        let same_arguments : arguments ≡ arguments_for (names (length change.statics)) other.parameters =
        ap (arguments_for (names (length change.statics))) fits.0.1 ∙ arguments_agree (names (length change.statics)) other.parameters in
        subst (λ m. IsBeside more.number (held change) m old_state.world.memory)
        (sym (frame_memory change more.number naming later_names main other arguments made fits ∙ ap (λ vs. opened_memory change.old later_names other vs made) same_arguments))
        (subst (λ m. IsBeside more.number (held change) (opened_memory change.old later_names other (arguments_for (names (length change.statics)) other.parameters) made) m)
        (ap (λ ns. old_memory ns (names (length change.statics))) same_names ∙ ap (old_memory (λ i. more.others (suc (length change.old.statics) + i))) same_argv)
        (beside_opened change.old more.number (held change) later_names apart_later other (arguments_for (names (length change.statics)) other.parameters) made _
        (beside_added more.number (held change) _ _ more.memory (names (length change.statics)) argv_block apart_argv)))

    start_agrees : StateAgrees change more.number state (with_memory old_state state.world.memory)
    start_agrees = record {
      standing = refl;
      function = fits.0.0;
      objects =
          frame_objects change more.number naming later_names main other fits
          ∙ ap (λ ns. map (λ entry. (change.rename entry.0, entry.1)) (opened_frame change.old ns other).objects) same_names;
      tasks = unfolded_agree change (likeness change more.number naming) _ _ (frame_tasks change more.number naming later_names main other fits);
      callers = tt;
      statics = more.named;
      world = refl;
    }

    start_related : Begins change.old input old_state → Relation change (limit change) state old_state
    start_related begins = record {
      number = more.number;
      more = state.world.memory;
      related = start_agrees;
      enough = tasks_few change more.number _ _ start_agrees.tasks;
      settled = settled_beginnings change.old input old_state begins;
      has = beside_has more.number (held change) state.world.memory old_state.world.memory beside;
      spare = (beside.own, beside.absent);
    }

  begins_related : (input : List ℕ) (s : State) → Begins (new_of change) input s → (w : ℕ) × (t : State) × (w ≤ limit change) × Begins change.old input t × Relation change w s t
  begins_related input s (bytes, names, fresh, main, is_main_here, e) =
      let found = other_main (main_of (new_of change)) (main_of change.old) main (main_agrees change.functions change.old.functions naming.functions) is_main_here in
      let small : IsSmall (limit change) (Some main) = subst (IsSmall (limit change)) is_main_here (main_small (new_of change) change.functions) in
      let more = one_more change naming adds names fresh in
      let begins : Begins change.old input (start more.others change.old found.0 input) = (bytes, more.others, more.fresh, found.0, found.1, refl) in (
        limit change,
        start more.others change.old found.0 input,
        omega arith,
        begins,
        subst (λ state. Relation change (limit change) state (start more.others change.old found.0 input)) (sym e) (start_related names more main found.0 input (found.2, small) begins),
      )

  -- ---- the simulation

  Relates : ℕ → State → State → Type 0
  Relates w state other = Relation change w state other

  simulation : IsSimulation (machine_of (new_of change)) (machine_of change.old) Relates (limit change) (limit change)
  unfolding Relates
  simulation = record {
    begins = begins_related;
    steps = steps_met change naming;
    going_on = λ w s t h e. inr (sym h.related.standing ∙ e, ap (λ (world : _). world.output) (sym h.related.world));
    ending = λ w s t status h e. inr (0, t, goes_nothing change.old t, sym h.related.standing ∙ e, ap (λ (world : _). world.output) (sym h.related.world));
    wrong = λ w s t cause place h e. (0, t, goes_nothing change.old t, cause, place, sym h.related.standing ∙ e);
  }

-- A program that reads the added object refines the program that has constant expressions in place.
pub named_constants_refine : (change : Named) → IsNaming change → AddsObject change → Refines (machine_of (new_of change)) (machine_of change.old)
named_constants_refine change naming adds =
    simulated (machine_of (new_of change)) (machine_of change.old) (Relates change naming adds) (limit change) (limit change) (simulation change naming adds)
