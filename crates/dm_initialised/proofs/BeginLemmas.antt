-- Runs begin where objects are set: parameters of `main`, and scalars of static storage duration (6.7.9p10).
use Rattle.std.specs.Prelude.{◌≡◌, refl, ℕ, suc, ◌+◌, ◌≤◌, Bool, true, false, IsTrue, List, [], ◌∷◌, length, Option, Some, None}
use Rattle.std.proofs.Common.{arith, ap, sym, subst, inl, inr}
use Rattle.std.proofs.lemmas.Bool.{false≢true}
use Rattle.dm_type.specs.CTypes.{CType, integer, pointer, array, const, bare}
use Rattle.dm_tree.specs.Initialisers.{is_fixed, Initialises, InitialiserFits}
use Rattle.dm_tree.specs.Scenes.{Scene, is_scalar}
use Rattle.dm_tree.specs.Trees.{literal, Tree, node, Initialiser, one_expression, in_braces}
use Rattle.dm_meaning.specs.Among.{IsAmong}
use Rattle.dm_meaning.specs.Causes.{is_unset}
use Rattle.dm_meaning.specs.Machines.{RunsTo}
use Rattle.dm_meaning.specs.Values.{numbered}
use Rattle.dm_meaning.specs.Memory.{Memory, new_block}
use Rattle.dm_meaning.specs.Objects.{Layout, all_zero}
use Rattle.dm_meaning.specs.Programs.{Program, Definition, Static, layout}
use Rattle.dm_meaning.specs.Operations.{Objects, object_named, whole}
use Rattle.dm_meaning.specs.States.{State}
use Rattle.dm_meaning.specs.Statements.{kind_declared, type_declared, named_from}
use Rattle.dm_meaning.specs.Steps.{opened_memory}
use Rattle.dm_meaning.specs.Units.{static_numbers, static_scalar, static_value, zeroed_from, initialised, all_initialised, statics_memory, argv_kind, arguments_for, start, main_of, Begins, machine_of}
use Rattle.dm_meaning.proofs.OptionLemmas.{none_is_some}
use Rattle.dm_sound.specs.TypedValues.{StaySet}
use Rattle.dm_sound.specs.TypedTrees.{scene_in}
use Rattle.dm_sound.specs.TypedRuns.{IsTypedStatic, IsTypedProgram, AreGivenValues}
use Rattle.dm_sound.proofs.SetLemmas.{stay_same, stay_then, stay_written}
use Rattle.dm_sound.proofs.PlaceLemmas.{AreNewFrom, new_added}
use Rattle.dm_sound.proofs.TaskLemmas.{DeclaresFill}
use Rattle.dm_sound.proofs.FillLemmas.{declares_fill}
use Rattle.dm_sound.proofs.StepLemmas.{function_there}
use Rattle.dm_sound.proofs.BeginLemmas.{main_there, main_arguments, how_many, zeroed_typed, zeroed_given, all_ready, begins_typed}
use Rattle.dm_initialised.specs.Settled.{IsSettledProgram}
use Rattle.dm_initialised.specs.SetStates.{AreSetStatics, IsSetState}
use Rattle.dm_initialised.proofs.ScopeLemmas.{statics_later}
use Rattle.dm_initialised.proofs.ObjectLemmas.{not_above, stay_added, added_set}
use Rattle.dm_initialised.proofs.StateLemmas.{opens, goes_set}

-- ---- first values

zero_set : (laid : Layout) (type : CType) → IsTrue (is_scalar type) → is_unset (all_zero laid type) ≡ false
zero_set laid (integer kind) h = refl
zero_set laid (pointer type) h = refl
zero_set laid (const (integer kind)) h = refl
zero_set laid (const (pointer type)) h = refl
zero_set laid (const type) h = absurd (false≢true h)
zero_set laid type h = absurd (false≢true h)

arguments_given : (n : ℕ) (parameters : List ℕ) → AreGivenValues (arguments_for n parameters)
arguments_given n [] = tt
arguments_given n (d ∷ parameters) = (refl, (refl, tt))

module _ (program : Program) (objects : Objects) (known : Memory) where
  one_given : (scene : Scene) (fixed : Bool) (type : CType) (tree : Tree) → Initialises scene fixed type tree → is_unset (static_scalar program objects known (bare type) tree) ≡ false
  one_given scene fixed (array type (Some count)) (node (literal bytes unit) kind spans parts) h = refl
  one_given scene fixed (array type (Some count)) (node label kind spans parts) h = absurd (false≢true h.1)
  one_given scene fixed (integer kind) tree h = refl
  one_given scene fixed (pointer type) tree h = refl
  one_given scene fixed (const (integer kind)) tree h = refl
  one_given scene fixed (const (pointer type)) tree h = refl
  one_given scene fixed (const type) tree h = absurd (false≢true h.1)
  one_given scene fixed type tree h = absurd (false≢true h.1)

  -- the first value of an object whose initialiser fits was set
  first_given : (static : Static) → IsTypedStatic program static → (initialiser : Initialiser) → static.initialiser ≡ Some initialiser
      → is_unset (static_value program objects known (type_declared program static.declared) initialiser static.expressions) ≡ false
  first_given static s initialiser i =
      let fits = subst (λ (o : Option Initialiser). InitialiserFits place s.entry true o static.expressions) i s.fits in
      subst (λ (type : CType). is_unset (static_value program objects known type initialiser static.expressions) ≡ false) (sym (ap kind_declared s.declared)) (by_form initialiser static.expressions fits)
    where
      place : Scene
      place = scene_in program s.result s.breaks s.continues s.labels

      by_form : (one : Initialiser) (trees : List Tree) → InitialiserFits place s.entry true (Some one) trees → is_unset (static_value program objects known s.entry.kind one trees) ≡ false
      by_form one_expression [] f = absurd f.1
      by_form one_expression (tree ∷ trees) f = one_given place (is_fixed s.entry.sort) s.entry.kind tree f.1.0
      by_form (in_braces items) trees f = refl

  one_stays : (static : Static) → IsTypedStatic program static → (memory : Memory) (o : Option ℕ) (i : Option Initialiser) → static.initialiser ≡ i → StaySet memory (initialised program objects known static o i memory)
  one_stays static s memory None i f = stay_same memory
  one_stays static s memory (Some n) None f = stay_same memory
  one_stays static s memory (Some n) (Some initialiser) f =
      stay_written (whole (numbered n)) (static_value program objects known (type_declared program static.declared) initialiser static.expressions) memory (first_given static s initialiser f)

  all_stay : (statics : List Static) → ((static : Static) → IsAmong static statics → IsTypedStatic program static) → (memory : Memory) → StaySet memory (all_initialised program objects known statics memory)
  all_stay [] s memory = stay_same memory
  all_stay (static ∷ statics) s memory =
      let after = initialised program objects known static (object_named objects static.declared) static.initialiser memory in
      stay_then memory after (all_initialised program objects known statics after) (one_stays static (s static (inl refl)) memory (object_named objects static.declared) static.initialiser refl)
      (all_stay statics (λ one a. s one (inr a)) after)

module _ (program : Program) (needs : ℕ → Bool) (names : ℕ → ℕ) (distinct : (i j : ℕ) → names i ≡ names j → i ≡ j) where
  zeroed_statics : (i : ℕ) (ds : List ℕ) (objects : Objects) (memory : Memory) → AreNewFrom program names distinct i memory → AreSetStatics program memory objects
      → AreSetStatics program (zeroed_from program names i ds memory) (named_from names i ds objects)
  zeroed_statics i [] objects memory new s = s
  zeroed_statics i (d ∷ ds) objects memory new s =
      let kind = type_declared program d in
      let one = record (new_block (layout program) kind) { contents = all_zero (layout program) kind } in
      let later = (names i, one) ∷ memory in
      zeroed_statics (suc i) ds ((d, names i) ∷ objects) later (new_added program names distinct i one memory new)
      ((λ h. added_set (names i) one memory (zero_set (layout program) kind h)), statics_later program needs memory later (stay_added (names i) one memory (new i (not_above i))) objects s)

-- ---- beginnings

module _ (program : Program) (sound : IsTypedProgram program) (needs : ℕ → Bool) (settled : IsSettledProgram needs program) where
  fills : (result : CType) → DeclaresFill program result
  fills = declares_fill program sound.scope.table sound.scope.proper

  start_set : (names : ℕ → ℕ) → ((i j : ℕ) → names i ≡ names j → i ≡ j) → (main : Definition) → main_of program ≡ Some main → (input : List ℕ) → IsSetState program needs (start names program main input)
  start_set names distinct main is input =
      let count = length program.statics in
      let numbers = static_numbers program.statics in
      let statics = named_from names 0 numbers [] in
      let zeroed = zeroed_from program names 0 numbers [] in
      let given = zeroed_given program sound names distinct 0 numbers [] [] count (how_many program sound program.statics) (λ j le. refl) tt in
      let ready = all_ready program sound names distinct zeroed statics count program.statics sound.statics zeroed
      (record { typed = zeroed_typed program sound names distinct 0 numbers [] (λ m block e. absurd (none_is_some block e)); named = given.named; new = given.new }) in
      let first = statics_memory program names statics in
      let argv = record (new_block (layout program) argv_kind) { contents = all_zero (layout program) argv_kind } in
      let memory = (names count, argv) ∷ first in
      let new = new_added program names distinct count argv first ready.new in
      let others : ℕ → ℕ = λ i. names (suc count + i) in
      let apart : (i j : ℕ) → others i ≡ others j → i ≡ j = λ i j e. further count i j (distinct (suc count + i) (suc count + j) e) in
      let found = main_there program sound program.functions main is in
      let there = function_there program sound fills main.function main found.0 in
      let arguments = arguments_for (names count) main.parameters in
      let fit = main_arguments program sound (names count) main there.typed found.1 in
      let open_frame = opens program sound fills needs settled main.function main found.0 others apart memory (λ j le. new (suc count + j) (beyond count j)) arguments fit (arguments_given (names count) main.parameters) in
      let after = opened_memory program others main arguments memory in
      let in_first = statics_later program needs zeroed first (all_stay program statics zeroed program.statics sound.statics zeroed) statics (zeroed_statics program needs names distinct 0 numbers [] [] (λ j le. refl) tt) in
      record {
        frame = open_frame.frame;
        callers = tt;
        statics = statics_later program needs first after (stay_then first memory after (stay_added (names count) argv first (ready.new count (not_above count))) open_frame.stay) statics in_first;
      }
    where
      further : (count i j : ℕ) → suc count + i ≡ suc count + j → i ≡ j
      further count i j e = omega (arith, e)

      beyond : (count j : ℕ) → suc count ≤ suc count + j
      beyond count j = omega arith

  pub begins_set : (input : List ℕ) (state : State) → Begins program input state → IsSetState program needs state
  begins_set input state b = subst (IsSetState program needs) (sym b.5) (start_set b.1 b.2.0 b.3 b.4 input)

  pub run_set : (input : List ℕ) (n : ℕ) (state : State) → RunsTo (machine_of program) input n state → IsSetState program needs state
  run_set input n state run =
      goes_set program sound fills needs settled n run.start state (begins_typed program sound fills input run.start run.begins) (begins_set input run.start run.begins) run.goes
