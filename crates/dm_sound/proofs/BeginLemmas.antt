-- Runs of typed programs begin in typed states (5.1.2.2.1, 6.7.9p10).
use Rattle.std.specs.Prelude.{◌≡◌, refl, ◌⊎◌, ℕ, suc, ◌+◌, ◌≤◌, ◌==◌, Bool, true, false, not, ◌||◌, IsTrue, IfSome, IsSome, List, [], ◌∷◌, length, Option, Some, None, option_map, pos, codes, if◌then◌else◌}
use Rattle.std.proofs.Common.{arith, ap, sym, ◌∙◌, subst, inl, inr}
use Rattle.std.proofs.lemmas.Bool.{false≢true}
use Rattle.std.proofs.lemmas.Int.{ints}
use Rattle.std.proofs.lemmas.Slice.Eq.{bytes_eq-Decides}
use Rattle.dm_int.specs.declared.Kind.TheVariants.{Char, Int}
use Rattle.dm_type.specs.Alike.{are_compatible, match_as_parameters}
use Rattle.dm_type.specs.CTypes.{CType, CTypes, void, integer, pointer, function as function_type, const, no_types, more_types, bare}
use Rattle.dm_tree.specs.Scenes.{Scene}
use Rattle.dm_tree.specs.Trees.{Initialiser, parts_of}
use Rattle.dm_tree.specs.Typing.{DefinitionFits, ParameterFits, ParametersFit, is_main_type}
use Rattle.dm_tree.specs.Units.{Declaration}
use Rattle.dm_meaning.specs.Among.{IsAmong}
use Rattle.dm_meaning.specs.Values.{Value, Pointer, integer_value, pointer_value, numbered}
use Rattle.dm_meaning.specs.Objects.{all_zero, is_array}
use Rattle.dm_meaning.specs.Memory.{Memory, new_block, written}
use Rattle.dm_meaning.specs.Programs.{Program, Definition, Static, layout, declaration_of, definition_in}
use Rattle.dm_meaning.specs.Operations.{Objects, object_named, whole}
use Rattle.dm_meaning.specs.States.{State}
use Rattle.dm_meaning.specs.Statements.{declared_in, kind_declared, type_declared, named_from}
use Rattle.dm_meaning.specs.Steps.{given_from, opened_memory, is_main}
use Rattle.dm_meaning.specs.Units.{static_numbers, zeroed_from, static_value, initialised, all_initialised, statics_memory, argv_kind, arguments_for, start, main_in, main_of, AreBytes, Begins}
use Rattle.dm_meaning.proofs.ExtendLemmas.{look_changed}
use Rattle.dm_meaning.proofs.GrowLemmas.{equal_of}
use Rattle.dm_meaning.proofs.OptionLemmas.{none_is_some, some_is_some, and_left, and_right}
use Rattle.dm_sound.specs.TypedValues.{own_type, HasType, AreTyped}
use Rattle.dm_sound.specs.TypedTrees.{scene_in}
use Rattle.dm_sound.specs.TypedRuns.{ArgumentsFit, IsTypedFunction, IsTypedStatic, IsTypedProgram, result_of}
use Rattle.dm_sound.specs.TypedStates.{AreNamed, IsTypedState}
use Rattle.dm_sound.proofs.ValueLemmas.{own_bare, has_own, has_like, back_like, compatible_like, like_whole}
use Rattle.dm_sound.proofs.AccessLemmas.{typed_written}
use Rattle.dm_sound.proofs.FirstLemmas.{zero_has, typed_added, typed_opened}
use Rattle.dm_sound.proofs.PlaceLemmas.{keeps_same, keeps_then, keeps_written, keeps_added, named_later, named_there, AreNewFrom, new_added, same, named_added, AreGiven, given_then, made_keeps, made_named, given_named, whole_place}
use Rattle.dm_sound.proofs.TaskLemmas.{DeclaresFill, items_fit}
use Rattle.dm_sound.proofs.StaticLemmas.{first_value_has}
use Rattle.dm_sound.proofs.StepLemmas.{function_there, body_typed, parts_typed}

-- ---- the arguments of main (5.1.2.2.1p2)

either_of : (a b : Bool) → (a || b) ≡ true → (a ≡ true) ⊎ (b ≡ true)
either_of true b e = inl refl
either_of false b e = inr e

-- the first parameters of two types match, and so do the others
matched : (a : CType) (types : CTypes) (b : CType) (others : CTypes) → match_as_parameters (more_types a types) (more_types b others) ≡ true
    → (are_compatible (bare a) (bare b) ≡ true) × (match_as_parameters types others ≡ true)
matched (const a) types b others e = (and_left (are_compatible a (bare b)) (match_as_parameters types others) e, and_right (are_compatible a (bare b)) (match_as_parameters types others) e)
matched a types b others e = (and_left (are_compatible (bare a) (bare b)) (match_as_parameters types others) e, and_right (are_compatible (bare a) (bare b)) (match_as_parameters types others) e)

none_matched : (a : CType) (types : CTypes) → match_as_parameters (more_types a types) no_types ≡ true → ⊥
none_matched (const a) types e = false≢true e
none_matched a types e = false≢true e

abbrev argv_type : CType
argv_type = pointer (pointer (integer Char))

module _ (program : Program) (sound : IsTypedProgram program) where
  abbrev place : Scene
  place = scene_in program void false false None

  -- a value of a type is one of a parameter's, which the function's type and a compatible one give
  argument_has : (kind type other : CType) → are_compatible (bare kind) (bare type) ≡ true → are_compatible (bare type) (bare other) ≡ true → IsTrue (not (is_array (own_type (bare other)))) → (value : Value)
      → HasType (layout program) other value → HasType (layout program) kind value
  argument_has kind type other e f w value h =
      let first = compatible_like (bare type) (bare other) f w in
      let second = compatible_like (bare kind) (bare type) e (like_whole (own_type (bare type)) (own_type (bare other)) first w) in
      has_own (layout program) (bare kind) kind (own_bare kind) value
      (has_like (layout program) (bare type) (bare kind) (back_like (own_type (bare kind)) (own_type (bare type)) second) value
      (has_like (layout program) (bare other) (bare type) (back_like (own_type (bare type)) (own_type (bare other)) first) value
      (has_own (layout program) other (bare other) (sym (own_bare other)) value h)))

  parameter_alike : (type : CType) (o : Option Declaration) → IfSome o (ParameterFits place type) → IsSome o → are_compatible (bare (kind_declared o)) (bare type) ≡ true
  parameter_alike type None fits is = absurd (false≢true is)
  parameter_alike type (Some entry) fits is = fits.1

  second_fits : (p : Pointer) (parameters : List ℕ) (types : CTypes) → ParametersFit place parameters types → match_as_parameters types (more_types argv_type no_types) ≡ true
      → ArgumentsFit program parameters (pointer_value p ∷ [])
  second_fits p [] no_types h m = absurd (false≢true m)
  second_fits p [] (more_types type types) h m = absurd h
  second_fits p (d ∷ parameters) no_types h m = absurd h
  second_fits p (d ∷ []) (more_types type no_types) h m =
      (argument_has (type_declared program d) type argv_type (parameter_alike type (declaration_of program d) h.0.0 h.0.1) (matched type no_types argv_type no_types m).0 refl (pointer_value p) refl, tt)
  second_fits p (d ∷ e ∷ parameters) (more_types type no_types) h m = absurd h.1
  second_fits p (d ∷ parameters) (more_types type (more_types other types)) h m = absurd (none_matched other types (matched type (more_types other types) argv_type no_types m).1)

  arguments_fit : (n : ℕ) (parameters : List ℕ) (types : CTypes) → ParametersFit place parameters types
      → (match_as_parameters types no_types ≡ true) ⊎ (match_as_parameters types (more_types (integer Int) (more_types argv_type no_types)) ≡ true) → ArgumentsFit program parameters (arguments_for n parameters)
  arguments_fit n [] types h m = tt
  arguments_fit n (d ∷ parameters) no_types h m = absurd h
  arguments_fit n (d ∷ parameters) (more_types type types) h (inl m) = absurd (none_matched type types m)
  arguments_fit n (d ∷ parameters) (more_types type types) h (inr m) =
      let both = matched type types (integer Int) (more_types argv_type no_types) m in (
        argument_has (type_declared program d) type (integer Int) (parameter_alike type (declaration_of program d) h.0.0 h.0.1) both.0 refl (integer_value Int (pos 0)) (refl, (omega (arith, ints), omega (arith, ints))),
        second_fits _ parameters types h.1 both.1,
      )

  -- ---- main

  pub main_there : (functions : List Definition) (main : Definition) → main_in program functions ≡ Some main
      → (definition_in functions main.function ≡ Some main) × (is_main (declaration_of program main.function) ≡ true)
  main_there [] main e = absurd (none_is_some main e)
  main_there (first ∷ functions) main e = by_main (is_main (declaration_of program first.function)) refl e (main_there functions main)
    where
      First : Definition → Type 0
      First one = (definition_in (first ∷ functions) one.function ≡ Some one) × (is_main (declaration_of program one.function) ≡ true)

      by_name : (b : Bool) → (first.function == main.function) ≡ b → is_main (declaration_of program first.function) ≡ false
          → (definition_in functions main.function ≡ Some main) × (is_main (declaration_of program main.function) ≡ true) → (if b then Some first else definition_in functions main.function) ≡ Some main
      by_name true f g later = absurd (false≢true (sym g ∙ ap (λ d. is_main (declaration_of program d)) (equal_of first.function main.function f) ∙ later.1))
      by_name false f g later = later.0

      by_main : (b : Bool) → is_main (declaration_of program first.function) ≡ b → (if b then Some first else main_in program functions) ≡ Some main
          → (main_in program functions ≡ Some main → (definition_in functions main.function ≡ Some main) × (is_main (declaration_of program main.function) ≡ true))
          → (definition_in (first ∷ functions) main.function ≡ Some main) × (is_main (declaration_of program main.function) ≡ true)
      by_main true f g later =
          subst (λ (one : Definition). (definition_in (first ∷ functions) one.function ≡ Some one) × (is_main (declaration_of program one.function) ≡ true)) (some_is_some first main g)
          (ap (λ b. if b then Some first else definition_in functions first.function) (same first.function), f)
      by_main false f g later = let found = later g in (by_name (first.function == main.function) refl f found, found.1)

  pub main_arguments : (n : ℕ) (main : Definition) → (h : IsTypedFunction program main) → is_main (declaration_of program main.function) ≡ true → ArgumentsFit program main.parameters (arguments_for n main.parameters)
  main_arguments n main h m = by_type h.entry.kind h.fits.1 (h.fits.2 ((bytes_eq-Decides h.entry.name (codes "main")).0 (ap is_main (sym h.declared) ∙ m))).0
    where
      by_type : (type : CType) → DefinitionFits place main.parameters main.body type → IsTrue (is_main_type type) → ArgumentsFit program main.parameters (arguments_for n main.parameters)
      by_type (function_type result types) fits is = arguments_fit n main.parameters types fits.0 (by_either (either_of _ _ is))
        where
          by_either : (are_compatible (function_type result types) (function_type (integer Int) no_types) ≡ true)
              ⊎ (are_compatible (function_type result types) (function_type (integer Int) (more_types (integer Int) (more_types argv_type no_types))) ≡ true)
              → (match_as_parameters types no_types ≡ true) ⊎ (match_as_parameters types (more_types (integer Int) (more_types argv_type no_types)) ≡ true)
          by_either (inl e) = inl (and_right (are_compatible result (integer Int)) (match_as_parameters types no_types) e)
          by_either (inr e) = inr (and_right (are_compatible result (integer Int)) (match_as_parameters types (more_types (integer Int) (more_types argv_type no_types))) e)
      by_type type fits is = absurd fits

  -- ---- objects of static storage duration

  module _ (names : ℕ → ℕ) (distinct : (i j : ℕ) → names i ≡ names j → i ≡ j) where
    pub zeroed_typed : (i : ℕ) (ds : List ℕ) (memory : Memory) → AreTyped (layout program) memory → AreTyped (layout program) (zeroed_from program names i ds memory)
    zeroed_typed i [] memory typed = typed
    zeroed_typed i (d ∷ ds) memory typed =
        let kind = type_declared program d in
        let one = record (new_block (layout program) kind) { contents = all_zero (layout program) kind } in
        zeroed_typed (suc i) ds ((names i, one) ∷ memory) (typed_added (layout program) (names i) one memory (zero_has program sound.scope.table kind) typed)

    pub zeroed_given : (i : ℕ) (ds : List ℕ) (objects : Objects) (memory : Memory) (n : ℕ) → n ≡ i + length ds → AreNewFrom program names distinct i memory → AreNamed program memory objects
        → AreGiven program names distinct n memory (zeroed_from program names i ds memory) (named_from names i ds objects)
    zeroed_given i [] objects memory n e new h = record { keeps = keeps_same memory; named = h; new = λ j le. new j (omega (arith, e, le)) }
    zeroed_given i (d ∷ ds) objects memory n e new h =
        let kind = type_declared program d in
        let one = record (new_block (layout program) kind) { contents = all_zero (layout program) kind } in
        given_then program names distinct n i one memory (zeroed_from program names (suc i) ds ((names i, one) ∷ memory)) (named_from names (suc i) ds ((d, names i) ∷ objects)) new
        (zeroed_given (suc i) ds ((d, names i) ∷ objects) ((names i, one) ∷ memory) n (omega (arith, e)) (new_added program names distinct i one memory new) (named_added program names distinct i d one objects memory refl new h))

    -- a store gives no object a name
    new_written : (n m : ℕ) (value : Value) (memory : Memory) → AreNewFrom program names distinct n memory → AreNewFrom program names distinct n (written memory (whole (numbered m)) value)
    new_written n m value memory new j le = look_changed m _ memory (names j) ∙ ap (option_map _) (new j le)

    module _ (known : Memory) (objects : Objects) (n : ℕ) where
      -- memory is typed, has these objects, and its later names are new
      pub record IsReady (memory : Memory) : Type 0 where
        pub typed : AreTyped (layout program) memory
        pub named : AreNamed program memory objects
        pub new : AreNewFrom program names distinct n memory

      one_ready : (static : Static) → IsTypedStatic program static → (memory : Memory) → IsReady memory → (o : Option ℕ) → object_named objects static.declared ≡ o → (i : Option Initialiser) → static.initialiser ≡ i
          → IsReady (initialised program objects known static o i memory)
      one_ready static s memory ready None e i f = ready
      one_ready static s memory ready (Some m) e None f = ready
      one_ready static s memory ready (Some m) e (Some initialiser) f =
          let kind = type_declared program static.declared in
          let value = static_value program objects known kind initialiser static.expressions in
          let there = whole_place (layout program) memory m kind (named_there program memory objects ready.named static.declared m e) in
          let has = first_value_has program sound.scope objects known static s initialiser f in
          record {
            typed = typed_written (layout program) memory ready.typed (whole (numbered m)) (bare kind) there.0 there.1 value (has_own (layout program) kind (bare kind) (sym (own_bare kind)) value has);
            named = named_later program memory (written memory (whole (numbered m)) value) (keeps_written (whole (numbered m)) value memory) objects ready.named;
            new = new_written n m value memory ready.new;
          }

      pub all_ready : (statics : List Static) → ((static : Static) → IsAmong static statics → IsTypedStatic program static) → (memory : Memory) → IsReady memory → IsReady (all_initialised program objects known statics memory)
      all_ready [] s memory ready = ready
      all_ready (static ∷ statics) s memory ready =
          all_ready statics (λ one a. s one (inr a)) (initialised program objects known static (object_named objects static.declared) static.initialiser memory)
          (one_ready static (s static (inl refl)) memory ready (object_named objects static.declared) refl static.initialiser refl)

  numbered_all : (statics : List Static) → length statics ≡ length (static_numbers statics)
  numbered_all [] = refl
  numbered_all (static ∷ statics) = ap suc (numbered_all statics)

  pub how_many : (statics : List Static) → length statics ≡ 0 + length (static_numbers statics)
  how_many statics = let e = numbered_all statics in omega (arith, e)

  -- ---- the beginning

  module _ (fills : (result : CType) → DeclaresFill program result) where
    start_typed : (names : ℕ → ℕ) → ((i j : ℕ) → names i ≡ names j → i ≡ j) → (main : Definition) → main_of program ≡ Some main → (input : List ℕ) → AreBytes input → IsTypedState program (start names program main input)
    start_typed names distinct main is input bytes =
        let count = length program.statics in
        let numbers = static_numbers program.statics in
        let statics = named_from names 0 numbers [] in
        let zeroed = zeroed_from program names 0 numbers [] in
        let given = zeroed_given names distinct 0 numbers [] [] count (how_many program.statics) (λ j le. refl) tt in
        let ready = all_ready names distinct zeroed statics count program.statics sound.statics zeroed
        (record { typed = zeroed_typed names distinct 0 numbers [] (λ m block e. absurd (none_is_some block e)); named = given.named; new = given.new }) in
        let first = statics_memory program names statics in
        let argv = record (new_block (layout program) argv_kind) { contents = all_zero (layout program) argv_kind } in
        let memory = (names count, argv) ∷ first in
        let typed = typed_added (layout program) (names count) argv first (zero_has program sound.scope.table argv_kind) ready.typed in
        let new = new_added program names distinct count argv first ready.new in
        let others : ℕ → ℕ = λ i. names (suc count + i) in
        let apart : (i j : ℕ) → others i ≡ others j → i ≡ j = λ i j e. further count i j (distinct (suc count + i) (suc count + j) e) in
        let found = main_there program.functions main is in
        let there = function_there program sound fills main.function main found.0 in
        let arguments = arguments_for (names count) main.parameters in
        let fit = main_arguments (names count) main there.typed found.1 in
        let items = declared_in program (parts_of main.body) in
        let many = length main.parameters in
        let beside = given_from program others 0 main.parameters arguments memory in
        let own = given_named program others apart 0 main.parameters arguments [] memory many (from_none many) (λ j le. new (suc count + j) (beyond count j)) tt in
        let after = opened_memory program others main arguments memory in
        let keeps = keeps_then first memory after (keeps_added (names count) argv first (ready.new count (itself count))) (keeps_then memory beside after own.keeps (made_keeps program others apart many items beside own.new)) in
        let result = bare (result_of program main.function) in
        record {
          world = record { memory = typed_opened program sound.scope.table others main arguments memory fit typed; input = bytes };
          statics = named_later program first after keeps statics ready.named;
          frame = record {
            definition = main;
            defined = found.0;
            named = made_named program others apart many items (named_from others 0 main.parameters []) beside own.new own.named;
            tasks = items_fit program sound.scope.table result (fills result) after (parts_of main.body) (parts_typed program sound fills result main.body (body_typed program sound fills main.function main found.0));
          };
          callers = tt;
        }
      where
        further : (count i j : ℕ) → suc count + i ≡ suc count + j → i ≡ j
        further count i j e = omega (arith, e)

        beyond : (count j : ℕ) → suc count ≤ suc count + j
        beyond count j = omega arith

        itself : (count : ℕ) → count ≤ count
        itself count = omega arith

        from_none : (many : ℕ) → many ≡ 0 + many
        from_none many = omega arith

    pub begins_typed : (input : List ℕ) (state : State) → Begins program input state → IsTypedState program state
    begins_typed input state b = subst (IsTypedState program) (sym b.5) (start_typed b.1 b.2.0 b.3 b.4 input b.0)
