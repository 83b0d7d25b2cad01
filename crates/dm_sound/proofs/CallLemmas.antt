-- Calls of typed programs: a function has an argument of its type for each parameter, and what the machine's own functions give is of the
-- call's type.
use Rattle.std.specs.Prelude.{◌≡◌, refl, ℕ, ◌<◌, ◌==◌, Bool, true, false, not, ◌&&◌, IsTrue, IfSome, IsSome, List, [], ◌∷◌, map, Option, Some, None, option_map, Result as Outcome, Ok, Err, pos, neg_ℤ, ℤ, bytes_eq, codes, if◌then◌else◌}
use Rattle.std.proofs.Common.{arith, ap, sym, ◌∙◌, subst, inl, inr}
use Rattle.std.proofs.lemmas.Bool.{false≢true}
use Rattle.std.proofs.lemmas.Int.{ints}
use Rattle.std.proofs.lemmas.List.Elements.{All-head, All-tail}
use Rattle.dm_token.specs.declared.place.Place.{Place}
use Rattle.dm_int.specs.declared.Kind.TheVariants.{Char, Int, UChar}
use Rattle.dm_int.specs.Kinds.{InRange}
use Rattle.dm_int.specs.Results.{bits_of_below}
use Rattle.dm_type.specs.CTypes.{CType, CTypes, void, integer, pointer, array, struct, function as function_type, const, no_types, more_types, bare}
use Rattle.dm_type.specs.Alike.{are_compatible, match_as_parameters}
use Rattle.dm_tree.specs.Composites.{covers, cover_parameters}
use Rattle.dm_tree.specs.Initialisers.{is_function_sort}
use Rattle.dm_tree.specs.Operands.{FitParameters, FitsCall}
use Rattle.dm_tree.specs.Scenes.{IsValue, is_lvalue}
use Rattle.dm_tree.specs.Trees.{Spans, Tree, Trees, node, no_trees, more_trees, kind_of, listed}
use Rattle.dm_tree.specs.Trees as label
use Rattle.dm_tree.specs.Typing.{ParameterFits, ParametersFit, DefinitionFits}
use Rattle.dm_tree.specs.Units.{Declaration}
use Rattle.dm_meaning.specs.declared.cause.Cause.{Cause}
use Rattle.dm_meaning.specs.Among.{IsAmong}
use Rattle.dm_meaning.specs.Values.{null, to, Value, integer_value, pointer_value, parts as compound, unset}
use Rattle.dm_meaning.specs.Objects.{Layout}
use Rattle.dm_meaning.specs.Memory.{Memory, look}
use Rattle.dm_meaning.specs.Primitives.{Answer, answers, stops, refuses, byte_in, put_character, get_character, text_at, most_in, written_line, put_line, end_program, Primitive, primitives, is_primitive, primitive_in, Prim}
use Rattle.dm_meaning.specs.Causes.{is_unset}
use Rattle.dm_meaning.specs.Programs.{Program, Definition, layout, declaration_of, definition_in, definition_of}
use Rattle.dm_meaning.specs.Operations.{Result, of_value, designates, Operand, World, Scene}
use Rattle.dm_meaning.specs.Running.{Runs, no_runs, more_runs, every, but_first}
use Rattle.dm_meaning.specs.Expressions.{value_of, nth_run, function_named, answered, undefined_called, called, call_step}
use Rattle.dm_meaning.specs.Statements.{kind_declared, type_declared}
use Rattle.dm_meaning.specs.Units.{AreBytes}
use Rattle.dm_meaning.proofs.OptionLemmas.{none_is_some, some_is_some, and_left, and_right}
use Rattle.dm_meaning.proofs.GrowLemmas.{equal_of}
use Rattle.dm_sound.specs.TypedValues.{own_type, has_values, HasType, IsGiven}
use Rattle.dm_sound.specs.TypedTrees.{scene_in, IsTyped}
use Rattle.dm_sound.specs.TypedSteps.{IsResult, AreOperands}
use Rattle.dm_sound.specs.TypedRuns.{IsTypedProgram, IsTypedWorld, AllComeFrom, result_in, ArgumentsFit, AreGivenValues, CallFits, MoveFits}
use Rattle.dm_sound.proofs.SetLemmas.{stay_same}
use Rattle.dm_sound.proofs.ValueLemmas.{number_same, has_own, own_bare, has_like, back_like, compatible_like, covered_like, like_whole}
use Rattle.dm_sound.proofs.GivenLemmas.{given_number, complete_values, like_values}
use Rattle.dm_sound.proofs.OperateLemmas.{value_no_lvalue}
use Rattle.dm_sound.proofs.ComeLemmas.{typed_parts}

-- a definition that is found is one of the program's, of this function
pub found_definition : (functions : List Definition) (f : ℕ) (definition : Definition) → definition_in functions f ≡ Some definition → IsAmong definition functions × (definition.function ≡ f)
found_definition [] f definition e = absurd (none_is_some definition e)
found_definition (first ∷ functions) f definition e = by_name (first.function == f) refl e (found_definition functions f definition)
  where
    by_name : (b : Bool) → (first.function == f) ≡ b → (if b then Some first else definition_in functions f) ≡ Some definition
        → (definition_in functions f ≡ Some definition → IsAmong definition functions × (definition.function ≡ f)) → IsAmong definition (first ∷ functions) × (definition.function ≡ f)
    by_name true g h later = let same = some_is_some first definition h in (inl (sym same), ap (λ (d : Definition). d.function) (sym same) ∙ equal_of first.function f g)
    by_name false g h later = let rest = later h in (inr rest.0, rest.1)

-- ---- arguments

cover_head : (type q : CType) (types qs : CTypes) → cover_parameters (more_types type types) (more_types q qs) ≡ true → (covers (bare type) (bare q) ≡ true) × (cover_parameters types qs ≡ true)
cover_head (const type) q types qs e = (and_left (covers type (bare q)) (cover_parameters types qs) e, and_right (covers type (bare q)) (cover_parameters types qs) e)
cover_head void q types qs e = (and_left (covers void (bare q)) (cover_parameters types qs) e, and_right (covers void (bare q)) (cover_parameters types qs) e)
cover_head (integer kind) q types qs e = (and_left (covers (integer kind) (bare q)) (cover_parameters types qs) e, and_right (covers (integer kind) (bare q)) (cover_parameters types qs) e)
cover_head (pointer type) q types qs e = (and_left (covers (pointer type) (bare q)) (cover_parameters types qs) e, and_right (covers (pointer type) (bare q)) (cover_parameters types qs) e)
cover_head (array type n) q types qs e = (and_left (covers (array type n) (bare q)) (cover_parameters types qs) e, and_right (covers (array type n) (bare q)) (cover_parameters types qs) e)
cover_head (struct n) q types qs e = (and_left (covers (struct n) (bare q)) (cover_parameters types qs) e, and_right (covers (struct n) (bare q)) (cover_parameters types qs) e)
cover_head (function_type a ps) q types qs e = (and_left (covers (function_type a ps) (bare q)) (cover_parameters types qs) e, and_right (covers (function_type a ps) (bare q)) (cover_parameters types qs) e)

-- a value of a parameter's type as it was known at the call is one of the type with which the parameter is declared
parameter_has : (laid : Layout) (declared type q : CType) (value : Value) → are_compatible (bare declared) (bare type) ≡ true → covers (bare type) (bare q) ≡ true → IsGiven laid (bare q) value → HasType laid declared value
parameter_has laid declared type q value e c given =
    let first = covered_like (bare type) (bare q) c given.whole in
    let second = compatible_like (bare declared) (bare type) e (like_whole (own_type (bare type)) (own_type (bare q)) first given.whole) in
    has_own laid (bare declared) declared (own_bare declared) value
    (has_like laid (bare type) (bare declared) (back_like (own_type (bare declared)) (own_type (bare type)) second) value
    (has_like laid (bare q) (bare type) (back_like (own_type (bare type)) (own_type (bare q)) first) value given.typed))

-- and it was set, if that type has values
parameter_set : (laid : Layout) (declared type q : CType) (value : Value) → are_compatible (bare declared) (bare type) ≡ true → covers (bare type) (bare q) ≡ true → IsTrue (has_values (own_type declared)) → IsGiven laid (bare q) value
    → is_unset value ≡ false
parameter_set laid declared type q value e c h given =
    let first = covered_like (bare type) (bare q) c given.whole in
    let second = compatible_like (bare declared) (bare type) e (like_whole (own_type (bare type)) (own_type (bare q)) first given.whole) in
    given.set (like_values (own_type (bare type)) (own_type (bare q)) first (like_values (own_type (bare declared)) (own_type (bare type)) second (ap has_values (own_bare declared) ∙ h)))

module _ (program : Program) where
  abbrev Fitting : List ℕ → CTypes → Type 0
  Fitting ds types = ParametersFit (scene_in program void false false None) ds types

  argument_has : (d : ℕ) (type q : CType) (a : Tree) (given : Result) → (entry : Option Declaration) → declaration_of program d ≡ entry → IfSome entry (ParameterFits (scene_in program void false false None) type) → IsSome entry
      → covers (bare type) (bare q) ≡ true → IsValue a → kind_of a ≡ bare q → IsResult (layout program) a given → HasType (layout program) (kind_declared entry) (value_of given) × (is_unset (value_of given) ≡ false)
  argument_has d type q a given None e fits is c v k h = absurd (false≢true is)
  argument_has d type q a (of_value value) (Some entry) e fits is c v k h =
      let given = subst (λ (t : CType). IsGiven (layout program) t value) k h.1 in
      (parameter_has (layout program) entry.kind type q value fits.1 c given, parameter_set (layout program) entry.kind type q value fits.1 c (complete_values program.table entry.kind fits.2) given)
  argument_has d type q a (designates at) (Some entry) e fits is c v k h = absurd (false≢true (sym (ap not h) ∙ value_no_lvalue a v))

  arguments_fit : (ds : List ℕ) (types qs : CTypes) (args : Trees) (operands : List Operand) → Fitting ds types → cover_parameters types qs ≡ true → FitParameters (listed args) qs → AreOperands (layout program) every args operands
      → ArgumentsFit program ds (map (λ x. value_of x.result) operands) × AreGivenValues (map (λ x. value_of x.result) operands)
  arguments_fit [] no_types no_types no_trees [] f c p h = (tt, tt)
  arguments_fit [] no_types no_types no_trees (x ∷ operands) f c p h = absurd h
  arguments_fit [] no_types no_types (more_trees a args) operands f c p h = absurd p
  arguments_fit [] no_types (more_types q qs) args operands f c p h = absurd (false≢true c)
  arguments_fit [] (more_types type types) qs args operands f c p h = absurd f
  arguments_fit (d ∷ ds) no_types qs args operands f c p h = absurd f
  arguments_fit (d ∷ ds) (more_types (const type) types) no_types args operands f c p h = absurd (false≢true c)
  arguments_fit (d ∷ ds) (more_types type types) no_types args operands f c p h = absurd (false≢true c)
  arguments_fit (d ∷ ds) (more_types type types) (more_types q qs) no_trees operands f c p h = absurd p
  arguments_fit (d ∷ ds) (more_types type types) (more_types q qs) (more_trees a args) [] f c p h = absurd h
  arguments_fit (d ∷ ds) (more_types type types) (more_types q qs) (more_trees a args) (x ∷ operands) f c p h =
      let head = cover_head type q types qs c in
      let one = argument_has d type q a x.result (declaration_of program d) refl f.0.0 f.0.1 head.0 p.0 p.1 h.0.1 in
      let rest = arguments_fit ds types qs args operands f.1 head.1 p.2 h.1 in
      ((one.0, rest.0), (one.1, rest.1))

  -- a call of a function that is defined, by the type of its entry
  defined_fits : (at : ℕ) (definition : Definition) (declared type kind : CType) (args : Trees) (operands : List Operand) → definition_of program at ≡ Some definition → type_declared program at ≡ declared → covers declared type ≡ true
      → DefinitionFits (scene_in program void false false None) definition.parameters definition.body declared → FitsCall type (listed args) kind → AreOperands (layout program) every args operands
      → CallFits program at (map (λ x. value_of x.result) operands) kind
  defined_fits at definition (function_type a types) (function_type b qs) kind args operands e d c fits p h = record {
    definition = definition;
    defined = e;
    arguments_fit = (arguments_fit definition.parameters types qs args operands fits.0 (and_right (covers a b) (cover_parameters types qs) c) p.0 h).0;
    arguments_set = (arguments_fit definition.parameters types qs args operands fits.0 (and_right (covers a b) (cover_parameters types qs) c) p.0 h).1;
    result = b;
    gives = p.1;
    covered = ap (λ (t : CType). covers (result_in t) b) d ∙ and_left (covers a b) (cover_parameters types qs) c;
  }
  defined_fits at definition (function_type a types) type kind args operands e d c fits p h = absurd (false≢true c)
  defined_fits at definition declared type kind args operands e d c fits p h = absurd fits

-- ---- the machine's own functions

-- what is answered is of the call's type, and what is left of the input are bytes
abbrev AnswerFits : Layout → CType → Option Answer → Type 0
AnswerFits laid kind None = Unit {0}
AnswerFits laid kind (Some (answers value input output)) = IsGiven laid kind value × AreBytes input
AnswerFits laid kind (Some (stops status)) = Unit {0}
AnswerFits laid kind (Some (refuses cause)) = Unit {0}

byte_range : (n : ℕ) → n < 256 → InRange Int (pos n)
byte_range n h = (omega (arith, ints), omega (arith, ints))

bits_below : (z : ℤ) → byte_in z < 256
bits_below z = bits_of_below UChar z

-- where a function is compatible with one that gives an int, so is what a call of it gives
int_call : (declared type kind : CType) (parameters : CTypes) (args : List Tree) → are_compatible declared (function_type (integer Int) parameters) ≡ true → covers declared type ≡ true → FitsCall type args kind → kind ≡ integer Int
int_call (function_type (integer k) ps) (function_type (integer j) qs) kind parameters args e c p =
    let first = number_same k Int (and_left (are_compatible (integer k) (integer Int)) (match_as_parameters ps parameters) e) in
    let second = number_same k j (and_left (covers (integer k) (integer j)) (cover_parameters ps qs) c) in
    p.1 ∙ ap integer (sym second ∙ first)
int_call (function_type (integer k) ps) (function_type b qs) kind parameters args e c p = absurd (false≢true (and_left (covers (integer k) b) (cover_parameters ps qs) c))
int_call (function_type (integer k) ps) type kind parameters args e c p = absurd p
int_call (function_type a ps) type kind parameters args e c p = absurd (false≢true (and_left (are_compatible a (integer Int)) (match_as_parameters ps parameters) e))
int_call declared type kind parameters args e c p = absurd (false≢true e)

module _ (laid : Layout) (memory : Memory) (kind : CType) (arguments : List Value) (input output : List ℕ) (bytes : AreBytes input) where
  given_int : (z : ℤ) → kind ≡ integer Int → InRange Int z → IsGiven laid kind (integer_value Int z)
  given_int z e h = subst (λ (t : CType). IsGiven laid t (integer_value Int z)) (sym e) (given_number laid (integer Int) Int z refl h)

  put_fits : kind ≡ integer Int → (all : List Value) → AnswerFits laid kind (Some (put_character all input output))
  put_fits e [] = tt
  put_fits e (integer_value one z ∷ []) = (given_int (pos (byte_in z)) e (byte_range (byte_in z) (bits_below z)), bytes)
  put_fits e (integer_value one z ∷ second ∷ rest) = tt
  put_fits e (pointer_value p ∷ rest) = tt
  put_fits e (compound all ∷ rest) = tt
  put_fits e (unset ∷ rest) = tt

  get_fits : kind ≡ integer Int → (left : List ℕ) → AreBytes left → AnswerFits laid kind (Some (get_character left output))
  get_fits e [] h = (given_int (neg_ℤ (pos 1)) e (omega (arith, ints), omega (arith, ints)), h)
  get_fits e (byte ∷ left) h = (given_int (pos byte) e (byte_range byte (All-head (λ b. b < 256) byte left h)), All-tail (λ b. b < 256) byte left h)

  line_fits : kind ≡ integer Int → (text : Outcome (List ℕ) Cause) → AnswerFits laid kind (Some (written_line text input output))
  line_fits e (Ok found) = (given_int (pos 0) e (omega (arith, ints), omega (arith, ints)), bytes)
  line_fits e (Err cause) = tt

  puts_fits : kind ≡ integer Int → (all : List Value) → AnswerFits laid kind (Some (put_line laid memory all input output))
  puts_fits e [] = tt
  puts_fits e (pointer_value null ∷ []) = tt
  puts_fits e (pointer_value (to at) ∷ []) = line_fits e (text_at laid memory (most_in laid (look memory at.name)) at)
  puts_fits e (pointer_value null ∷ second ∷ rest) = tt
  puts_fits e (pointer_value (to at) ∷ second ∷ rest) = tt
  puts_fits e (integer_value one z ∷ rest) = tt
  puts_fits e (compound all ∷ rest) = tt
  puts_fits e (unset ∷ rest) = tt

  exit_fits : (all : List Value) → AnswerFits laid kind (Some (end_program all))
  exit_fits [] = tt
  exit_fits (integer_value one z ∷ []) = tt
  exit_fits (integer_value one z ∷ second ∷ rest) = tt
  exit_fits (pointer_value p ∷ rest) = tt
  exit_fits (compound all ∷ rest) = tt
  exit_fits (unset ∷ rest) = tt

  abbrev Meaning : Primitive → Answer
  Meaning one = one.meaning laid memory arguments input output

  among_fits : (name : List ℕ) (declared : CType) (table : List Primitive) → ((one : Primitive) → IsAmong one table → is_primitive name declared one ≡ true → AnswerFits laid kind (Some (Meaning one)))
      → AnswerFits laid kind (option_map (λ (one : Primitive). Meaning one) (primitive_in table name declared))
  among_fits name declared [] h = tt
  among_fits name declared (first ∷ table) h = by_test (is_primitive name declared first) refl (among_fits name declared table (λ one a. h one (inr a)))
    where
      by_test : (b : Bool) → is_primitive name declared first ≡ b → AnswerFits laid kind (option_map (λ (one : Primitive). Meaning one) (primitive_in table name declared))
          → AnswerFits laid kind (option_map (λ (one : Primitive). Meaning one) (if b then Some first else primitive_in table name declared))
      by_test true e later = h first (inl refl) e
      by_test false e later = later

  -- what a call of one of them gives
  module _ (name : List ℕ) (declared type : CType) (args : List Tree) (c : covers declared type ≡ true) (p : FitsCall type args kind) where
    abbrev Answering : Primitive → Type 0
    Answering one = is_primitive name declared one ≡ true → AnswerFits laid kind (Some (Meaning one))

    each_fits : (one : Primitive) → IsAmong one primitives → Answering one
    each_fits one (inl e) =
        subst Answering (sym e) (λ is. put_fits (int_call declared type kind (more_types (integer Int) no_types) args (and_right (bytes_eq name (codes "putchar")) (are_compatible declared (function_type (integer Int) (more_types (integer Int) no_types))) is) c p) arguments)
    each_fits one (inr (inl e)) =
        subst Answering (sym e) (λ is. get_fits (int_call declared type kind no_types args (and_right (bytes_eq name (codes "getchar")) (are_compatible declared (function_type (integer Int) no_types)) is) c p) input bytes)
    each_fits one (inr (inr (inl e))) =
        subst Answering (sym e) (λ is. puts_fits (int_call declared type kind (more_types (pointer (const (integer Char))) no_types) args
        (and_right (bytes_eq name (codes "puts")) (are_compatible declared (function_type (integer Int) (more_types (pointer (const (integer Char))) no_types))) is) c p) arguments)
    each_fits one (inr (inr (inr (inl e)))) = subst Answering (sym e) (λ is. exit_fits arguments)
    each_fits one (inr (inr (inr (inr e)))) = absurd e

    prim_fits : AnswerFits laid kind (Prim name declared laid memory arguments input output)
    prim_fits = among_fits name declared primitives each_fits

-- ---- the step of a call

module _ (scene : Scene) (sound : IsTypedProgram scene.program) (world : World) (well : IsTypedWorld scene.program world) (answer : CType) where
  abbrev laid : Layout
  laid = layout scene.program

  answer_moves : (tree : Tree) (place : Place) (found : Option Answer) → IsTrue (not (is_lvalue tree)) → AnswerFits laid (kind_of tree) found → MoveFits scene.program world.memory tree (answered world (kind_of tree) place found)
  answer_moves tree place None v h = tt
  answer_moves tree place (Some (answers value input output)) v h = (record { memory = well.memory; input = h.1 }, stay_same world.memory, (refl, (v, h.0)))
  answer_moves tree place (Some (stops status)) v h = tt
  answer_moves tree place (Some (refuses cause)) v h = tt

  module _ (kind : CType) (spans : Spans) (parts : Trees) (place : Place) (operands : List Operand) (at : ℕ) (type : CType) (args : Trees) (p : FitsCall type (listed args) kind) (h : AreOperands laid every args operands) where
    abbrev Called : Option Definition → Type 0
    Called o = MoveFits scene.program world.memory (node label.call kind spans parts) (called scene world kind place (map (λ x. value_of x.result) operands) at o)

    undefined_fits : (entry : Option Declaration) → IfSome entry (λ one. IsTrue (is_function_sort one.sort && covers one.kind type)) → IsSome entry
        → MoveFits scene.program world.memory (node label.call kind spans parts) (undefined_called scene world kind place (map (λ x. value_of x.result) operands) entry)
    undefined_fits None f is = tt
    undefined_fits (Some entry) f is =
        answer_moves (node label.call kind spans parts) place (Prim entry.name entry.kind laid world.memory (map (λ x. value_of x.result) operands) world.input world.output) refl
        (prim_fits laid world.memory kind (map (λ x. value_of x.result) operands) world.input world.output well.input entry.name entry.kind type (listed args) (and_right (is_function_sort entry.sort) (covers entry.kind type) f) p)

    -- what is told of an entry holds where the entry is found
    told_entry : (entry : Declaration) (found : Option Declaration) → found ≡ Some entry → IfSome found (λ one. IsTrue (is_function_sort one.sort && covers one.kind type)) → covers entry.kind type ≡ true
    told_entry entry found e f =
        and_right (is_function_sort entry.sort) (covers entry.kind type) (subst (λ (o : Option Declaration). IfSome o (λ one. IsTrue (is_function_sort one.sort && covers one.kind type))) e f)

    by_definition : (o : Option Definition) → definition_of scene.program at ≡ o → IfSome (declaration_of scene.program at) (λ one. IsTrue (is_function_sort one.sort && covers one.kind type)) → IsSome (declaration_of scene.program at) → Called o
    by_definition None e f is = undefined_fits (declaration_of scene.program at) f is
    by_definition (Some definition) e f is =
        let found = found_definition scene.program.functions at definition e in
        let one = sound.functions definition found.0 in
        let entry : declaration_of scene.program at ≡ Some one.entry = ap (declaration_of scene.program) (sym found.1) ∙ one.declared in
        (defined_fits scene.program at definition one.entry.kind type kind args operands e (ap kind_declared entry) (told_entry one.entry (declaration_of scene.program at) entry f) one.fits.1 p h, (refl, refl))

  pub named_first : (at : ℕ) (type : CType) (inner : Spans) (runs : Runs) (args : Trees) → AllComeFrom laid but_first (more_trees (node (label.function at) type inner no_trees) args) runs → function_named (nth_run 0 runs) ≡ Some at
  named_first at type inner no_runs args h = absurd h
  named_first at type inner (more_runs first rest) args h = ap function_named h.0

  -- A step of a call calls a function that the program defines, as its definition wants it, or one of the machine's own.
  pub call_fits : (kind : CType) (spans : Spans) (parts : Trees) → IsTyped scene.program answer (node label.call kind spans parts) → (place : Place) (runs : Runs) (operands : List Operand)
      → AllComeFrom laid but_first parts runs → AreOperands laid but_first parts operands
      → MoveFits scene.program world.memory (node label.call kind spans parts) (call_step scene world kind place (map (λ x. value_of x.result) operands) (function_named (nth_run 0 runs)))
  call_fits kind spans (more_trees (node (label.function at) type inner no_trees) args) t place runs operands h g =
      let first = typed_parts scene.program answer label.call kind spans (more_trees (node (label.function at) type inner no_trees) args) t in
      subst (λ (o : Option ℕ). MoveFits scene.program world.memory (node label.call kind spans (more_trees (node (label.function at) type inner no_trees) args)) (call_step scene world kind place (map (λ x. value_of x.result) operands) o))
      (sym (named_first at type inner runs args h))
      (by_definition kind spans (more_trees (node (label.function at) type inner no_trees) args) place operands at type args t.typed.0 g (definition_of scene.program at) refl first.0.typed.0.0 first.0.typed.0.1)
  call_fits kind spans parts t place runs operands h g = absurd t.typed.0
