-- A step of a typed expression has the cause `type` only by what memory holds.
use Rattle.std.specs.Prelude.{◌≡◌, refl, ◌⊎◌, ℕ, zero, suc, Bool, true, false, not, ◌&&◌, IsTrue, IfSome, IsSome, MatchBool, List, [], ◌∷◌, ◌++◌, map, Option, Some, None, option_map, Result as Outcome, Ok, Err, pos, bytes_eq, codes, if◌then◌else◌}
use Rattle.std.proofs.Common.{ap, sym, ◌∙◌, subst, inl, inr}
use Rattle.std.proofs.lemmas.Bool.{false≢true, and_from}
use Rattle.dm_token.specs.declared.place.Place.{Place}
use Rattle.dm_int.specs.declared.Kind.{Kind}
use Rattle.dm_int.specs.declared.Kind.TheVariants.{Char, Int, ULong}
use Rattle.dm_type.specs.CTypes.{CType, CTypes, void, integer, pointer, array, struct, function as function_type, const, no_types, more_types, bare}
use Rattle.dm_type.specs.Alike.{are_compatible, match_as_parameters}
use Rattle.dm_type.specs.Layouts.{size_of}
use Rattle.dm_tree.specs.Composites.{covers, cover_parameters}
use Rattle.dm_tree.specs.Constants.{integer_kind}
use Rattle.dm_tree.specs.Initialisers.{is_function_sort}
use Rattle.dm_tree.specs.Operands.{FitParameters, FitsCall}
use Rattle.dm_tree.specs.Scenes.{Scene as Standing, IsValue, is_scalar, is_function, target}
use Rattle.dm_tree.specs.Trees.{Label, Spans, Tree, Trees, node, no_trees, more_trees, kind_of, trees_of, is_statement, listed}
use Rattle.dm_tree.specs.Trees as label
use Rattle.dm_tree.specs.Typing.{Fits}
use Rattle.dm_tree.specs.Units.{Declaration}
use Rattle.dm_meaning.specs.declared.cause.Cause.{Cause}
use Rattle.dm_meaning.specs.declared.cause.Cause.TheVariants.{OtherType}
use Rattle.dm_meaning.specs.Among.{IsAmong}
use Rattle.dm_meaning.specs.Values.{At, Pointer, null, to, Value, pointer_value, unset}
use Rattle.dm_meaning.specs.Objects.{Layout}
use Rattle.dm_meaning.specs.Memory.{Memory, look}
use Rattle.dm_meaning.specs.Causes.{earliest, use_causes, is_null, is_unset}
use Rattle.dm_meaning.specs.Primitives.{Answer, answers, stops, refuses, put_character, get_character, text_at, most_in, written_line, put_line, end_program, Primitive, primitives, is_primitive, primitive_in, Prim}
use Rattle.dm_meaning.specs.Programs.{Definition, layout, or_zero as or_no_size, declaration_of, definition_of}
use Rattle.dm_meaning.specs.Operations.{Result, of_value, designates, Operand, World, Scene, Did, gives, breaks, ends_with, number_alone, told, truth_of, operate}
use Rattle.dm_meaning.specs.Running.{Doing, evaluates, gives_truth, gives_value, Run, done, to_do, Runs, no_runs, more_runs, Open, every, only_first, but_first, nothing, first_open, others_open, open_of, open_parts, operands_in, locks_in_all, begun, Hole, within, Holes, in_first, in_others}
use Rattle.dm_meaning.specs.Expressions.{Move, goes, calls, fails, exits, lifted, as_move, by_truth, on_operand, value_of, nth_run, function_named, answered, undefined_called, called, call_step, kind_of_run, form_step, node_step, own_or_inner, where_open, moves, moves_in}
use Rattle.dm_meaning.specs.Units.{is_pointer as points}
use Rattle.dm_meaning.specs.Wholes.{is_expression, are_expressions}
use Rattle.dm_meaning.proofs.AmongLemmas.{among_left, among_right, among_either, among-map_from}
use Rattle.dm_meaning.proofs.OptionLemmas.{none_is_some, some_is_some, mapped_some, and_left, and_right}
use Rattle.dm_sound.specs.TypedValues.{own_type, has_values, IsGiven}
use Rattle.dm_sound.specs.TypedTrees.{scene_in, IsTyped}
use Rattle.dm_sound.specs.TypedSteps.{IsResult, IsOperand, AreOperands, is_operated, results, DidFits, IsMistyped, IsTooFar}
use Rattle.dm_sound.specs.TypedRuns.{IsTypedProgram, IsTypedWorld, only, ComesFrom, AllComeFrom}
use Rattle.dm_sound.specs.Excuses.{results_in, results_in_all, IsExcused, IsExcusedMove}
use Rattle.dm_sound.proofs.ValueLemmas.{AreLike, back_like, compatible_like, covered_like}
use Rattle.dm_sound.proofs.AccessLemmas.{earliest_among, use_apart}
use Rattle.dm_sound.proofs.GivenLemmas.{IsNumber, IsAddress, has_number, has_address, scalar_given, size_number}
use Rattle.dm_sound.proofs.OperateLemmas.{value_no_lvalue, number_fits}
use Rattle.dm_sound.proofs.NodeLemmas.{node_fits}
use Rattle.dm_sound.proofs.PlainLemmas.{plain_first}
use Rattle.dm_sound.proofs.ComeLemmas.{RunsGoOn, AllTyped, typed_parts, typed_only, operands_come}
use Rattle.dm_sound.proofs.CallLemmas.{named_first}
use Rattle.dm_sound.proofs.RunLemmas.{operated_step, IsLogicalForm, form_of_logical, sized_first}

-- ---- results

-- what operands give is among the results of their trees
operands_among : (opens : Open) (runs : Runs) (operands : List Operand) → operands_in opens runs ≡ Some operands → (r : Result) → IsAmong r (results operands) → IsAmong r (results_in_all runs)
operands_among opens no_runs operands e r h = subst (λ (xs : List Operand). IsAmong r (results xs)) (sym (some_is_some [] operands e)) h
operands_among every (more_runs (done kind given locks) runs) operands e r h =
    let from = mapped_some (λ (xs : List Operand). record { kind = kind; result = given } ∷ xs) (operands_in every runs) operands e in
    by_first given r (results from.0) (results_in_all runs) (operands_among every runs from.0 from.1 r) (subst (λ (xs : List Operand). IsAmong r (results xs)) (sym from.2) h)
  where
    by_first : (one other : Result) (xs ys : List Result) → (IsAmong other xs → IsAmong other ys) → IsAmong other (one ∷ xs) → IsAmong other (one ∷ ys)
    by_first one other xs ys k (inl f) = inl f
    by_first one other xs ys k (inr f) = inr (k f)
operands_among only_first (more_runs (done kind given locks) runs) operands e r h =
    let from = mapped_some (λ (xs : List Operand). record { kind = kind; result = given } ∷ xs) (operands_in nothing runs) operands e in
    by_first given r (results from.0) (results_in_all runs) (operands_among nothing runs from.0 from.1 r) (subst (λ (xs : List Operand). IsAmong r (results xs)) (sym from.2) h)
  where
    by_first : (one other : Result) (xs ys : List Result) → (IsAmong other xs → IsAmong other ys) → IsAmong other (one ∷ xs) → IsAmong other (one ∷ ys)
    by_first one other xs ys k (inl f) = inl f
    by_first one other xs ys k (inr f) = inr (k f)
operands_among every (more_runs (to_do doing kind place below) runs) operands e r h = absurd (none_is_some operands e)
operands_among only_first (more_runs (to_do doing kind place below) runs) operands e r h = absurd (none_is_some operands e)
operands_among but_first (more_runs run runs) operands e r h = among_right r (results_in run) (results_in_all runs) (operands_among every runs operands e r h)
operands_among nothing (more_runs run runs) operands e r h = among_right r (results_in run) (results_in_all runs) (operands_among nothing runs operands e r h)

-- an excuse beside more results
excused_more : (laid : Layout) (memory : Memory) (xs ys : List Result) → ((r : Result) → IsAmong r xs → IsAmong r ys) → IsExcused laid memory xs → IsExcused laid memory ys
excused_more laid memory xs ys f (inl m) = inl (record { at = m.at; access = m.access; there = f (designates m.at) m.there; other = m.other })
excused_more laid memory xs ys f (inr (inl m)) =
    inr (inl (record { target = m.target; left = m.left; right = m.right; far = m.far; first = f _ m.first; second = f _ m.second; apart = m.apart; beyond = m.beyond }))
excused_more laid memory xs ys f (inr (inr m)) = inr (inr (record { at = m.at; there = f _ m.there; text = m.text }))

move_more : {T H : Type 0} (laid : Layout) (memory : Memory) (xs ys : List Result) → ((r : Result) → IsAmong r xs → IsAmong r ys) → (move : Move T H) → IsExcusedMove laid memory xs move → IsExcusedMove laid memory ys move
move_more laid memory xs ys f (goes world tree) h = tt
move_more laid memory xs ys f (calls d arguments kind hole) h = tt
move_more laid memory xs ys f (fails cause place) h = λ e. excused_more laid memory xs ys f (h e)
move_more laid memory xs ys f (exits status) h = tt

lifted_excused : {T H U G : Type 0} (laid : Layout) (memory : Memory) (xs : List Result) (tree : T → U) (hole : H → G) (move : Move T H) → IsExcusedMove laid memory xs move → IsExcusedMove laid memory xs (lifted tree hole move)
lifted_excused laid memory xs tree hole (goes world t) h = tt
lifted_excused laid memory xs tree hole (calls d arguments kind a) h = tt
lifted_excused laid memory xs tree hole (fails cause place) h = h
lifted_excused laid memory xs tree hole (exits status) h = tt

-- ---- the operands of a node

module _ (laid : Layout) where
  none_left : (trees : Trees) (xs : List Operand) → AreOperands laid nothing trees xs → xs ≡ []
  none_left no_trees [] h = refl
  none_left no_trees (x ∷ xs) h = absurd h
  none_left (more_trees first rest) xs h = none_left rest xs h

  one_first : (a : Tree) (rest : Trees) (xs : List Operand) → AreOperands laid only_first (more_trees a rest) xs → (x : Operand) × (xs ≡ x ∷ []) × IsOperand laid a x
  one_first a rest [] h = absurd h
  one_first a rest (x ∷ xs) h = (x, ap (λ (ys : List Operand). x ∷ ys) (none_left rest xs h.1), h.0)

  one_every : (a : Tree) (xs : List Operand) → AreOperands laid every (more_trees a no_trees) xs → (x : Operand) × (xs ≡ x ∷ []) × IsOperand laid a x
  one_every a [] h = absurd h
  one_every a (x ∷ []) h = (x, refl, h.0)
  one_every a (x ∷ y ∷ rest) h = absurd h.1

  value_there : (a : Tree) (given : Result) → IsResult laid a given → IsValue a → (value : Value) × (given ≡ of_value value) × IsGiven laid (kind_of a) value
  value_there a (of_value value) h v = (value, refl, h.1)
  value_there a (designates at) h v = absurd (false≢true (sym (ap not h) ∙ value_no_lvalue a v))

  -- the one argument of a function that is compatible with one of one parameter
  match_head : (p w : CType) (ps : CTypes) → match_as_parameters (more_types p ps) (more_types w no_types) ≡ true → (are_compatible (bare p) (bare w) ≡ true) × (match_as_parameters ps no_types ≡ true)
  match_head (const p) w ps e = (and_left (are_compatible p (bare w)) (match_as_parameters ps no_types) e, and_right (are_compatible p (bare w)) (match_as_parameters ps no_types) e)
  match_head void w ps e = (and_left (are_compatible void (bare w)) (match_as_parameters ps no_types) e, and_right (are_compatible void (bare w)) (match_as_parameters ps no_types) e)
  match_head (integer k) w ps e = (and_left (are_compatible (integer k) (bare w)) (match_as_parameters ps no_types) e, and_right (are_compatible (integer k) (bare w)) (match_as_parameters ps no_types) e)
  match_head (pointer p) w ps e = (and_left (are_compatible (pointer p) (bare w)) (match_as_parameters ps no_types) e, and_right (are_compatible (pointer p) (bare w)) (match_as_parameters ps no_types) e)
  match_head (array p n) w ps e = (and_left (are_compatible (array p n) (bare w)) (match_as_parameters ps no_types) e, and_right (are_compatible (array p n) (bare w)) (match_as_parameters ps no_types) e)
  match_head (struct n) w ps e = (and_left (are_compatible (struct n) (bare w)) (match_as_parameters ps no_types) e, and_right (are_compatible (struct n) (bare w)) (match_as_parameters ps no_types) e)
  match_head (function_type a qs) w ps e = (and_left (are_compatible (function_type a qs) (bare w)) (match_as_parameters ps no_types) e, and_right (are_compatible (function_type a qs) (bare w)) (match_as_parameters ps no_types) e)

  cover_head : (p q : CType) (ps qs : CTypes) → cover_parameters (more_types p ps) (more_types q qs) ≡ true → (covers (bare p) (bare q) ≡ true) × (cover_parameters ps qs ≡ true)
  cover_head (const p) q ps qs e = (and_left (covers p (bare q)) (cover_parameters ps qs) e, and_right (covers p (bare q)) (cover_parameters ps qs) e)
  cover_head void q ps qs e = (and_left (covers void (bare q)) (cover_parameters ps qs) e, and_right (covers void (bare q)) (cover_parameters ps qs) e)
  cover_head (integer k) q ps qs e = (and_left (covers (integer k) (bare q)) (cover_parameters ps qs) e, and_right (covers (integer k) (bare q)) (cover_parameters ps qs) e)
  cover_head (pointer p) q ps qs e = (and_left (covers (pointer p) (bare q)) (cover_parameters ps qs) e, and_right (covers (pointer p) (bare q)) (cover_parameters ps qs) e)
  cover_head (array p n) q ps qs e = (and_left (covers (array p n) (bare q)) (cover_parameters ps qs) e, and_right (covers (array p n) (bare q)) (cover_parameters ps qs) e)
  cover_head (struct n) q ps qs e = (and_left (covers (struct n) (bare q)) (cover_parameters ps qs) e, and_right (covers (struct n) (bare q)) (cover_parameters ps qs) e)
  cover_head (function_type a ts) q ps qs e = (and_left (covers (function_type a ts) (bare q)) (cover_parameters ps qs) e, and_right (covers (function_type a ts) (bare q)) (cover_parameters ps qs) e)

  record OneArgument (w : CType) (operands : List Operand) : Type 0 where
    p : CType
    q : CType
    value : Value
    gives : results operands ≡ of_value value ∷ []
    passes : map (λ (x : Operand). value_of x.result) operands ≡ value ∷ []
    compatible : are_compatible (bare p) (bare w) ≡ true
    covered : covers (bare p) (bare q) ≡ true
    given : IsGiven laid (bare q) value

  of_operand : (w p q : CType) (a : Tree) (x : Operand) → are_compatible (bare p) (bare w) ≡ true → covers (bare p) (bare q) ≡ true → IsValue a → kind_of a ≡ bare q → IsOperand laid a x → OneArgument w (x ∷ [])
  of_operand w p q a x m c v k h =
      let one = value_there a x.result h.1 v in
      record {
        p = p;
        q = q;
        value = one.0;
        gives = ap (λ (r : Result). r ∷ []) one.1;
        passes = ap (λ (r : Result). value_of r ∷ []) one.1;
        compatible = m;
        covered = c;
        given = subst (λ (t : CType). IsGiven laid t one.0) k one.2;
      }

  one_argument : (w : CType) (ps qs : CTypes) (args : Trees) (operands : List Operand) → match_as_parameters ps (more_types w no_types) ≡ true → cover_parameters ps qs ≡ true → FitParameters (listed args) qs → AreOperands laid every args operands
      → OneArgument w operands
  one_argument w no_types qs args operands m c f h = absurd (false≢true m)
  one_argument w (more_types (const p) ps) no_types args operands m c f h = absurd (false≢true c)
  one_argument w (more_types p ps) no_types args operands m c f h = absurd (false≢true c)
  one_argument w (more_types p ps) (more_types q qs) no_trees operands m c f h = absurd f
  one_argument w (more_types p ps) (more_types q qs) (more_trees a args) [] m c f h = absurd h
  one_argument w (more_types p ps) (more_types q qs) (more_trees a args) (x ∷ operands) m c f h =
      let head = match_head p w ps m in
      let cover = cover_head p q ps qs c in
      subst (λ (ys : List Operand). OneArgument w (x ∷ ys)) (sym (rest_none ps qs args operands head.1 cover.1 f.2 h.1)) (of_operand w p q a x head.0 cover.0 f.0 f.1 h.0)
    where
      rest_none : (ts us : CTypes) (trees : Trees) (xs : List Operand) → match_as_parameters ts no_types ≡ true → cover_parameters ts us ≡ true → FitParameters (listed trees) us → AreOperands laid every trees xs → xs ≡ []
      rest_none no_types no_types no_trees [] d e g i = refl
      rest_none no_types no_types no_trees (y ∷ ys) d e g i = absurd i
      rest_none no_types no_types (more_trees t trees) xs d e g i = absurd g
      rest_none no_types (more_types u us) trees xs d e g i = absurd (false≢true e)
      rest_none (more_types (const t) ts) us trees xs d e g i = absurd (false≢true d)
      rest_none (more_types t ts) us trees xs d e g i = absurd (false≢true d)

  like_integer : (x : CType) (k : Kind) → AreLike x (integer k) → x ≡ integer k
  like_integer x k (inl e) = e
  like_integer x k (inr (inl (a, b))) = absurd (false≢true b)
  like_integer x k (inr (inr (a, b))) = absurd (false≢true b)

  like_pointer : (x y : CType) → AreLike x y → IsTrue (points y) → IsTrue (points x)
  like_pointer x y (inl e) h = ap points e ∙ h
  like_pointer x y (inr (inl (a, b))) h = a
  like_pointer x y (inr (inr (a, b))) h = absurd (both y b h)
    where
      both : (t : CType) → IsTrue (is_function t) → IsTrue (points t) → ⊥
      both (function_type r ts) f g = false≢true g
      both t f g = false≢true f

  pointer_is : (t : CType) → IsTrue (points t) → (inner : CType) × (t ≡ pointer inner)
  pointer_is (pointer t) h = (t, refl)
  pointer_is t h = absurd (false≢true h)

  not_unset : (A : Type 0) (type : CType) (value : Value) → IsGiven laid type value → IsTrue (has_values (own_type type)) → A ⊎ (value ≡ unset) → A
  not_unset A type value given h (inl a) = a
  not_unset A type value given h (inr e) = absurd (false≢true (sym (given.set h) ∙ ap is_unset e))

  int_argument : (operands : List Operand) (one : OneArgument (integer Int) operands) → IsNumber Int one.value
  int_argument operands one =
      let first = compatible_like (bare one.p) (integer Int) one.compatible refl in
      let second = covered_like (bare one.p) (bare one.q) one.covered one.given.whole in
      let own : own_type (bare one.q) ≡ integer Int = like_integer (own_type (bare one.q)) Int (subst (λ (t : CType). AreLike (own_type (bare one.q)) t) (like_integer (own_type (bare one.p)) Int first) (back_like (own_type (bare one.p)) (own_type (bare one.q)) second)) in
      not_unset (IsNumber Int one.value) (bare one.q) one.value one.given (ap has_values own) (has_number laid (bare one.q) Int own one.value one.given.typed)

  text_argument : (operands : List Operand) (one : OneArgument (pointer (const (integer Char))) operands) → IsAddress one.value
  text_argument operands one =
      let first = compatible_like (bare one.p) (pointer (const (integer Char))) one.compatible refl in
      let second = covered_like (bare one.p) (bare one.q) one.covered one.given.whole in
      let is = pointer_is (own_type (bare one.q)) (like_pointer (own_type (bare one.q)) (own_type (bare one.p)) (back_like (own_type (bare one.p)) (own_type (bare one.q)) second) (like_pointer (own_type (bare one.p)) (pointer (const (integer Char))) first refl)) in
      not_unset (IsAddress one.value) (bare one.q) one.value one.given (ap has_values is.1) (has_address laid (bare one.q) is.0 is.1 one.value one.given.typed)

-- ---- the machine's own functions

abbrev AnswerExcused : Layout → Memory → List Result → Option Answer → Type 0
AnswerExcused laid memory given None = Unit {0}
AnswerExcused laid memory given (Some (answers value input output)) = Unit {0}
AnswerExcused laid memory given (Some (stops status)) = Unit {0}
AnswerExcused laid memory given (Some (refuses cause)) = cause ≡ OtherType → IsExcused laid memory given

module _ (laid : Layout) (memory : Memory) (operands : List Operand) (input output : List ℕ) where
  abbrev Answered : Option Answer → Type 0
  Answered o = AnswerExcused laid memory (results operands) o

  abbrev passed : List Value
  passed = map (λ (x : Operand). value_of x.result) operands

  put_excused : OneArgument laid (integer Int) operands → Answered (Some (put_character passed input output))
  put_excused one =
      let n = int_argument laid operands one in
      subst (λ (vs : List Value). Answered (Some (put_character vs input output))) (sym (one.passes ∙ ap (λ (v : Value). v ∷ []) n.is)) tt

  exit_excused : OneArgument laid (integer Int) operands → Answered (Some (end_program passed))
  exit_excused one =
      let n = int_argument laid operands one in
      subst (λ (vs : List Value). Answered (Some (end_program vs))) (sym (one.passes ∙ ap (λ (v : Value). v ∷ []) n.is)) tt

  get_excused : (left : List ℕ) → Answered (Some (get_character left output))
  get_excused [] = tt
  get_excused (byte ∷ left) = tt

  line_excused : (at : At) → IsAmong (of_value (pointer_value (to at))) (results operands) → (text : Outcome (List ℕ) Cause) → text_at laid memory (most_in laid (look memory at.name)) at ≡ text → Answered (Some (written_line text input output))
  line_excused at there (Ok bytes) e = tt
  line_excused at there (Err cause) e = λ f. inr (inr (record { at = at; there = there; text = e ∙ ap (λ c. Err c) f }))

  puts_excused : OneArgument laid (pointer (const (integer Char))) operands → Answered (Some (put_line laid memory passed input output))
  puts_excused one =
      let a = text_argument laid operands one in
      subst (λ (vs : List Value). Answered (Some (put_line laid memory vs input output))) (sym (one.passes ∙ ap (λ (v : Value). v ∷ []) a.is)) (by_pointer a.p (one.gives ∙ ap (λ (v : Value). of_value v ∷ []) a.is))
    where
      by_pointer : (p : Pointer) → results operands ≡ of_value (pointer_value p) ∷ [] → Answered (Some (put_line laid memory (pointer_value p ∷ []) input output))
      by_pointer null e = λ f. absurd (cc)
      by_pointer (to at) e = line_excused at (subst (λ (rs : List Result). IsAmong (of_value (pointer_value (to at))) rs) (sym e) (inl refl)) (text_at laid memory (most_in laid (look memory at.name)) at) refl

  abbrev Meaning : Primitive → Answer
  Meaning one = one.meaning laid memory passed input output

  among_excused : (name : List ℕ) (declared : CType) (table : List Primitive) → ((one : Primitive) → IsAmong one table → is_primitive name declared one ≡ true → Answered (Some (Meaning one)))
      → Answered (option_map (λ (one : Primitive). Meaning one) (primitive_in table name declared))
  among_excused name declared [] h = tt
  among_excused name declared (first ∷ table) h = by_test (is_primitive name declared first) refl (among_excused name declared table (λ one a. h one (inr a)))
    where
      by_test : (b : Bool) → is_primitive name declared first ≡ b → Answered (option_map (λ (one : Primitive). Meaning one) (primitive_in table name declared))
          → Answered (option_map (λ (one : Primitive). Meaning one) (if b then Some first else primitive_in table name declared))
      by_test true e later = h first (inl refl) e
      by_test false e later = later

  -- the argument of a function that the machine has, of one parameter
  the_argument : (declared type kind w result : CType) (args : Trees) → are_compatible declared (function_type result (more_types w no_types)) ≡ true → covers declared type ≡ true → FitsCall type (listed args) kind → AreOperands laid every args operands
      → OneArgument laid w operands
  the_argument (function_type a ps) (function_type b qs) kind w result args m c f h =
      one_argument laid w ps qs args operands (and_right (are_compatible a result) (match_as_parameters ps (more_types w no_types)) m) (and_right (covers a b) (cover_parameters ps qs) c) f.0 h
  the_argument (function_type a ps) type kind w result args m c f h = absurd (false≢true c)
  the_argument declared type kind w result args m c f h = absurd (false≢true m)

  module _ (name : List ℕ) (declared type kind : CType) (args : Trees) (c : covers declared type ≡ true) (f : FitsCall type (listed args) kind) (h : AreOperands laid every args operands) where
    abbrev Answering : Primitive → Type 0
    Answering one = is_primitive name declared one ≡ true → Answered (Some (Meaning one))

    each_excused : (one : Primitive) → IsAmong one primitives → Answering one
    each_excused one (inl e) =
        subst Answering (sym e) (λ is. put_excused (the_argument declared type kind (integer Int) (integer Int) args (and_right (bytes_eq name (codes "putchar")) (are_compatible declared (function_type (integer Int) (more_types (integer Int) no_types))) is) c f h))
    each_excused one (inr (inl e)) = subst Answering (sym e) (λ is. get_excused input)
    each_excused one (inr (inr (inl e))) =
        subst Answering (sym e) (λ is. puts_excused (the_argument declared type kind (pointer (const (integer Char))) (integer Int) args
        (and_right (bytes_eq name (codes "puts")) (are_compatible declared (function_type (integer Int) (more_types (pointer (const (integer Char))) no_types))) is) c f h))
    each_excused one (inr (inr (inr (inl e)))) =
        subst Answering (sym e) (λ is. exit_excused (the_argument declared type kind (integer Int) void args (and_right (bytes_eq name (codes "exit")) (are_compatible declared (function_type void (more_types (integer Int) no_types))) is) c f h))
    each_excused one (inr (inr (inr (inr e)))) = absurd e

    prim_excused : Answered (Prim name declared laid memory passed input output)
    prim_excused = among_excused name declared primitives each_excused

-- ---- nodes

module _ (scene : Scene) (sound : IsTypedProgram scene.program) (world : World) (well : IsTypedWorld scene.program world) (locks : List At) (answer : CType) where
  abbrev its : Layout
  its = layout scene.program

  abbrev Excuses : List Result → Move Run Hole → Type 0
  Excuses given move = IsExcusedMove its world.memory given move

  did_excused : (tree : Tree) (operands : List Operand) (kind : CType) (place : Place) (own : List At) (did : Did) → DidFits scene world tree operands did → Excuses (results operands) (as_move kind place own did)
  did_excused tree operands kind place own (gives after result new) fits = tt
  did_excused tree operands kind place own (breaks cause) fits = λ e. pick (fits e)
    where
      pick : IsMistyped its world.memory (results operands) ⊎ IsTooFar its world.memory (results operands) → IsExcused its world.memory (results operands)
      pick (inl m) = inl m
      pick (inr m) = inr (inl m)
  did_excused tree operands kind place own (ends_with status) fits = tt

  told_excused : (given : List Result) (place : Place) (causes : List Cause) (b : Bool) (following : Bool → Run) → (IsAmong OtherType causes → ⊥) → Excuses given (by_truth world place (told (earliest causes) b) following)
  told_excused given place [] b following apart = tt
  told_excused given place (cause ∷ causes) b following apart = λ e. absurd (apart (earliest_among (cause ∷ causes) OtherType (ap Some e)))

  -- the truth of a scalar is told, but for an object that can't be used
  pub truth_excused : (given : List Result) (place : Place) (a : Tree) (result : Result) → IsResult its a result → IsValue a → IsTrue (is_scalar (kind_of a)) → (following : Bool → Run)
      → Excuses given (by_truth world place (truth_of world.memory (value_of result)) following)
  truth_excused given place a result h v scalar following =
      let one = value_there its a result h v in
      subst (λ (r : Result). Excuses given (by_truth world place (truth_of world.memory (value_of r)) following)) (sym one.1) (by_scalar one.0 (scalar_given its (kind_of a) scalar one.0 one.2))
    where
      by_scalar : (value : Value) → ((k : Kind) × (integer_kind (kind_of a) ≡ Some k) × IsNumber k value) ⊎ ((inner : CType) × (target (kind_of a) ≡ Some inner) × IsAddress value)
          → Excuses given (by_truth world place (truth_of world.memory value) following)
      by_scalar value (inl (k, e, n)) = subst (λ (w : Value). Excuses given (by_truth world place (truth_of world.memory w) following)) (sym n.is) tt
      by_scalar value (inr (inner, e, p)) =
          subst (λ (w : Value). Excuses given (by_truth world place (truth_of world.memory w) following)) (sym p.is)
          (told_excused given place (use_causes world.memory p.p) (not (is_null p.p)) following (use_apart world.memory p.p))

  operand_excused : (given : List Result) (place : Place) (xs : List Operand) (a : Tree) → ((x : Operand) × (xs ≡ x ∷ []) × IsOperand its a x) → (following : Operand → Move Run Hole)
      → ((x : Operand) → IsOperand its a x → Excuses given (following x)) → Excuses given (on_operand place xs following)
  operand_excused given place xs a (x, e, is) following h = subst (λ (ys : List Operand). Excuses given (on_operand place ys following)) (sym e) (h x is)

  truths_excused : (given : List Result) (place : Place) (xs : List Operand) (a : Tree) → ((x : Operand) × (xs ≡ x ∷ []) × IsOperand its a x) → IsValue a → IsTrue (is_scalar (kind_of a)) → (following : Bool → Run)
      → Excuses given (on_operand place xs (λ x. by_truth world place (truth_of world.memory (value_of x.result)) following))
  truths_excused given place xs a one v scalar following = operand_excused given place xs a one _ (λ x is. truth_excused given place a x.result is.1 v scalar following)

  sized_excused : (given : List Result) (kind : CType) (spans : Spans) (a : Tree) (place : Place) (runs : Runs) → IsSome (size_of scene.program.table (kind_of a)) → kind ≡ integer ULong → AllComeFrom its nothing (more_trees a no_trees) runs
      → Excuses given (as_move kind place [] (number_alone world kind (pos (its.size (kind_of_run (nth_run 0 runs))))))
  sized_excused given kind spans a place runs complete e h =
      let n = size_number scene.program.table sound.scope.table (kind_of a) complete in
      let size : its.size (kind_of_run (nth_run 0 runs)) ≡ n.0 = ap its.size (sized_first its a runs h) ∙ ap or_no_size n.1 in
      subst (λ (m : ℕ). Excuses given (as_move kind place [] (number_alone world kind (pos m)))) (sym size)
      (move_more its world.memory [] given (λ r f. absurd f) _
      (did_excused (node label.sizeof_tree kind spans (more_trees a no_trees)) [] kind place [] (number_alone world kind (pos n.0))
      (number_fits scene world well.memory label.sizeof_tree kind spans (more_trees a no_trees) [] ULong (pos n.0) (ap integer_kind e) n.2 refl)))

  -- calls
  answer_excused : (given : List Result) (kind : CType) (place : Place) (found : Option Answer) → AnswerExcused its world.memory given found → Excuses given (answered world kind place found)
  answer_excused given kind place None h = λ e. absurd (cc)
  answer_excused given kind place (Some (answers value input output)) h = tt
  answer_excused given kind place (Some (stops status)) h = tt
  answer_excused given kind place (Some (refuses cause)) h = h

  module _ (kind : CType) (place : Place) (operands : List Operand) (at : ℕ) (type : CType) (args : Trees) (p : FitsCall type (listed args) kind) (h : AreOperands its every args operands) where
    undefined_excused : (entry : Option Declaration) → IfSome entry (λ one. IsTrue (is_function_sort one.sort && covers one.kind type)) → IsSome entry
        → Excuses (results operands) (undefined_called scene world kind place (map (λ x. value_of x.result) operands) entry)
    undefined_excused None f is = absurd (false≢true is)
    undefined_excused (Some entry) f is =
        answer_excused (results operands) kind place (Prim entry.name entry.kind its world.memory (map (λ x. value_of x.result) operands) world.input world.output)
        (prim_excused its world.memory operands world.input world.output entry.name entry.kind type kind args (and_right (is_function_sort entry.sort) (covers entry.kind type) f) p h)

    called_excused : (o : Option Definition) → IfSome (declaration_of scene.program at) (λ one. IsTrue (is_function_sort one.sort && covers one.kind type)) → IsSome (declaration_of scene.program at)
        → Excuses (results operands) (called scene world kind place (map (λ x. value_of x.result) operands) at o)
    called_excused None f is = undefined_excused (declaration_of scene.program at) f is
    called_excused (Some definition) f is = tt

  call_excused : (kind : CType) (spans : Spans) (parts : Trees) → IsTyped scene.program answer (node label.call kind spans parts) → (place : Place) (runs : Runs) (operands : List Operand)
      → AllComeFrom its but_first parts runs → AreOperands its but_first parts operands
      → Excuses (results operands) (call_step scene world kind place (map (λ x. value_of x.result) operands) (function_named (nth_run 0 runs)))
  call_excused kind spans (more_trees (node (label.function at) type inner no_trees) args) t place runs operands h g =
      let first = typed_parts scene.program answer label.call kind spans (more_trees (node (label.function at) type inner no_trees) args) t in
      subst (λ (o : Option ℕ). Excuses (results operands) (call_step scene world kind place (map (λ x. value_of x.result) operands) o)) (sym (named_first scene sound world well answer at type inner runs args h))
      (called_excused kind place operands at type args t.typed.0 g (definition_of scene.program at) first.0.typed.0.0 first.0.typed.0.1)
  call_excused kind spans parts t place runs operands h g = absurd t.typed.0

  plain_excused : (form : Label) (kind : CType) (spans : Spans) (parts : Trees) → IsTyped scene.program answer (node form kind spans parts) → (place : Place) (runs : Runs) (operands : List Operand) → is_operated form ≡ true
      → AreOperands its (open_of form) parts operands → Excuses (results operands) (form_step scene world locks form kind place runs operands)
  plain_excused form kind spans parts t place runs operands is g =
      subst (Excuses (results operands)) (sym (operated_step scene world locks form kind place runs operands is))
      (did_excused (node form kind spans parts) operands kind place (locks_in_all runs) (operate scene world locks form kind operands)
      (node_fits scene sound.scope world locks well.memory answer t.breaks t.continues t.labels form kind spans parts operands is t.typed.0 t.proper
      (plain_first scene.program sound.scope (scene_in scene.program answer t.breaks t.continues t.labels) refl refl form kind spans parts t.typed t.proper) g))

  form_excused : (form : Label) (kind : CType) (spans : Spans) (parts : Trees) → is_statement form ≡ false → IsTyped scene.program answer (node form kind spans parts) → (place : Place) (runs : Runs) (operands : List Operand)
      → AllComeFrom its (open_of form) parts runs → AreOperands its (open_of form) parts operands → Excuses (results operands) (form_step scene world locks form kind place runs operands)
  form_excused label.both kind spans (more_trees a (more_trees b no_trees)) is t place runs operands h g =
      truths_excused (results operands) place operands a (one_first its a (more_trees b no_trees) operands g) t.typed.0.0.0 t.typed.0.0.1 _
  form_excused label.both kind spans parts is t place runs operands h g = absurd t.typed.0
  form_excused label.either kind spans (more_trees a (more_trees b no_trees)) is t place runs operands h g =
      truths_excused (results operands) place operands a (one_first its a (more_trees b no_trees) operands g) t.typed.0.0.0 t.typed.0.0.1 _
  form_excused label.either kind spans parts is t place runs operands h g = absurd t.typed.0
  form_excused label.choose kind spans (more_trees a (more_trees b (more_trees c no_trees))) is t place runs operands h g =
      truths_excused (results operands) place operands a (one_first its a (more_trees b (more_trees c no_trees)) operands g) t.typed.0.0.0 t.typed.0.0.1 _
  form_excused label.choose kind spans parts is t place runs operands h g = absurd t.typed.0
  form_excused label.comma kind spans parts is t place runs operands h g = tt
  form_excused label.sizeof_tree kind spans (more_trees a no_trees) is t place runs operands h g = sized_excused (results operands) kind spans a place runs t.typed.0.1 t.typed.0.2 h
  form_excused label.sizeof_tree kind spans parts is t place runs operands h g = absurd t.typed.0
  form_excused label.call kind spans parts is t place runs operands h g = call_excused kind spans parts t place runs operands h g
  form_excused form kind spans parts is t place runs operands h g = plain_excused form kind spans parts t place runs operands (ap not is) g

  -- the second operand of && or ||
  second_truth : (form : Label) → IsLogicalForm form → (place : Standing) (kind : CType) (parts : Trees) → Fits place form kind (listed parts) → (given : List Result) (at : Place) (operands : List Operand) → AreOperands its every (only 1 parts) operands
      → (following : Bool → Run) → Excuses given (on_operand at operands (λ x. by_truth world at (truth_of world.memory (value_of x.result)) following))
  second_truth form (inl e) place kind parts fits given at operands g following = by_parts parts (subst (λ (f : Label). Fits place f kind (listed parts)) e fits) g
    where
      by_parts : (all : Trees) → Fits place label.both kind (listed all) → AreOperands its every (only 1 all) operands → Excuses given (on_operand at operands (λ x. by_truth world at (truth_of world.memory (value_of x.result)) following))
      by_parts (more_trees a (more_trees b no_trees)) f k = truths_excused given at operands b (one_every its b operands k) f.1.0 f.1.1 following
      by_parts all f k = absurd f
  second_truth form (inr e) place kind parts fits given at operands g following = by_parts parts (subst (λ (f : Label). Fits place f kind (listed parts)) e fits) g
    where
      by_parts : (all : Trees) → Fits place label.either kind (listed all) → AreOperands its every (only 1 all) operands → Excuses given (on_operand at operands (λ x. by_truth world at (truth_of world.memory (value_of x.result)) following))
      by_parts (more_trees a (more_trees b no_trees)) f k = truths_excused given at operands b (one_every its b operands k) f.1.0 f.1.1 following
      by_parts all f k = absurd f

  -- an operand that was chosen
  picked_excused : (given : List Result) (at : Place) (operands : List Operand) (b : Tree) (following : Operand → Run) → AreOperands its every (more_trees b no_trees) operands → Excuses given (on_operand at operands (λ x. goes world (following x)))
  picked_excused given at operands b following g = operand_excused given at operands b (one_every its b operands g) (λ x. goes world (following x)) (λ x is. tt)

  comma_excused : (place : Standing) (kind : CType) (parts : Trees) → Fits place label.comma kind (listed parts) → (given : List Result) (at : Place) (operands : List Operand) (following : Operand → Run) → AreOperands its every (only 1 parts) operands
      → Excuses given (on_operand at operands (λ x. goes world (following x)))
  comma_excused place kind (more_trees a (more_trees b no_trees)) fits given at operands following g = picked_excused given at operands b following g
  comma_excused place kind parts fits given at operands following g = absurd fits

  choice_excused : (place : Standing) (kind : CType) (parts : Trees) → Fits place label.choose kind (listed parts) → (given : List Result) (at : Place) (operands : List Operand) (following : Operand → Run)
      → AreOperands its every (only 1 parts) operands ⊎ AreOperands its every (only 2 parts) operands → Excuses given (on_operand at operands (λ x. goes world (following x)))
  choice_excused place kind (more_trees a (more_trees b (more_trees c no_trees))) fits given at operands following (inl g) = picked_excused given at operands b following g
  choice_excused place kind (more_trees a (more_trees b (more_trees c no_trees))) fits given at operands following (inr g) = picked_excused given at operands c following g
  choice_excused place kind parts fits given at operands following g = absurd fits

  doing_excused : (form : Label) (kind : CType) (spans : Spans) (parts : Trees) → is_statement form ≡ false → IsTyped scene.program answer (node form kind spans parts) → (doing : Doing) (at : Place) (runs : Runs) (operands : List Operand)
      → RunsGoOn its (node form kind spans parts) doing runs → operands_in (open_parts doing) runs ≡ Some operands → Excuses (results operands) (node_step scene world locks doing kind at runs operands)
  doing_excused form kind spans parts is t (evaluates other) at runs operands h e =
      subst (λ (f : Label). AllComeFrom its (open_of f) parts runs → operands_in (open_of f) runs ≡ Some operands → Excuses (results operands) (form_step scene world locks f kind at runs operands)) (sym h.0)
      (λ c g. form_excused form kind spans parts is t at runs operands c (operands_come its (open_of form) parts runs operands c g)) h.1 e
  doing_excused form kind spans parts is t gives_truth at runs operands h e =
      second_truth form (form_of_logical form h.0) (scene_in scene.program answer t.breaks t.continues t.labels) kind parts t.typed.0 (results operands) at operands (operands_come its every (only 1 parts) runs operands h.1 e) _
  doing_excused form kind spans parts is t gives_value at runs operands (inl (e, c)) g =
      comma_excused (scene_in scene.program answer t.breaks t.continues t.labels) kind parts (subst (λ (f : Label). Fits (scene_in scene.program answer t.breaks t.continues t.labels) f kind (listed parts)) e t.typed.0)
      (results operands) at operands (λ x. done kind x.result (locks_in_all runs)) (operands_come its every (only 1 parts) runs operands c g)
  doing_excused form kind spans parts is t gives_value at runs operands (inr (e, inl c)) g =
      choice_excused (scene_in scene.program answer t.breaks t.continues t.labels) kind parts (subst (λ (f : Label). Fits (scene_in scene.program answer t.breaks t.continues t.labels) f kind (listed parts)) e t.typed.0)
      (results operands) at operands (λ x. done kind x.result (locks_in_all runs)) (inl (operands_come its every (only 1 parts) runs operands c g))
  doing_excused form kind spans parts is t gives_value at runs operands (inr (e, inr c)) g =
      choice_excused (scene_in scene.program answer t.breaks t.continues t.labels) kind parts (subst (λ (f : Label). Fits (scene_in scene.program answer t.breaks t.continues t.labels) f kind (listed parts)) e t.typed.0)
      (results operands) at operands (λ x. done kind x.result (locks_in_all runs)) (inr (operands_come its every (only 2 parts) runs operands c g))

  own_excused : (tree : Tree) → IsTyped scene.program answer tree → is_expression tree ≡ true → (doing : Doing) (at : Place) (runs : Runs) (operands : List Operand) → RunsGoOn its tree doing runs → operands_in (open_parts doing) runs ≡ Some operands
      → Excuses (results_in_all runs) (node_step scene world locks doing (kind_of tree) at runs operands)
  own_excused (node form kind spans parts) t is doing at runs operands h e =
      move_more its world.memory (results operands) (results_in_all runs) (operands_among (open_parts doing) runs operands e) (node_step scene world locks doing kind at runs operands)
      (doing_excused form kind spans parts (not_of (is_statement form) (and_left (not (is_statement form)) (are_expressions parts) is)) t doing at runs operands h e)
    where
      not_of : (b : Bool) → not b ≡ true → b ≡ false
      not_of true f = absurd (false≢true f)
      not_of false f = refl

  -- ---- all steps of a tree

  abbrev PartsExcuse : List Result → Move Runs Holes → Type 0
  PartsExcuse given move = IsExcusedMove its world.memory given move

  abbrev AnyExcused : Open → Runs → Type 0
  AnyExcused opens runs = (move : Move Runs Holes) → IsAmong move (moves_in scene world locks opens runs) → PartsExcuse (results_in_all runs) move

  mapped_excused : (given : List Result) (doing : Doing) (kind : CType) (at : Place) (ms : List (Move Runs Holes)) → ((move : Move Runs Holes) → IsAmong move ms → PartsExcuse given move)
      → (move : Move Run Hole) → IsAmong move (map (lifted (to_do doing kind at) (within doing kind at)) ms) → Excuses given move
  mapped_excused given doing kind at ms h move e =
      let from = among-map_from (lifted (to_do doing kind at) (within doing kind at)) move ms e in
      subst (Excuses given) (sym from.2) (lifted_excused its world.memory given (to_do doing kind at) (within doing kind at) from.0 (h from.0 from.1))

  either_excused : (given : List Result) (o : Option (List Operand)) (own : List Operand → Move Run Hole) (inner : List (Move Run Hole)) → ((operands : List Operand) → o ≡ Some operands → Excuses given (own operands))
      → ((move : Move Run Hole) → IsAmong move inner → Excuses given move) → (move : Move Run Hole) → IsAmong move (own_or_inner o own inner) → Excuses given move
  either_excused given (Some operands) own inner h k move (inl e) = subst (Excuses given) (sym e) (h operands refl)
  either_excused given (Some operands) own inner h k move (inr e) = absurd e
  either_excused given None own inner h k move e = k move e

  expressions_only : (n : ℕ) (parts : Trees) → are_expressions parts ≡ true → are_expressions (only n parts) ≡ true
  expressions_only n no_trees h = refl
  expressions_only zero (more_trees first rest) h = and_from (is_expression first) true (and_left (is_expression first) (are_expressions rest) h) refl
  expressions_only (suc n) (more_trees first rest) h = expressions_only n rest (and_right (is_expression first) (are_expressions rest) h)

  below_expressions : (tree : Tree) → is_expression tree ≡ true → are_expressions (trees_of tree) ≡ true
  below_expressions (node form kind spans parts) h = and_right (not (is_statement form)) (are_expressions parts) h

  whole_typed : (tree : Tree) → IsTyped scene.program answer tree → AllTyped scene.program answer (trees_of tree)
  whole_typed (node form kind spans parts) t = typed_parts scene.program answer form kind spans parts t

  inner_excused : (tree : Tree) (doing : Doing) (runs : Runs) → RunsGoOn its tree doing runs → AllTyped scene.program answer (trees_of tree) → are_expressions (trees_of tree) ≡ true
      → ((opens : Open) (parts : Trees) → AllTyped scene.program answer parts → are_expressions parts ≡ true → AllComeFrom its opens parts runs → AnyExcused opens runs) → AnyExcused (open_parts doing) runs
  inner_excused tree (evaluates form) runs h t is k = k (open_of form) (trees_of tree) t is h.1
  inner_excused tree gives_truth runs h t is k = k every (only 1 (trees_of tree)) (typed_only scene.program answer 1 (trees_of tree) t) (expressions_only 1 (trees_of tree) is) h.1
  inner_excused tree gives_value runs (inl (e, h)) t is k = k every (only 1 (trees_of tree)) (typed_only scene.program answer 1 (trees_of tree) t) (expressions_only 1 (trees_of tree) is) h
  inner_excused tree gives_value runs (inr (e, inl h)) t is k = k every (only 1 (trees_of tree)) (typed_only scene.program answer 1 (trees_of tree) t) (expressions_only 1 (trees_of tree) is) h
  inner_excused tree gives_value runs (inr (e, inr h)) t is k = k every (only 2 (trees_of tree)) (typed_only scene.program answer 2 (trees_of tree) t) (expressions_only 2 (trees_of tree) is) h

  first_mapped : (first : Run) (rest : Runs) (b : Bool) → (IsTrue b → (move : Move Run Hole) → IsAmong move (moves scene world locks first) → Excuses (results_in first) move)
      → (move : Move Runs Holes) → IsAmong move (where_open b (map (lifted (λ run. more_runs run rest) (λ hole. in_first hole rest)) (moves scene world locks first))) → PartsExcuse (results_in first ++ results_in_all rest) move
  first_mapped first rest true k move e =
      let from = among-map_from (lifted (λ run. more_runs run rest) (λ hole. in_first hole rest)) move (moves scene world locks first) e in
      subst (PartsExcuse (results_in first ++ results_in_all rest)) (sym from.2)
      (lifted_excused its world.memory (results_in first ++ results_in_all rest) (λ run. more_runs run rest) (λ hole. in_first hole rest) from.0
      (move_more its world.memory (results_in first) (results_in first ++ results_in_all rest) (λ r f. among_left r (results_in first) (results_in_all rest) f) from.0 (k refl from.0 from.1)))
  first_mapped first rest false k move e = absurd e

  rest_mapped : (first : Run) (rest : Runs) (opens : Open) → AnyExcused opens rest → (move : Move Runs Holes) → IsAmong move (map (lifted (more_runs first) (in_others first)) (moves_in scene world locks opens rest))
      → PartsExcuse (results_in first ++ results_in_all rest) move
  rest_mapped first rest opens k move e =
      let from = among-map_from (lifted (more_runs first) (in_others first)) move (moves_in scene world locks opens rest) e in
      subst (PartsExcuse (results_in first ++ results_in_all rest)) (sym from.2)
      (lifted_excused its world.memory (results_in first ++ results_in_all rest) (more_runs first) (in_others first) from.0
      (move_more its world.memory (results_in_all rest) (results_in first ++ results_in_all rest) (λ r f. among_right r (results_in first) (results_in_all rest) f) from.0 (k from.0 from.1)))

  joined_excused : (P : Move Runs Holes → Type 0) (xs ys : List (Move Runs Holes)) → ((move : Move Runs Holes) → IsAmong move xs → P move) → ((move : Move Runs Holes) → IsAmong move ys → P move)
      → (move : Move Runs Holes) → IsAmong move (xs ++ ys) → P move
  joined_excused P xs ys h k move e = pick (among_either move xs ys e)
    where
      pick : IsAmong move xs ⊎ IsAmong move ys → P move
      pick (inl a) = h move a
      pick (inr b) = k move b

  part_open : (b : Bool) (P Q : Type 0) → MatchBool b P Q → IsTrue b → P
  part_open true P Q h is = h
  part_open false P Q h is = absurd (false≢true is)

  mutual
    -- Where a step of a typed expression has the cause `type`, that is so by what memory holds.
    pub moves_excused : (run : Run) (tree : Tree) → IsTyped scene.program answer tree → is_expression tree ≡ true → ComesFrom its tree run → (move : Move Run Hole) → IsAmong move (moves scene world locks run) → Excuses (results_in run) move
    moves_excused (done kind result own) tree t is h move e = absurd e
    moves_excused (to_do doing kind at runs) tree t is h move e =
        either_excused (results_in_all runs) (operands_in (open_parts doing) runs) (node_step scene world locks doing (kind_of tree) at runs)
        (map (lifted (to_do doing (kind_of tree) at) (within doing (kind_of tree) at)) (moves_in scene world locks (open_parts doing) runs))
        (λ operands f. own_excused tree t is doing at runs operands h.1 f)
        (mapped_excused (results_in_all runs) doing (kind_of tree) at (moves_in scene world locks (open_parts doing) runs)
        (inner_excused tree doing runs h.1 (whole_typed tree t) (below_expressions tree is) (moves_in_excused runs)))
        move (subst (λ (k : CType). IsAmong move (moves scene world locks (to_do doing k at runs))) h.0 e)

    moves_in_excused : (runs : Runs) (opens : Open) (parts : Trees) → AllTyped scene.program answer parts → are_expressions parts ≡ true → AllComeFrom its opens parts runs → AnyExcused opens runs
    moves_in_excused no_runs opens parts t is h move e = absurd e
    moves_in_excused (more_runs first rest) opens no_trees t is h move e = absurd h
    moves_in_excused (more_runs first rest) opens (more_trees tree parts) t is h move e =
        joined_excused (PartsExcuse (results_in first ++ results_in_all rest))
        (where_open (first_open opens) (map (lifted (λ run. more_runs run rest) (λ hole. in_first hole rest)) (moves scene world locks first)))
        (map (lifted (more_runs first) (in_others first)) (moves_in scene world locks (others_open opens) rest))
        (first_mapped first rest (first_open opens)
        (λ open_first. moves_excused first tree t.0 (and_left (is_expression tree) (are_expressions parts) is) (part_open (first_open opens) (ComesFrom its tree first) (first ≡ begun tree) h.0 open_first)))
        (rest_mapped first rest (others_open opens) (moves_in_excused rest (others_open opens) parts t.1 (and_right (is_expression tree) (are_expressions parts) is) h.1)) move e
