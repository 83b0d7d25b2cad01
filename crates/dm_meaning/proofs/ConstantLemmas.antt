-- The machine evaluates an integer constant expression to its value, by steps that change nothing else, or its evaluation is undefined, as
-- where a constant in it isn't a value of its type.
use Rattle.std.specs.Prelude.{◌≡◌, refl, ◌⊎◌, ℕ, ◌+◌, Bool, true, false, not, ◌&&◌, ◌||◌, IsTrue, is_some, List, [], ◌∷◌, ◌++◌, slice_get, Option, Some, None, option_map, option_and_then, ℤ, pos, if◌then◌else◌}
use Rattle.std.specs.Result.{result_ok}
use Rattle.std.proofs.Common.{arith, ap, sym, ◌∙◌, subst, inl, inr}
use Rattle.dm_token.specs.declared.place.Place.{Place}
use Rattle.dm_int.specs.declared.Kind.{Kind}
use Rattle.dm_int.specs.declared.Kind.TheVariants.{Bool as CBool, Char, SChar, UChar, Short, UShort, Int, UInt, Long, ULong, LLong, ULLong}
use Rattle.dm_int.specs.declared.Op.{Op}
use Rattle.dm_int.specs.Kinds as kinds
use Rattle.dm_int.specs.Operators as operators
use Rattle.dm_int.specs.Ranges.{in_range-convert}
use Rattle.dm_type.specs.CTypes.{CType, void, integer, pointer, array, struct, function as function_type, const, bare}
use Rattle.dm_type.specs.Layouts.{size_of}
use Rattle.dm_tree.specs.declared.tree.Sign.{Sign}
use Rattle.dm_tree.specs.declared.tree.Sign.TheVariants.{Plus, Minus, Complement, Not}
use Rattle.dm_tree.specs.declared.unit.Sort.{Sort}
use Rattle.dm_tree.specs.declared.unit.Sort.TheVariants.{Object, Function, Typedef, Enumerator, Tag}
use Rattle.dm_tree.specs.Constants as constants
use Rattle.dm_tree.specs.Constants.{kind_if_integer, integer_kind, is_constant_form, constant_forms, has_constant_form, value_if_enumerator, enumerator_value, constant_value, constant_values, signed_in, operated_in, operated_value, signed_value, converted_to}
use Rattle.dm_tree.specs.Evaluation.{is_true, is_right, unary_value}
use Rattle.dm_tree.specs.Scenes.{Scene as TypeScene}
use Rattle.dm_tree.specs.Trees.{Label, number, enumerator, literal, object, function, read, decay, convert, address, follow, member, unary, binary, both, either, choose, comma, store, update, count, call, sizeof_tree, sizeof_kind, block, declare, full, empty, if_statement, switch, case, default, while_loop, do_loop, for_loop, break, continue, return, Spans, Tree, Trees, node, no_trees, more_trees, kind_of}
use Rattle.dm_tree.specs.Typing.{IsWellTyped}
use Rattle.dm_tree.specs.Units.{Declaration}
use Rattle.dm_meaning.specs.declared.cause.Cause.TheVariants.{OtherType}
use Rattle.dm_meaning.specs.Among.{IsAmong}
use Rattle.dm_meaning.specs.Values.{At, integer_value}
use Rattle.dm_meaning.specs.Programs.{Program, layout, or_zero, constant_of}
use Rattle.dm_meaning.specs.Operations.{of_value, Operand, Objects, World, Scene, typed_bare, typed, number_of_sort, enumerator_in, provided, plain, is_of_kind, number_alone, faulted, signed, combined, convert_bare, truth_in, truth_of}
use Rattle.dm_meaning.specs.Running.{Doing, evaluates, gives_truth, gives_value, Run, done, to_do, Runs, no_runs, more_runs, begun, all_begun, locks_in, locks_in_all, nothing, first_open, open_parts, operands_in, Hole, here, within, in_first, in_others, filled_in, IsOpen}
use Rattle.dm_meaning.specs.Expressions.{as_move, node_step, own_or_inner, kind_of_run, by_truth, both_chosen, either_chosen, operand_chosen}
use Rattle.dm_meaning.proofs.OptionLemmas.{none_is_some, some_is_some, bound_some, mapped_some, is_some_some, without_fault, where_met, and_left, and_right}
use Rattle.dm_meaning.proofs.QuietLemmas.{went, QuietStep, Quietly, quietly_then, quietly_inside, Fails, fails_later, fails_inside}

-- ---- types of integers

bare_if : (kind : CType) (k : Kind) → kind_if_integer kind ≡ Some k → kind ≡ integer k
bare_if void k e = absurd (none_is_some k e)
bare_if (integer j) k e = ap integer (some_is_some j k e)
bare_if (pointer type) k e = absurd (none_is_some k e)
bare_if (array type length) k e = absurd (none_is_some k e)
bare_if (struct n) k e = absurd (none_is_some k e)
bare_if (function_type result parameters) k e = absurd (none_is_some k e)
bare_if (const type) k e = absurd (none_is_some k e)

pub bare_is : (kind : CType) (k : Kind) → integer_kind kind ≡ Some k → bare kind ≡ integer k
bare_is kind k e = bare_if (bare kind) k e

pub typed_is : (kind : CType) (k : Kind) (z : ℤ) → integer_kind kind ≡ Some k → typed kind z ≡ integer_value k z
typed_is kind k z e = ap (λ b. typed_bare b z) (bare_is kind k e)

-- ---- trees in which nothing is evaluated

abbrev mutual
  pub no_locks : (tree : Tree) → locks_in (begun tree) ≡ []
  no_locks (node label kind spans parts) = no_locks_all parts

  pub no_locks_all : (trees : Trees) → locks_in_all (all_begun trees) ≡ []
  no_locks_all no_trees = refl
  no_locks_all (more_trees first rest) = ap (λ l. l ++ locks_in_all (all_begun rest)) (no_locks first) ∙ no_locks_all rest

none_open : (parts : Runs) → operands_in nothing parts ≡ Some []
none_open no_runs = refl
none_open (more_runs first rest) = none_open rest

pub kind_begun : (tree : Tree) → kind_of_run (begun tree) ≡ kind_of tree
kind_begun (node label kind spans parts) = refl

-- ---- the step of a node whose operands are evaluated

pub own_step : {M : Type 0} (o : Option (List Operand)) (operands : List Operand) (own : List Operand → M) (inner : List M) (m : M)
    → o ≡ Some operands → m ≡ own operands → IsAmong m (own_or_inner o own inner)
own_step (Some given) operands own inner m e k = inl (k ∙ ap own (sym (some_is_some given operands e)))
own_step None operands own inner m e k = absurd (none_is_some operands e)

-- no other form is one of a constant expression
pub no_form : (label : Label) (kind : CType) (passes : List Bool) → constants.is_constant_operand label ≡ false → constants.is_constant_operator label ≡ false → has_constant_form label kind passes ≡ true → ⊥
no_form label kind passes e f h =
    let rest = and_right (is_some (integer_kind kind)) _ h in
    neither _ _ _ e f rest
  where
    neither : (a b c : Bool) → a ≡ false → b ≡ false → (a || (b && c)) ≡ true → ⊥
    neither true b c e f h = cc
    neither false true c e f h = cc
    neither false false c e f h = cc

sort_number : (sort : Sort) (z : ℤ) → value_if_enumerator sort ≡ Some z → number_of_sort sort ≡ z
sort_number (Object fixed) z e = absurd (none_is_some z e)
sort_number Function z e = absurd (none_is_some z e)
sort_number Typedef z e = absurd (none_is_some z e)
sort_number (Enumerator y) z e = some_is_some y z e
sort_number Tag z e = absurd (none_is_some z e)

pub entry_number : (entry : Option Declaration) (z : ℤ) → option_and_then (λ (e : Declaration). value_if_enumerator e.sort) entry ≡ Some z → enumerator_in entry ≡ z
entry_number None z e = absurd (none_is_some z e)
entry_number (Some entry) z e = sort_number entry.sort z e

-- a tree with a constant value has the form and the value of a constant expression
pub constant_parts : (program : Program) (tree : Tree) (z : ℤ) → constant_of program tree ≡ Some z → (is_constant_form tree ≡ true) × (constant_value program.table program.declared tree ≡ Some z)
constant_parts program tree z e = parts_if (is_constant_form tree) (constant_value program.table program.declared tree) e
  where
    parts_if : (b : Bool) (o : Option ℤ) → (if b then o else None) ≡ Some z → (b ≡ true) × (o ≡ Some z)
    parts_if true o h = (refl, h)
    parts_if false o h = absurd (none_is_some z h)

-- a number that an integer type has is a value of its kind
number_of_kind : (kind : CType) (k : Kind) (z : ℤ) → integer_kind kind ≡ Some k → kinds.is_in_range k z ≡ true → is_of_kind (typed kind z) ≡ true
number_of_kind kind k z e h = ap is_of_kind (typed_is kind k z e) ∙ h

in_range_test : (k : Kind) (z : ℤ) → kinds.InRange k z → kinds.is_in_range k z ≡ true
in_range_test k z h = grind arith

-- 0 and 1 are values of each kind
truth_in_range : (k : Kind) (b : Bool) → kinds.is_in_range k (operators.truth b) ≡ true
truth_in_range CBool true = refl
truth_in_range CBool false = refl
truth_in_range Char true = refl
truth_in_range Char false = refl
truth_in_range SChar true = refl
truth_in_range SChar false = refl
truth_in_range UChar true = refl
truth_in_range UChar false = refl
truth_in_range Short true = refl
truth_in_range Short false = refl
truth_in_range UShort true = refl
truth_in_range UShort false = refl
truth_in_range Int true = refl
truth_in_range Int false = refl
truth_in_range UInt true = refl
truth_in_range UInt false = refl
truth_in_range Long true = refl
truth_in_range Long false = refl
truth_in_range ULong true = refl
truth_in_range ULong false = refl
truth_in_range LLong true = refl
truth_in_range LLong false = refl
truth_in_range ULLong true = refl
truth_in_range ULLong false = refl

bare_truth_of_kind : (type : CType) (b : Bool) → is_of_kind (typed_bare type (operators.truth b)) ≡ true
bare_truth_of_kind (integer k) b = truth_in_range k b
bare_truth_of_kind void b = truth_in_range Int b
bare_truth_of_kind (pointer type) b = truth_in_range Int b
bare_truth_of_kind (array type length) b = truth_in_range Int b
bare_truth_of_kind (struct n) b = truth_in_range Int b
bare_truth_of_kind (function_type result parameters) b = truth_in_range Int b
bare_truth_of_kind (const type) b = truth_in_range Int b

truth_of_kind : (kind : CType) (b : Bool) → is_of_kind (typed kind (operators.truth b)) ≡ true
truth_of_kind kind b = bare_truth_of_kind (bare kind) b

-- what stands under a condition says that it is met
met : {A : Type 0} (b : Bool) (o : Option A) (a : A) → (if b then o else None) ≡ Some a → b ≡ true
met true o a e = refl
met false o a e = absurd (none_is_some a e)

module _ (program : Program) (objects : Objects) (world : World) where
  abbrev scene_here : Scene
  scene_here = record { program = program; objects = objects }

  -- the result of a tree with this value
  abbrev evaluated : CType → ℤ → Run
  evaluated kind z = done kind (of_value (typed kind z)) []

  -- A tree under evaluation comes to this value, which its type has, or its evaluation is undefined, as where a constant in it isn't a value
  -- of its type.
  abbrev pub Comes : Run → CType → ℤ → Type 0
  Comes run kind z = ((n : ℕ) × Quietly scene_here world n run (evaluated kind z) × (is_of_kind (typed kind z) ≡ true)) ⊎ Fails scene_here world run

  abbrev Evaluates : Tree → ℤ → Type 0
  Evaluates tree z = Comes (begun tree) (kind_of tree) z

  abbrev Claim : Tree → Type 0
  Claim tree = (types : TypeScene) → IsWellTyped types tree → is_constant_form tree ≡ true → (z : ℤ) → constant_value program.table program.declared tree ≡ Some z → Evaluates tree z

  abbrev Claims : Trees → Type 0
  Claims no_trees = Unit {0}
  Claims (more_trees first rest) = Claim first × Claims rest

  -- ---- steps

  comes_later : (n : ℕ) (a b : Run) (kind : CType) (z : ℤ) → Quietly scene_here world n a b → Comes b kind z → Comes a kind z
  comes_later n a b kind z h (inl (m, k, e)) = inl (n + m, quietly_then scene_here world n m a b (evaluated kind z) h k, e)
  comes_later n a b kind z h (inr k) = inr (fails_later scene_here world n a b h k)

  -- a part is evaluated, and then what it stands in
  comes_inside : (hole : Hole) → IsOpen hole → (a : Run) (inner : CType) (x : ℤ) → Comes a inner x → (kind : CType) (z : ℤ)
      → (is_of_kind (typed inner x) ≡ true → Comes (filled_in hole (evaluated inner x)) kind z) → Comes (filled_in hole a) kind z
  comes_inside hole o a inner x (inl (n, h, e)) kind z later =
      comes_later n (filled_in hole a) (filled_in hole (evaluated inner x)) kind z (quietly_inside scene_here world hole o n a (evaluated inner x) h) (later e)
  comes_inside hole o a inner x (inr k) kind z later = inr (fails_inside scene_here world hole o a k)

  -- a node takes its own step, beside any locks
  own_quiet : (doing : Doing) (kind : CType) (place : Place) (parts : Runs) (operands : List Operand) (run : Run)
      → operands_in (open_parts doing) parts ≡ Some operands
      → ((locks : List At) → went world run ≡ node_step scene_here world locks doing kind place parts operands)
      → QuietStep scene_here world (to_do doing kind place parts) run
  own_quiet doing kind place parts operands run e k locks = own_step _ operands _ _ _ e (k locks)

  -- one step alone, to a value that the type has
  comes_once : (run : Run) (kind : CType) (z : ℤ) → is_of_kind (typed kind z) ≡ true → QuietStep scene_here world run (evaluated kind z) → Comes run kind z
  comes_once run kind z e h = inl (1, (evaluated kind z, h, refl), e)

  -- a node whose own step gives a number where its type has it
  comes_to_number : (doing : Doing) (kind : CType) (place : Place) (parts : Runs) (operands : List Operand) (z : ℤ) → operands_in (open_parts doing) parts ≡ Some operands
      → ((locks : List At) → as_move kind place [] (number_alone world kind z) ≡ node_step scene_here world locks doing kind place parts operands)
      → Comes (to_do doing kind place parts) kind z
  comes_to_number doing kind place parts operands z e k = by_kind (is_of_kind (typed kind z)) refl
    where
      by_kind : (b : Bool) → is_of_kind (typed kind z) ≡ b → Comes (to_do doing kind place parts) kind z
      by_kind true h =
          comes_once (to_do doing kind place parts) kind z h
          (own_quiet doing kind place parts operands (evaluated kind z) e (λ locks. ap (λ b. as_move kind place [] (provided b (plain world (typed kind z)))) (sym h) ∙ k locks))
      by_kind false h =
          inr (record {
            count = 0;
            last = to_do doing kind place parts;
            steps = refl;
            cause = OtherType;
            place = place;
            fails = λ locks. own_step _ operands _ _ _ e (ap (λ b. as_move kind place [] (provided b (plain world (typed kind z)))) (sym h) ∙ k locks);
          })

  kind_known : (label : Label) (kind : CType) (passes : List Bool) → has_constant_form label kind passes ≡ true → (k : Kind) × (integer_kind kind ≡ Some k)
  kind_known label kind passes e = is_some_some (integer_kind kind) (and_left _ _ e)

  form_kind : (tree : Tree) → is_constant_form tree ≡ true → (k : Kind) × (integer_kind (kind_of tree) ≡ Some k)
  form_kind (node label kind spans parts) e = kind_known label kind (constant_forms parts) e

  -- ---- leaves

  ev_number : (n : ℤ) (kind : CType) (spans : Spans) (parts : Trees) → Claim (node (number n) kind spans parts)
  ev_number n kind spans no_trees types typing form z value =
      comes_to_number (evaluates (number n)) kind spans.place no_runs [] z refl (λ locks. ap (λ y. as_move kind spans.place [] (number_alone world kind y)) (sym (some_is_some n z value)))
  ev_number n kind spans (more_trees first rest) types typing form z value = absurd typing.0

  ev_enumerator : (d : ℕ) (kind : CType) (spans : Spans) (parts : Trees) → Claim (node (enumerator d) kind spans parts)
  ev_enumerator d kind spans no_trees types typing form z value =
      comes_to_number (evaluates (enumerator d)) kind spans.place no_runs [] z refl
      (λ locks. ap (λ y. as_move kind spans.place [] (number_alone world kind y)) (sym (entry_number (slice_get program.declared d) z value)))
  ev_enumerator d kind spans (more_trees first rest) types typing form z value = absurd typing.0

  size_value : (type : CType) (z : ℤ) → option_map pos (size_of program.table type) ≡ Some z → pos ((layout program).size type) ≡ z
  size_value type z e =
      let found = mapped_some pos (size_of program.table type) z e in
      ap (λ o. pos (or_zero o)) found.1 ∙ found.2

  ev_sizeof_tree : (kind : CType) (spans : Spans) (parts : Trees) → Claim (node sizeof_tree kind spans parts)
  ev_sizeof_tree kind spans no_trees types typing form z value = absurd (none_is_some z value)
  ev_sizeof_tree kind spans (more_trees first no_trees) types typing form z value =
      comes_to_number (evaluates sizeof_tree) kind spans.place (more_runs (begun first) no_runs) [] z refl
      (λ locks. ap (λ y. as_move kind spans.place [] (number_alone world kind y)) (sym (size_value (kind_of first) z value))
      ∙ ap (λ type. as_move kind spans.place [] (number_alone world kind (pos ((layout program).size type)))) (sym (kind_begun first)))
  ev_sizeof_tree kind spans (more_trees first (more_trees second rest)) types typing form z value = absurd (none_is_some z value)

  ev_sizeof_kind : (type kind : CType) (spans : Spans) (parts : Trees) → Claim (node (sizeof_kind type) kind spans parts)
  ev_sizeof_kind type kind spans parts types typing form z value =
      comes_to_number (evaluates (sizeof_kind type)) kind spans.place (all_begun parts) [] z (none_open (all_begun parts))
      (λ locks. ap (λ y. as_move kind spans.place [] (number_alone world kind y)) (sym (size_value type z value))
      ∙ ap (λ l. as_move kind spans.place l (number_alone world kind (pos ((layout program).size type)))) (sym (no_locks_all parts)))

  -- ---- one operand

  ev_convert : (kind : CType) (spans : Spans) (parts : Trees) → Claims parts → Claim (node convert kind spans parts)
  ev_convert kind spans no_trees below types typing form z value = absurd (none_is_some z value)
  ev_convert kind spans (more_trees first rest) below types typing form z value =
      let found = bound_some (converted_to kind) (constant_value program.table program.declared first) z value in
      let first_form : is_constant_form first ≡ true = and_right _ _ form in
      let inner = below.0 _ typing.1.0 first_form found.0 found.1 in
      let first_kind = form_kind first first_form in
      let own_kind = kind_known convert kind (constant_forms (more_trees first rest)) form in
      let made = mapped_some (λ k. kinds.convert k found.0) (integer_kind kind) z found.2 in
      let same_kind : made.0 ≡ own_kind.0 = some_is_some made.0 own_kind.0 (sym made.1 ∙ own_kind.1) in
      let is_value : kinds.convert own_kind.0 found.0 ≡ z = ap (λ k. kinds.convert k found.0) (sym same_kind) ∙ made.2 in
      let parts = more_runs (evaluated (kind_of first) found.0) (all_begun rest) in
      let result : convert_bare world (bare kind) (of_value (typed (kind_of first) found.0)) ≡ plain world (typed kind z) =
      ap (λ b. convert_bare world b (of_value (typed (kind_of first) found.0))) (bare_is kind own_kind.0 own_kind.1)
      ∙ ap (λ v. convert_bare world (integer own_kind.0) (of_value v)) (typed_is (kind_of first) first_kind.0 found.0 first_kind.1)
      ∙ ap (λ y. plain world (integer_value own_kind.0 y)) is_value
      ∙ ap (plain world) (sym (typed_is kind own_kind.0 z own_kind.1)) in
      let operand : Operand = record { kind = kind_of first; result = of_value (typed (kind_of first) found.0) } in
      let converts : kinds.is_in_range own_kind.0 z ≡ true =
      subst (λ y. kinds.is_in_range own_kind.0 y ≡ true) is_value (in_range_test own_kind.0 (kinds.convert own_kind.0 found.0) (in_range-convert own_kind.0 found.0)) in
      comes_inside (within (evaluates convert) kind spans.place (in_first here (all_begun rest))) (refl, tt) (begun first) (kind_of first) found.0 inner kind z
      (λ e. comes_once (to_do (evaluates convert) kind spans.place parts) kind z (number_of_kind kind own_kind.0 z own_kind.1 converts)
      (own_quiet (evaluates convert) kind spans.place parts (operand ∷ []) (evaluated kind z)
      (ap (λ o. option_map (λ operands. operand ∷ operands) o) (none_open (all_begun rest)))
      (λ locks. ap (λ l. went world (done kind (of_value (typed kind z)) l)) (sym (no_locks_all rest))
      ∙ ap (as_move kind spans.place (locks_in_all parts)) (sym result))))

  -- the value of a unary operator
  signed_is : (sign : Sign) (kind : CType) (j : Kind) (a z : ℤ) → signed_in sign a j ≡ Some z → signed world kind sign (integer_value j a) ≡ number_alone world kind z
  signed_is Plus kind j a z e = ap (λ r. faulted r (number_alone world kind)) (without_fault (unary_value Plus j a) z (where_met (kinds.is_in_range j a) (result_ok (unary_value Plus j a)) z e))
  signed_is Minus kind j a z e = ap (λ r. faulted r (number_alone world kind)) (without_fault (unary_value Minus j a) z (where_met (kinds.is_in_range j a) (result_ok (unary_value Minus j a)) z e))
  signed_is Complement kind j a z e = ap (λ r. faulted r (number_alone world kind)) (without_fault (unary_value Complement j a) z (where_met (kinds.is_in_range j a) (result_ok (unary_value Complement j a)) z e))
  signed_is Not kind j a z e =
      ap (λ b. provided b (plain world (truth_in kind (not (is_true a))))) (sym (truth_of_kind kind (not (is_true a))))
      ∙ ap (number_alone world kind) (some_is_some _ z (where_met (kinds.is_in_range j a) (result_ok (unary_value Not j a)) z e))

  ev_unary : (sign : Sign) (kind : CType) (spans : Spans) (parts : Trees) → Claims parts → Claim (node (unary sign) kind spans parts)
  ev_unary sign kind spans no_trees below types typing form z value = absurd (none_is_some z value)
  ev_unary sign kind spans (more_trees first (more_trees second rest)) below types typing form z value = absurd (none_is_some z value)
  ev_unary sign kind spans (more_trees first no_trees) below types typing form z value =
      let found = bound_some (signed_value sign (kind_of first)) (constant_value program.table program.declared first) z value in
      let first_form : is_constant_form first ≡ true = and_left _ _ (and_right _ _ form) in
      let inner = below.0 _ typing.1.0 first_form found.0 found.1 in
      let made = bound_some (signed_in sign found.0) (integer_kind (kind_of first)) z found.2 in
      let result : signed world kind sign (typed (kind_of first) found.0) ≡ number_alone world kind z =
      ap (signed world kind sign) (typed_is (kind_of first) made.0 found.0 made.1) ∙ signed_is sign kind made.0 found.0 z made.2 in
      let parts = more_runs (evaluated (kind_of first) found.0) no_runs in
      comes_inside (within (evaluates (unary sign)) kind spans.place (in_first here no_runs)) (refl, tt) (begun first) (kind_of first) found.0 inner kind z
      (λ e. comes_to_number (evaluates (unary sign)) kind spans.place parts (record { kind = kind_of first; result = of_value (typed (kind_of first) found.0) } ∷ []) z refl
      (λ locks. ap (as_move kind spans.place []) (sym result)))

  -- ---- two operands

  combined_is : (kind left : CType) (op : Op) (j i : Kind) (a b z : ℤ) → operated_in op a b j ≡ Some z
      → combined scene_here world kind left op (integer_value j a) (integer_value i b) ≡ number_alone world kind z
  combined_is kind left op j i a b z e =
      let test = met (kinds.is_in_range j a && is_right op j b) (result_ok (operators.binary op j a b)) z e in
      ap (λ t. provided t (faulted (operators.binary op j a b) (number_alone world kind))) (and_right (kinds.is_in_range j a) (is_right op j b) test)
      ∙ ap (λ r. faulted r (number_alone world kind)) (without_fault (operators.binary op j a b) z (where_met (kinds.is_in_range j a && is_right op j b) (result_ok (operators.binary op j a b)) z e))

  ev_binary : (op : Op) (kind : CType) (spans : Spans) (parts : Trees) → Claims parts → Claim (node (binary op) kind spans parts)
  ev_binary op kind spans no_trees below types typing form z value = absurd (none_is_some z value)
  ev_binary op kind spans (more_trees first no_trees) below types typing form z value = absurd (none_is_some z value)
  ev_binary op kind spans (more_trees first (more_trees second (more_trees third rest))) below types typing form z value = absurd (none_is_some z value)
  ev_binary op kind spans (more_trees first (more_trees second no_trees)) below types typing form z value =
      let left = bound_some (λ x. option_and_then (operated_value op (kind_of first) x) (constant_value program.table program.declared second)) (constant_value program.table program.declared first) z value in
      let right = bound_some (operated_value op (kind_of first) left.0) (constant_value program.table program.declared second) z left.2 in
      let forms = and_right _ _ form in
      let first_form : is_constant_form first ≡ true = and_left _ _ forms in
      let second_form : is_constant_form second ≡ true = and_left _ _ (and_right _ _ forms) in
      let one = below.0 _ typing.1.0 first_form left.0 left.1 in
      let two = below.1.0 _ typing.1.1.0 second_form right.0 right.1 in
      let made = bound_some (operated_in op left.0 right.0) (integer_kind (kind_of first)) z right.2 in
      let second_kind = form_kind second second_form in
      let done_first = evaluated (kind_of first) left.0 in
      let done_second = evaluated (kind_of second) right.0 in
      let result : combined scene_here world kind (kind_of first) op (typed (kind_of first) left.0) (typed (kind_of second) right.0) ≡ number_alone world kind z =
      ap (λ v. combined scene_here world kind (kind_of first) op v (typed (kind_of second) right.0)) (typed_is (kind_of first) made.0 left.0 made.1)
      ∙ ap (λ v. combined scene_here world kind (kind_of first) op (integer_value made.0 left.0) v) (typed_is (kind_of second) second_kind.0 right.0 second_kind.1)
      ∙ combined_is kind (kind_of first) op made.0 second_kind.0 left.0 right.0 z made.2 in
      comes_inside (within (evaluates (binary op)) kind spans.place (in_first here (more_runs (begun second) no_runs))) (refl, tt) (begun first) (kind_of first) left.0 one kind z
      (λ e. comes_inside (within (evaluates (binary op)) kind spans.place (in_others done_first (in_first here no_runs))) (refl, tt) (begun second) (kind_of second) right.0 two kind z
      (λ f. comes_to_number (evaluates (binary op)) kind spans.place (more_runs done_first (more_runs done_second no_runs))
      (record { kind = kind_of first; result = of_value (typed (kind_of first) left.0) } ∷ record { kind = kind_of second; result = of_value (typed (kind_of second) right.0) } ∷ [])
      z refl (λ locks. ap (as_move kind spans.place []) (sym result))))

  -- ---- one operand and then another

  -- the last step of && and ||
  truth_comes : (kind : CType) (place : Place) (other : CType) (k : Kind) (y z : ℤ) → integer_kind other ≡ Some k → operators.truth (is_true y) ≡ z
      → Comes (to_do gives_truth kind place (more_runs (evaluated other y) no_runs)) kind z
  truth_comes kind place other k y z e t =
      comes_once (to_do gives_truth kind place (more_runs (evaluated other y) no_runs)) kind z (ap (λ n. is_of_kind (typed kind n)) (sym t) ∙ truth_of_kind kind (is_true y))
      (own_quiet gives_truth kind place (more_runs (evaluated other y) no_runs) (record { kind = other; result = of_value (typed other y) } ∷ []) (evaluated kind z) refl
      (λ locks. ap (λ n. went world (evaluated kind n)) (sym t)
      ∙ ap (λ v. by_truth world place (truth_of world.memory v) (λ truth. done kind (of_value (truth_in kind truth)) [])) (sym (typed_is other k y e))))

  -- the first step of a node of its own, by the truth of its first operand
  first_quiet : (label : Label) (kind : CType) (place : Place) (parts : Runs) (first : CType) (k : Kind) (x : ℤ) (next : Bool → Run) (truth : Bool)
      → operands_in (open_parts (evaluates label)) parts ≡ Some (record { kind = first; result = of_value (typed first x) } ∷ [])
      → ((locks : List At) → by_truth world place (truth_of world.memory (typed first x)) next
      ≡ node_step scene_here world locks (evaluates label) kind place parts (record { kind = first; result = of_value (typed first x) } ∷ []))
      → integer_kind first ≡ Some k → is_true x ≡ truth
      → QuietStep scene_here world (to_do (evaluates label) kind place parts) (next truth)
  first_quiet label kind place parts first k x next truth e steps known t =
      own_quiet (evaluates label) kind place parts (record { kind = first; result = of_value (typed first x) } ∷ []) _ e
      (λ locks. ap (λ b. went world (next b)) (sym t)
      ∙ ap (λ v. by_truth world place (truth_of world.memory v) next) (sym (typed_is first k x known))
      ∙ steps locks)

  -- a node that goes on after its first step
  comes_after : (run middle : Run) → QuietStep scene_here world run middle → (kind : CType) (z : ℤ) → Comes middle kind z → Comes run kind z
  comes_after run middle h kind z k = comes_later 1 run middle kind z (middle, h, refl) k

  -- a node that is done with its first step, at a truth
  comes_at_once : (run : Run) (kind : CType) (b : Bool) (z : ℤ) → operators.truth b ≡ z → QuietStep scene_here world run (evaluated kind (operators.truth b)) → Comes run kind z
  comes_at_once run kind b z e h = comes_once run kind z (ap (λ n. is_of_kind (typed kind n)) (sym e) ∙ truth_of_kind kind b) (subst (λ n. QuietStep scene_here world run (evaluated kind n)) e h)

  -- the second operand's truth
  second_comes : (kind : CType) (place : Place) (second : Tree) → Claim second → (types : TypeScene) → IsWellTyped types second → is_constant_form second ≡ true → (z : ℤ)
      → option_map constants.truth_of (constant_value program.table program.declared second) ≡ Some z → Comes (to_do gives_truth kind place (more_runs (begun second) no_runs)) kind z
  second_comes kind place second below types typing form z value =
      let found = mapped_some constants.truth_of (constant_value program.table program.declared second) z value in
      let second_kind = form_kind second form in
      comes_inside (within gives_truth kind place (in_first here no_runs)) (refl, tt) (begun second) (kind_of second) found.0 (below types typing form found.0 found.1) kind z
      (λ e. truth_comes kind place (kind_of second) second_kind.0 found.0 z second_kind.1 found.2)

  both_by : (kind : CType) (spans : Spans) (first second : Tree) → Claim second → (types : TypeScene) → IsWellTyped types second → is_constant_form second ≡ true
      → (k : Kind) → integer_kind (kind_of first) ≡ Some k → (x z : ℤ) (truth : Bool) → is_true x ≡ truth
      → (if truth then option_map constants.truth_of (constant_value program.table program.declared second) else Some (pos 0)) ≡ Some z
      → Comes (to_do (evaluates both) kind spans.place (more_runs (evaluated (kind_of first) x) (more_runs (begun second) no_runs))) kind z
  both_by kind spans first second below types typing form k known x z false t value =
      let parts = more_runs (evaluated (kind_of first) x) (more_runs (begun second) no_runs) in
      comes_at_once (to_do (evaluates both) kind spans.place parts) kind false z (some_is_some (pos 0) z value)
      (first_quiet both kind spans.place parts (kind_of first) k x (both_chosen kind spans.place parts) false refl (λ locks. refl) known t)
  both_by kind spans first second below types typing form k known x z true t value =
      let parts = more_runs (evaluated (kind_of first) x) (more_runs (begun second) no_runs) in
      comes_after (to_do (evaluates both) kind spans.place parts) (to_do gives_truth kind spans.place (more_runs (begun second) no_runs))
      (first_quiet both kind spans.place parts (kind_of first) k x (both_chosen kind spans.place parts) true refl (λ locks. refl) known t) kind z
      (second_comes kind spans.place second below types typing form z value)

  either_by : (kind : CType) (spans : Spans) (first second : Tree) → Claim second → (types : TypeScene) → IsWellTyped types second → is_constant_form second ≡ true
      → (k : Kind) → integer_kind (kind_of first) ≡ Some k → (x z : ℤ) (truth : Bool) → is_true x ≡ truth
      → (if truth then Some (pos 1) else option_map constants.truth_of (constant_value program.table program.declared second)) ≡ Some z
      → Comes (to_do (evaluates either) kind spans.place (more_runs (evaluated (kind_of first) x) (more_runs (begun second) no_runs))) kind z
  either_by kind spans first second below types typing form k known x z true t value =
      let parts = more_runs (evaluated (kind_of first) x) (more_runs (begun second) no_runs) in
      comes_at_once (to_do (evaluates either) kind spans.place parts) kind true z (some_is_some (pos 1) z value)
      (first_quiet either kind spans.place parts (kind_of first) k x (either_chosen kind spans.place parts) true refl (λ locks. refl) known t)
  either_by kind spans first second below types typing form k known x z false t value =
      let parts = more_runs (evaluated (kind_of first) x) (more_runs (begun second) no_runs) in
      comes_after (to_do (evaluates either) kind spans.place parts) (to_do gives_truth kind spans.place (more_runs (begun second) no_runs))
      (first_quiet either kind spans.place parts (kind_of first) k x (either_chosen kind spans.place parts) false refl (λ locks. refl) known t) kind z
      (second_comes kind spans.place second below types typing form z value)

  -- a node whose first operand is evaluated, and then what follows
  after_first : (label : Label) (kind : CType) (spans : Spans) (first : Tree) (rest : Trees) (x z : ℤ)
      → IsTrue (first_open (open_parts (evaluates label))) → Evaluates first x
      → Comes (to_do (evaluates label) kind spans.place (more_runs (evaluated (kind_of first) x) (all_begun rest))) kind z
      → Evaluates (node label kind spans (more_trees first rest)) z
  after_first label kind spans first rest x z o one two =
      comes_inside (within (evaluates label) kind spans.place (in_first here (all_begun rest))) (o, tt) (begun first) (kind_of first) x one kind z (λ e. two)

  ev_both : (kind : CType) (spans : Spans) (parts : Trees) → Claims parts → Claim (node both kind spans parts)
  ev_both kind spans no_trees below types typing form z value = absurd (none_is_some z value)
  ev_both kind spans (more_trees first no_trees) below types typing form z value = absurd (none_is_some z value)
  ev_both kind spans (more_trees first (more_trees second (more_trees third rest))) below types typing form z value = absurd (none_is_some z value)
  ev_both kind spans (more_trees first (more_trees second no_trees)) below types typing form z value =
      let left = bound_some (λ x. if is_true x then option_map constants.truth_of (constant_value program.table program.declared second) else Some (pos 0)) (constant_value program.table program.declared first) z value in
      let forms = and_right _ _ form in
      let first_form : is_constant_form first ≡ true = and_left _ _ forms in
      let second_form : is_constant_form second ≡ true = and_left _ _ (and_right _ _ forms) in
      let one = below.0 _ typing.1.0 first_form left.0 left.1 in
      let first_kind = form_kind first first_form in
      after_first both kind spans first (more_trees second no_trees) left.0 z refl one
      (both_by kind spans first second below.1.0 _ typing.1.1.0 second_form first_kind.0 first_kind.1 left.0 z (is_true left.0) refl left.2)

  ev_either : (kind : CType) (spans : Spans) (parts : Trees) → Claims parts → Claim (node either kind spans parts)
  ev_either kind spans no_trees below types typing form z value = absurd (none_is_some z value)
  ev_either kind spans (more_trees first no_trees) below types typing form z value = absurd (none_is_some z value)
  ev_either kind spans (more_trees first (more_trees second (more_trees third rest))) below types typing form z value = absurd (none_is_some z value)
  ev_either kind spans (more_trees first (more_trees second no_trees)) below types typing form z value =
      let left = bound_some (λ x. if is_true x then Some (pos 1) else option_map constants.truth_of (constant_value program.table program.declared second)) (constant_value program.table program.declared first) z value in
      let forms = and_right _ _ form in
      let first_form : is_constant_form first ≡ true = and_left _ _ forms in
      let second_form : is_constant_form second ≡ true = and_left _ _ (and_right _ _ forms) in
      let one = below.0 _ typing.1.0 first_form left.0 left.1 in
      let first_kind = form_kind first first_form in
      after_first either kind spans first (more_trees second no_trees) left.0 z refl one
      (either_by kind spans first second below.1.0 _ typing.1.1.0 second_form first_kind.0 first_kind.1 left.0 z (is_true left.0) refl left.2)

  -- the chosen operand of ?: gives its value
  arm_comes : (kind : CType) (place : Place) (arm : Tree) (y : ℤ) → kind_of arm ≡ kind → Evaluates arm y → Comes (to_do gives_value kind place (more_runs (begun arm) no_runs)) kind y
  arm_comes kind place arm y e inner =
      comes_inside (within gives_value kind place (in_first here no_runs)) (refl, tt) (begun arm) (kind_of arm) y inner kind y
      (λ h. comes_once (to_do gives_value kind place (more_runs (evaluated (kind_of arm) y) no_runs)) kind y (ap (λ type. is_of_kind (typed type y)) (sym e) ∙ h)
      (own_quiet gives_value kind place (more_runs (evaluated (kind_of arm) y) no_runs) (record { kind = kind_of arm; result = of_value (typed (kind_of arm) y) } ∷ []) (evaluated kind y) refl
      (λ locks. ap (λ type. went world (done kind (of_value (typed type y)) [])) (sym e))))

  choose_by : (kind : CType) (spans : Spans) (first second third : Tree) → (k : Kind) → integer_kind (kind_of first) ≡ Some k → (x z : ℤ) (truth : Bool) → is_true x ≡ truth
      → (truth ≡ true → Evaluates second z) → (truth ≡ false → Evaluates third z) → kind_of second ≡ kind → kind_of third ≡ kind
      → Comes (to_do (evaluates choose) kind spans.place (more_runs (evaluated (kind_of first) x) (more_runs (begun second) (more_runs (begun third) no_runs)))) kind z
  choose_by kind spans first second third k known x z true t two three e f =
      let parts = more_runs (evaluated (kind_of first) x) (more_runs (begun second) (more_runs (begun third) no_runs)) in
      comes_after (to_do (evaluates choose) kind spans.place parts) (to_do gives_value kind spans.place (more_runs (begun second) no_runs))
      (first_quiet choose kind spans.place parts (kind_of first) k x (operand_chosen kind spans.place parts) true refl (λ locks. refl) known t) kind z
      (arm_comes kind spans.place second z e (two refl))
  choose_by kind spans first second third k known x z false t two three e f =
      let parts = more_runs (evaluated (kind_of first) x) (more_runs (begun second) (more_runs (begun third) no_runs)) in
      comes_after (to_do (evaluates choose) kind spans.place parts) (to_do gives_value kind spans.place (more_runs (begun third) no_runs))
      (first_quiet choose kind spans.place parts (kind_of first) k x (operand_chosen kind spans.place parts) false refl (λ locks. refl) known t) kind z
      (arm_comes kind spans.place third z f (three refl))

  if_true : {A : Type 0} (b : Bool) (x y : A) → b ≡ true → (if b then x else y) ≡ x
  if_true true x y e = refl
  if_true false x y e = absurd (cc)

  if_false : {A : Type 0} (b : Bool) (x y : A) → b ≡ false → (if b then x else y) ≡ y
  if_false true x y e = absurd (cc)
  if_false false x y e = refl

  ev_choose : (kind : CType) (spans : Spans) (parts : Trees) → Claims parts → Claim (node choose kind spans parts)
  ev_choose kind spans no_trees below types typing form z value = absurd (none_is_some z value)
  ev_choose kind spans (more_trees first no_trees) below types typing form z value = absurd (none_is_some z value)
  ev_choose kind spans (more_trees first (more_trees second no_trees)) below types typing form z value = absurd (none_is_some z value)
  ev_choose kind spans (more_trees first (more_trees second (more_trees third (more_trees fourth rest)))) below types typing form z value = absurd (none_is_some z value)
  ev_choose kind spans (more_trees first (more_trees second (more_trees third no_trees))) below types typing form z value =
      let two = constant_value program.table program.declared second in
      let three = constant_value program.table program.declared third in
      let left = bound_some (λ x. if is_true x then two else three) (constant_value program.table program.declared first) z value in
      let forms = and_right _ _ form in
      let first_form : is_constant_form first ≡ true = and_left _ _ forms in
      let second_form : is_constant_form second ≡ true = and_left _ _ (and_right _ _ forms) in
      let third_form : is_constant_form third ≡ true = and_left _ _ (and_right _ _ (and_right _ _ forms)) in
      let one = below.0 _ typing.1.0 first_form left.0 left.1 in
      let first_kind = form_kind first first_form in
      after_first choose kind spans first (more_trees second (more_trees third no_trees)) left.0 z refl one
      (choose_by kind spans first second third first_kind.0 first_kind.1 left.0 z (is_true left.0) refl
      (λ t. below.1.0 _ typing.1.1.0 second_form z (sym (if_true (is_true left.0) two three t) ∙ left.2))
      (λ t. below.1.1.0 _ typing.1.1.1.0 third_form z (sym (if_false (is_true left.0) two three t) ∙ left.2))
      typing.0.3 typing.0.4)

  -- ---- all forms

  ev_node : (label : Label) (kind : CType) (spans : Spans) (parts : Trees) → Claims parts → Claim (node label kind spans parts)
  ev_node (number n) kind spans parts below = ev_number n kind spans parts
  ev_node (enumerator d) kind spans parts below = ev_enumerator d kind spans parts
  ev_node sizeof_tree kind spans parts below = ev_sizeof_tree kind spans parts
  ev_node (sizeof_kind type) kind spans parts below = ev_sizeof_kind type kind spans parts
  ev_node convert kind spans parts below = ev_convert kind spans parts below
  ev_node (unary sign) kind spans parts below = ev_unary sign kind spans parts below
  ev_node (binary op) kind spans parts below = ev_binary op kind spans parts below
  ev_node both kind spans parts below = ev_both kind spans parts below
  ev_node either kind spans parts below = ev_either kind spans parts below
  ev_node choose kind spans parts below = ev_choose kind spans parts below
  ev_node comma kind spans parts below = λ types typing form z value. absurd (none_is_some z value)
  ev_node (literal bytes unit) kind spans parts below = λ types typing form z value. absurd (no_form (literal bytes unit) kind (constant_forms parts) refl refl form)
  ev_node (object d) kind spans parts below = λ types typing form z value. absurd (no_form (object d) kind (constant_forms parts) refl refl form)
  ev_node (function d) kind spans parts below = λ types typing form z value. absurd (no_form (function d) kind (constant_forms parts) refl refl form)
  ev_node read kind spans parts below = λ types typing form z value. absurd (no_form read kind (constant_forms parts) refl refl form)
  ev_node decay kind spans parts below = λ types typing form z value. absurd (no_form decay kind (constant_forms parts) refl refl form)
  ev_node address kind spans parts below = λ types typing form z value. absurd (no_form address kind (constant_forms parts) refl refl form)
  ev_node follow kind spans parts below = λ types typing form z value. absurd (no_form follow kind (constant_forms parts) refl refl form)
  ev_node (member n) kind spans parts below = λ types typing form z value. absurd (no_form (member n) kind (constant_forms parts) refl refl form)
  ev_node store kind spans parts below = λ types typing form z value. absurd (no_form store kind (constant_forms parts) refl refl form)
  ev_node (update op works) kind spans parts below = λ types typing form z value. absurd (no_form (update op works) kind (constant_forms parts) refl refl form)
  ev_node (count plus before) kind spans parts below = λ types typing form z value. absurd (no_form (count plus before) kind (constant_forms parts) refl refl form)
  ev_node call kind spans parts below = λ types typing form z value. absurd (no_form call kind (constant_forms parts) refl refl form)
  ev_node block kind spans parts below = λ types typing form z value. absurd (no_form block kind (constant_forms parts) refl refl form)
  ev_node (declare lengths declarators) kind spans parts below = λ types typing form z value. absurd (no_form (declare lengths declarators) kind (constant_forms parts) refl refl form)
  ev_node full kind spans parts below = λ types typing form z value. absurd (no_form full kind (constant_forms parts) refl refl form)
  ev_node empty kind spans parts below = λ types typing form z value. absurd (no_form empty kind (constant_forms parts) refl refl form)
  ev_node if_statement kind spans parts below = λ types typing form z value. absurd (no_form if_statement kind (constant_forms parts) refl refl form)
  ev_node switch kind spans parts below = λ types typing form z value. absurd (no_form switch kind (constant_forms parts) refl refl form)
  ev_node case kind spans parts below = λ types typing form z value. absurd (no_form case kind (constant_forms parts) refl refl form)
  ev_node default kind spans parts below = λ types typing form z value. absurd (no_form default kind (constant_forms parts) refl refl form)
  ev_node while_loop kind spans parts below = λ types typing form z value. absurd (no_form while_loop kind (constant_forms parts) refl refl form)
  ev_node do_loop kind spans parts below = λ types typing form z value. absurd (no_form do_loop kind (constant_forms parts) refl refl form)
  ev_node (for_loop first second third) kind spans parts below = λ types typing form z value. absurd (no_form (for_loop first second third) kind (constant_forms parts) refl refl form)
  ev_node break kind spans parts below = λ types typing form z value. absurd (no_form break kind (constant_forms parts) refl refl form)
  ev_node continue kind spans parts below = λ types typing form z value. absurd (no_form continue kind (constant_forms parts) refl refl form)
  ev_node return kind spans parts below = λ types typing form z value. absurd (no_form return kind (constant_forms parts) refl refl form)

  mutual
    ev : (tree : Tree) → Claim tree
    ev (node label kind spans parts) = ev_node label kind spans parts (evs parts)

    evs : (trees : Trees) → Claims trees
    evs no_trees = tt
    evs (more_trees first rest) = (ev first, evs rest)

  -- An integer constant expression is evaluated to its value, where each constant in it is a value of its type.
  pub constant_evaluates : (tree : Tree) (types : TypeScene) → IsWellTyped types tree → (z : ℤ) → constant_of program tree ≡ Some z → Evaluates tree z
  constant_evaluates tree types typing z e =
      let form = constant_parts program tree z e in
      ev tree types typing form.0 z form.1
