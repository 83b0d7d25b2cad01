-- The step of each typed node gives a result of its type.
use Rattle.std.specs.Prelude.{◌≡◌, refl, ◌⊎◌, ℕ, Bool, true, false, not, ◌&&◌, ◌||◌, IsTrue, IfSome, IsSome, List, [], ◌∷◌, Option, Some, None, is_some, option_map, option_and_then, slice_get, ℤ, pos, neg_ℤ, if◌then◌else◌}
use Rattle.std.proofs.Common.{ap, sym, ◌∙◌, subst, inl, inr, true≢false}
use Rattle.std.proofs.lemmas.Bool.{false≢true}
use Rattle.dm_int.specs.declared.Kind.{Kind}
use Rattle.dm_int.specs.declared.Kind.TheVariants as k
use Rattle.dm_int.specs.declared.Kind.TheVariants.{Int, ULong}
use Rattle.dm_int.specs.declared.Op.{Op}
use Rattle.dm_int.specs.declared.Op.TheVariants as o
use Rattle.dm_int.specs.Kinds.{InRange, is_in_range, promote, common}
use Rattle.dm_int.specs.Operators as operators
use Rattle.dm_type.specs.declared.shape.Member.{Member}
use Rattle.dm_type.specs.CTypes.{CType, void, integer, pointer, struct, function as function_type, const, bare, is_const}
use Rattle.dm_type.specs.Tables.{type_of, members_of}
use Rattle.dm_tree.specs.declared.tree.Sign.{Sign}
use Rattle.dm_tree.specs.declared.tree.Sign.TheVariants as s
use Rattle.dm_tree.specs.declared.unit.Sort.{Sort}
use Rattle.dm_tree.specs.declared.unit.Sort.TheVariants.{Function, Enumerator}
use Rattle.dm_tree.specs.Composites.{covers}
use Rattle.dm_tree.specs.Constants.{integer_kind, is_constant_form, is_constant_part, constant_forms}
use Rattle.dm_tree.specs.Evaluation.{is_shift, is_right, updated_value, count_op, counted_value, unary_value}
use Rattle.dm_tree.specs.Initialisers.{is_enumerator, is_function_sort}
use Rattle.dm_tree.specs.Operands.{Becomes, BecomesPointer, FitsBinary, UpdateFits, FitsMember}
use Rattle.dm_tree.specs.Scenes.{Scene as Standing, IsValue, is_lvalue, is_array as is_array_type, is_scalar, is_integer, is_pointer, is_function, target, member_type}
use Rattle.dm_tree.specs.Trees.{Label, Spans, Tree, Trees, node, no_trees, more_trees, kind_of, listed}
use Rattle.dm_tree.specs.Trees as label
use Rattle.dm_tree.specs.Typing.{Fits, FitsExpression, FitsSort}
use Rattle.dm_tree.specs.Units.{Declaration}
use Rattle.dm_meaning.specs.declared.cause.Cause.TheVariants.{OtherType, Unset, Division, Shift}
use Rattle.dm_meaning.specs.Among.{IsAmong}
use Rattle.dm_meaning.specs.Values.{At, part, Pointer, to as leads_to, Value, integer_value, pointer_value, unset, part_value}
use Rattle.dm_meaning.specs.Objects.{Layout, Field, is_array}
use Rattle.dm_meaning.specs.Memory.{contents_at, or_unset}
use Rattle.dm_meaning.specs.Causes.{when, is_unset, entry_causes}
use Rattle.dm_meaning.specs.Programs.{Program, layout, declaration_of, or_zero as or_no_size}
use Rattle.dm_meaning.specs.Operations.{Result, of_value, designates, Operand, World, Scene, Did, gives, plain, number_alone, number_of_sort, enumerator_in, designated, object_named, part_of, read_at, decayed, convert_to, converted, followed, member_value, member_of, signed, on_value, on_place, on_set, truth_in, combined, on_move, on_plus, pointer_plus, store_at, Made, made_number, made_right, made_pointer, causes_anyway, kind_in, move_of, updated, counted, update_at, count_at, operate, faulted}
use Rattle.dm_meaning.specs.Running.{every, only_first, open_of}
use Rattle.dm_meaning.proofs.ConstantLemmas.{constant_parts}
use Rattle.dm_meaning.proofs.ExtendLemmas.{when_false}
use Rattle.dm_meaning.proofs.OptionLemmas.{none_is_some, some_is_some, bound_some, mapped_some, and_left, and_right}
use Rattle.dm_sound.specs.TypedValues.{own_type, part_types, has_parts, has_values, HasType, IsGiven, AreTyped}
use Rattle.dm_sound.specs.TypedTrees.{IsProper, IsProperTree, scene_in}
use Rattle.dm_sound.specs.TypedSteps.{IsResult, AreOperands, is_operated, DidFits, IsTypedScope}
use Rattle.dm_sound.proofs.SetLemmas.{stay_same}
use Rattle.dm_sound.proofs.ValueLemmas.{own_integer, own_bare, nth_has, compound_has, mapped_get, has_own}
use Rattle.dm_sound.proofs.AccessLemmas.{contents_fit, entry_other, unset_apart}
use Rattle.dm_sound.proofs.GivenLemmas.{IsNumber, IsAddress, has_number, has_address, number_given, own_target, given_number, given_address, address_given, void_given, complete_values, size_number, proper_bare, proper_whole, in_range_test}
use Rattle.dm_sound.proofs.TableLemmas.{table_proper, field_there}
use Rattle.dm_sound.proofs.OperateLemmas.{result_among, proper_root, value_no_lvalue, MadeFits, unless_fits, plain_fits, number_fits, one_fits, first_fits, two_fits, value_fits, place_fits, set_fits, truth_fits, truth_given, read_fits, address_fits, decay_fits, followed_fits, integer_fits, pointer_fits, in_unary, faulted_fits, mistyped, integers_fit, further_fits, pointers_fit, store_fits, replace_fits, updated_range, number_made, further_made}

-- ---- what is told of types

some_of : {A : Type 0} (o : Option A) → is_some o ≡ true → (a : A) × (o ≡ Some a)
some_of None e = absurd (false≢true e)
some_of (Some a) e = (a, refl)

sort_range : (sort : Sort) (kind : CType) (linked : Bool) → IsTrue (is_enumerator sort) → FitsSort sort kind linked → InRange Int (number_of_sort sort)
sort_range (Enumerator z) kind linked is fits = fits.1
sort_range sort kind linked is fits = absurd (false≢true is)

pub function_sort : (sort : Sort) (kind : CType) (linked : Bool) → is_function_sort sort ≡ true → FitsSort sort kind linked → IsTrue (is_function kind)
function_sort Function kind linked is fits = fits.0
function_sort sort kind linked is fits = absurd (false≢true is)

function_given : (layout : Layout) (type kind : CType) → IsTrue (is_function type) → covers type kind ≡ true → IsGiven layout kind unset
function_given layout (function_type a these) (function_type b those) is e = record { typed = refl; set = λ h. absurd (false≢true h); whole = refl }
function_given layout (function_type a these) kind is e = absurd (false≢true e)
function_given layout type kind is e = absurd (false≢true is)

becomes_scalar : (place : Standing) (operand : Tree) (one : Kind) → Becomes place operand (integer one) → IsTrue (is_scalar (kind_of operand))
becomes_scalar place operand k.Bool h = h
becomes_scalar place operand one h = ap (λ b. b || is_pointer (kind_of operand)) h

-- an integer constant expression has an integer type
constant_integer : (program : Program) (tree : Tree) → is_constant_form tree ≡ true → (one : Kind) × (integer_kind (kind_of tree) ≡ Some one)
constant_integer program (node form kind spans parts) e = some_of (integer_kind kind) (and_left (is_some (integer_kind kind)) (is_constant_part form (constant_forms parts)) e)

-- a pointer type that isn't const
plain_target : (type inner : CType) → is_const type ≡ false → target type ≡ Some inner → type ≡ pointer inner
plain_target (pointer other) inner c e = ap pointer (some_is_some other inner e)
plain_target (const type) inner c e = absurd (true≢false c)
plain_target type inner c e = absurd (none_is_some inner e)

bare_target : (type inner : CType) → target type ≡ Some inner → bare type ≡ pointer inner
bare_target (pointer other) inner e = ap pointer (some_is_some other inner e)
bare_target (const (pointer other)) inner e = ap pointer (some_is_some other inner e)
bare_target (const type) inner e = absurd (none_is_some inner e)
bare_target type inner e = absurd (none_is_some inner e)

not_true : (b : Bool) → not b ≡ true → b ≡ false
not_true true e = absurd (false≢true e)
not_true false e = refl

anyway_apart : (op : Op) (one : Kind) (n : ℤ) → IsAmong OtherType (causes_anyway op one n) → ⊥
anyway_apart o.Div one n h = division (operators.int_eq n (pos 0)) h
  where
    division : (b : Bool) → IsAmong OtherType (when Division b) → ⊥
    division true (inl e) = absurd (cc)
    division true (inr e) = e
    division false e = e
anyway_apart o.Rem one n h = division (operators.int_eq n (pos 0)) h
  where
    division : (b : Bool) → IsAmong OtherType (when Division b) → ⊥
    division true (inl e) = absurd (cc)
    division true (inr e) = e
    division false e = e
anyway_apart o.Shl one n h = shift (not (operators.is_count one n)) h
  where
    shift : (b : Bool) → IsAmong OtherType (when Shift b) → ⊥
    shift true (inl e) = absurd (cc)
    shift true (inr e) = e
    shift false e = e
anyway_apart o.Shr one n h = shift (not (operators.is_count one n)) h
  where
    shift : (b : Bool) → IsAmong OtherType (when Shift b) → ⊥
    shift true (inl e) = absurd (cc)
    shift true (inr e) = e
    shift false e = e
anyway_apart op one n h = h

-- the member of a struct that a table names
pub member_found : (place : Standing) (whole : CType) (n : ℕ) (type : CType) → member_type place.types whole n ≡ Some type
    → (number : ℕ) × (members : List Member) × (one : Member) × (whole ≡ struct number) × (members_of place.types number ≡ Some members) × (slice_get members n ≡ Some one) × (type_of place.types one.kind ≡ type)
member_found place (struct number) n type e =
    let from = bound_some (λ (members : List Member). option_map (λ (one : Member). type_of place.types one.kind) (slice_get members n)) (members_of place.types number) type e in
    let one = mapped_some (λ (one : Member). type_of place.types one.kind) (slice_get from.0 n) type from.2 in
    (number, from.0, one.0, refl, from.1, one.1, one.2)
member_found place whole n type e = absurd (none_is_some type e)

-- ---- nodes

module _ (scene : Scene) (scope : IsTypedScope scene.program) (world : World) (locks : List At) (typed : AreTyped (layout scene.program) world.memory) (answer : CType) (breaks continues : Bool) (labels : Option Kind) where
  abbrev place : Standing
  place = scene_in scene.program answer breaks continues labels

  abbrev laid : Layout
  laid = layout scene.program

  abbrev Does : Label → CType → Spans → Trees → List Operand → Type 0
  Does form kind spans parts operands = DidFits scene world (node form kind spans parts) operands (operate scene world locks form kind operands)

  number_node : (z : ℤ) (kind : CType) (spans : Spans) (parts : Trees) (operands : List Operand) → FitsExpression place (label.number z) kind (listed parts) → Does (label.number z) kind spans parts operands
  number_node z (integer one) spans no_trees operands fits = number_fits scene world typed (label.number z) (integer one) spans no_trees operands one z refl fits.1 refl
  number_node z kind spans no_trees operands fits = absurd fits
  number_node z kind spans (more_trees a rest) operands fits = absurd fits

  enumerator_range : (d : ℕ) (entry : Option Declaration) → declaration_of scene.program d ≡ entry → IfSome entry (λ one. IsTrue (is_enumerator one.sort)) → IsSome entry → InRange Int (enumerator_in entry)
  enumerator_range d None e fits is = absurd (false≢true is)
  enumerator_range d (Some entry) e fits is = sort_range entry.sort entry.kind _ fits (scope.entries d entry e)

  enumerator_node : (d : ℕ) (kind : CType) (spans : Spans) (parts : Trees) (operands : List Operand) → FitsExpression place (label.enumerator d) kind (listed parts) → Does (label.enumerator d) kind spans parts operands
  enumerator_node d kind spans no_trees operands fits =
      number_fits scene world typed (label.enumerator d) kind spans no_trees operands Int (enumerator_in (declaration_of scene.program d)) (ap integer_kind fits.1)
      (enumerator_range d (declaration_of scene.program d) refl fits.0.0 fits.0.1) refl
  enumerator_node d kind spans parts operands fits = absurd fits

  object_node : (d : ℕ) (kind : CType) (spans : Spans) (parts : Trees) (operands : List Operand) → Does (label.object d) kind spans parts operands
  object_node d kind spans parts operands = by_name (object_named scene.objects d)
    where
      by_name : (found : Option ℕ) → DidFits scene world (node (label.object d) kind spans parts) operands (designated world found)
      by_name None = λ e. absurd (cc)
      by_name (Some n) = (typed, stay_same world.memory, refl)

  function_entry : (d : ℕ) (kind : CType) (entry : Option Declaration) → declaration_of scene.program d ≡ entry → IfSome entry (λ one. IsTrue (is_function_sort one.sort && covers one.kind kind)) → IsSome entry → IsGiven laid kind unset
  function_entry d kind None e fits is = absurd (false≢true is)
  function_entry d kind (Some entry) e fits is =
      function_given laid entry.kind kind (function_sort entry.sort entry.kind _ (and_left (is_function_sort entry.sort) (covers entry.kind kind) fits) (scope.entries d entry e))
      (and_right (is_function_sort entry.sort) (covers entry.kind kind) fits)

  function_node : (d : ℕ) (kind : CType) (spans : Spans) (parts : Trees) (operands : List Operand) → FitsExpression place (label.function d) kind (listed parts) → Does (label.function d) kind spans parts operands
  function_node d kind spans no_trees operands fits = (typed, stay_same world.memory, (refl, function_entry d kind (declaration_of scene.program d) refl fits.0 fits.1))
  function_node d kind spans parts operands fits = absurd fits

  read_node : (kind : CType) (spans : Spans) (parts : Trees) (operands : List Operand) → FitsExpression place label.read kind (listed parts) → IsProperTree (node label.read kind spans parts) → AreOperands laid every parts operands
      → Does label.read kind spans parts operands
  read_node kind spans (more_trees a no_trees) operands fits proper h =
      one_fits scene world typed label.read kind spans (more_trees a no_trees) operands a (λ x. on_place x.result (read_at scene world locks kind)) operands (λ x g. g) h
      (λ x there is. place_fits scene world typed label.read kind spans (more_trees a no_trees) operands a x.result is.1 fits.0 (read_at scene world locks kind)
      (λ at e. read_fits scene world typed label.read kind spans (more_trees a no_trees) operands locks (kind_of a) x there at e (proper_root a proper.1.0) fits.1 fits.2 refl))
  read_node kind spans parts operands fits proper h = absurd fits

  decay_node : (kind : CType) (spans : Spans) (parts : Trees) (operands : List Operand) → FitsExpression place label.decay kind (listed parts) → AreOperands laid every parts operands → Does label.decay kind spans parts operands
  decay_node kind spans (more_trees a no_trees) operands fits h =
      one_fits scene world typed label.decay kind spans (more_trees a no_trees) operands a (λ x. on_place x.result (decayed scene world x.kind)) operands (λ x g. g) h
      (λ x there is. place_fits scene world typed label.decay kind spans (more_trees a no_trees) operands a x.result is.1 fits.0 (decayed scene world x.kind)
      (λ at e. decay_fits scene world typed label.decay kind spans (more_trees a no_trees) operands (kind_of a) x.kind x there at e fits.1 refl))
  decay_node kind spans parts operands fits h = absurd fits

  address_node : (kind : CType) (spans : Spans) (parts : Trees) (operands : List Operand) → FitsExpression place label.address kind (listed parts) → AreOperands laid every parts operands → Does label.address kind spans parts operands
  address_node kind spans (more_trees a no_trees) operands fits h =
      one_fits scene world typed label.address kind spans (more_trees a no_trees) operands a (λ x. on_place x.result (λ at. plain world (pointer_value (leads_to at)))) operands (λ x g. g) h
      (λ x there is. place_fits scene world typed label.address kind spans (more_trees a no_trees) operands a x.result is.1 fits.0 (λ at. plain world (pointer_value (leads_to at)))
      (λ at e. address_fits scene world typed label.address kind spans (more_trees a no_trees) operands (kind_of a) (leads_to at) fits.1 refl))
  address_node kind spans parts operands fits h = absurd fits

  follow_node : (kind : CType) (spans : Spans) (parts : Trees) (operands : List Operand) → FitsExpression place label.follow kind (listed parts) → AreOperands laid every parts operands → Does label.follow kind spans parts operands
  follow_node kind spans (more_trees a no_trees) operands fits h =
      one_fits scene world typed label.follow kind spans (more_trees a no_trees) operands a (λ x. on_value x.result (followed world)) operands (λ x g. g) h
      (λ x there is. value_fits scene world typed label.follow kind spans (more_trees a no_trees) operands a x.result is.1 (value_no_lvalue a fits.0) (followed world)
      (λ value e given. followed_fits scene world typed label.follow kind spans (more_trees a no_trees) operands value (address_given laid (kind_of a) kind (ap target fits.1) value given) refl))
  follow_node kind spans parts operands fits h = absurd fits

  -- conversions, by the type converted to
  convert_by : (kind : CType) (spans : Spans) (a : Tree) (lengths : Trees) (operands : List Operand) (x : Operand) → IsValue a → Becomes place a kind → IsProper kind → IsResult laid a x.result
      → DidFits scene world (node label.convert kind spans (more_trees a lengths)) operands (convert_to world kind x.result)
  convert_by void spans a lengths operands x v fits proper is = (typed, stay_same world.memory, (refl, void_given laid))
  convert_by (integer one) spans a lengths operands x v fits proper is =
      set_fits scene world typed label.convert (integer one) spans (more_trees a lengths) operands a x.result is (value_no_lvalue a v) (converted world (integer one))
      (λ value e given. integer_fits scene world typed label.convert (integer one) spans (more_trees a lengths) operands one (kind_of a) refl (becomes_scalar place a one fits) refl value given)
  convert_by (pointer inner) spans a lengths operands x v fits proper is =
      set_fits scene world typed label.convert (pointer inner) spans (more_trees a lengths) operands a x.result is (value_no_lvalue a v) (converted world (pointer inner))
      (λ value e given. pointer_fits scene world typed label.convert (pointer inner) spans (more_trees a lengths) operands inner refl refl value (by_target (target (kind_of a)) refl fits value given))
    where
      by_target : (from : Option CType) → target (kind_of a) ≡ from → BecomesPointer place a inner from → (value : Value) → IsGiven laid (kind_of a) value → ((one : Kind) × IsNumber one value) ⊎ IsAddress value
      by_target (Some from) e h value given = inr (address_given laid (kind_of a) from e value given)
      by_target None e h value given =
          let one = constant_integer scene.program a (constant_parts scene.program a (pos 0) h).0 in
          inl (one.0, number_given laid (kind_of a) one.0 one.1 value given)
  convert_by kind spans a lengths operands x v fits proper is = absurd fits

  convert_node : (kind : CType) (spans : Spans) (parts : Trees) (operands : List Operand) → FitsExpression place label.convert kind (listed parts) → IsProperTree (node label.convert kind spans parts) → AreOperands laid only_first parts operands
      → Does label.convert kind spans parts operands
  convert_node kind spans (more_trees a lengths) operands fits proper h =
      first_fits scene world typed label.convert kind spans (more_trees a lengths) operands a lengths (λ x. convert_to world kind x.result) operands (λ x g. g) h
      (λ x there is. convert_by kind spans a lengths operands x fits.0 fits.1 proper.0 is.1)
  convert_node kind spans no_trees operands fits proper h = absurd fits

  -- a member of a value, and of an object (6.5.2.3)
  value_member : (n : ℕ) (kind : CType) (spans : Spans) (a : Tree) (operands : List Operand) → FitsMember place.types false (kind_of a) n kind → IsTrue (not (is_lvalue a)) → (value : Value) → IsGiven laid (kind_of a) value
      → DidFits scene world (node (label.member n) kind spans (more_trees a no_trees)) operands (member_value world (or_unset (part_value value (part n ∷ []))))
  value_member n kind spans a operands fits v value given = by_type (member_type place.types (kind_of a) n) refl fits.0 fits.1
    where
      by_type : (found : Option CType) → member_type place.types (kind_of a) n ≡ found → IfSome found (λ type. (kind ≡ bare type) × IsTrue (not (is_array_type type))) → IsSome found
          → DidFits scene world (node (label.member n) kind spans (more_trees a no_trees)) operands (member_value world (or_unset (part_value value (part n ∷ []))))
      by_type None e h is = absurd (false≢true is)
      by_type (Some type) e h is =
          let m = member_found place (kind_of a) n type e in
          let field = field_there scene.program.table scope.table m.0 m.1 m.4 n m.2 m.5 in
          let own : own_type (kind_of a) ≡ struct m.0 = ap own_type m.3 in
          let kinds : slice_get (part_types laid (own_type (kind_of a))) n ≡ Some field.0.kind =
          ap (λ (t : CType). slice_get (part_types laid t) n) own ∙ mapped_get (λ (one : Field). one.kind) (laid.fields m.0) n ∙ ap (option_map (λ (one : Field). one.kind)) field.1 in
          let all = compound_has laid (kind_of a) field.0.kind n value given.typed (ap has_parts own) kinds in
          let one = nth_has laid (part_types laid (own_type (kind_of a))) all.0 n field.0.kind all.2 kinds in
          let found : part_value value (part n ∷ []) ≡ Some one.0 =
          ap (λ (w : Value). part_value w (part n ∷ [])) all.1 ∙ ap (λ (o : Option Value). option_and_then (λ w. part_value w []) o) one.1 in
          let same : field.0.kind ≡ type = field.2 ∙ m.6 in
          let proper : IsProper type = subst IsProper m.6 (table_proper scene.program.table m.2.kind) in
          let typed_found : HasType laid kind one.0 = has_own laid field.0.kind kind (ap own_type same ∙ sym (own_bare type) ∙ ap own_type (sym h.0)) one.0 one.2 in
          subst (λ (w : Option Value). DidFits scene world (node (label.member n) kind spans (more_trees a no_trees)) operands (member_value world (or_unset w))) (sym found)
          (unless_fits scene world typed (label.member n) kind spans (more_trees a no_trees) operands (when Unset (is_unset one.0)) (plain world one.0)
          (λ c. plain_fits scene world typed (label.member n) kind spans (more_trees a no_trees) operands one.0 v (record {
            typed = typed_found;
            set = λ t. when_false Unset (is_unset one.0) c;
            whole = subst (λ (t : CType). IsTrue (not (is_array (own_type t)))) (sym h.0) (proper_whole type proper h.1);
          }))
          (λ f. absurd (unset_apart (is_unset one.0) f)))

  member_by : (n : ℕ) (kind : CType) (spans : Spans) (a : Tree) (operands : List Operand) (x : Operand) → IsAmong x operands → FitsMember place.types (is_lvalue a) (kind_of a) n kind → (r : Result) → x.result ≡ r → IsResult laid a r
      → DidFits scene world (node (label.member n) kind spans (more_trees a no_trees)) operands (member_of scene world n x.kind r)
  member_by n kind spans a operands x there fits (of_value value) e is =
      value_member n kind spans a operands (subst (λ (b : Bool). FitsMember place.types b (kind_of a) n kind) (not_true (is_lvalue a) is.0) fits) is.0 value is.1
  member_by n kind spans a operands x there fits (designates at) e is =
      unless_fits scene world typed (label.member n) kind spans (more_trees a no_trees) operands (entry_causes laid world.memory x.kind at) (gives world (designates (part_of at n)) [])
      (λ c. (typed, stay_same world.memory, is))
      (λ f. mistyped scene world typed (label.member n) kind spans (more_trees a no_trees) operands x at there e x.kind (entry_other laid world.memory x.kind at f))

  member_node : (n : ℕ) (kind : CType) (spans : Spans) (parts : Trees) (operands : List Operand) → FitsExpression place (label.member n) kind (listed parts) → AreOperands laid every parts operands → Does (label.member n) kind spans parts operands
  member_node n kind spans (more_trees a no_trees) operands fits h =
      one_fits scene world typed (label.member n) kind spans (more_trees a no_trees) operands a (λ x. member_of scene world n x.kind x.result) operands (λ x g. g) h
      (λ x there is. member_by n kind spans a operands x there fits.1 x.result refl is.1)
  member_node n kind spans parts operands fits h = absurd fits

  -- unary operators (6.5.3.3)
  not_node : (kind : CType) (spans : Spans) (a : Tree) (operands : List Operand) → IsValue a → IsTrue (is_scalar (kind_of a)) → kind ≡ integer Int → AreOperands laid every (more_trees a no_trees) operands
      → Does (label.unary s.Not) kind spans (more_trees a no_trees) operands
  not_node kind spans a operands v scalar e h =
      one_fits scene world typed (label.unary s.Not) kind spans (more_trees a no_trees) operands a (λ x. on_value x.result (signed world kind s.Not)) operands (λ x g. g) h
      (λ x there is. value_fits scene world typed (label.unary s.Not) kind spans (more_trees a no_trees) operands a x.result is.1 (value_no_lvalue a v) (signed world kind s.Not)
      (λ value f given. truth_fits scene world typed (label.unary s.Not) kind spans (more_trees a no_trees) operands (kind_of a) scalar value given (λ truth. plain world (truth_in kind (not truth)))
      (λ b. plain_fits scene world typed (label.unary s.Not) kind spans (more_trees a no_trees) operands (truth_in kind (not b)) refl
      (truth_given scene world typed (label.unary s.Not) kind spans (more_trees a no_trees) operands Int (not b) (ap integer_kind e)))))

  -- the other ones, which a sign names
  abbrev IsOther : Sign → Type 0
  IsOther s.Not = ⊥
  IsOther sign = Unit {0}

  signed_is : (sign : Sign) (kind : CType) (one : Kind) (z : ℤ) → IsOther sign → signed world kind sign (integer_value one z) ≡ faulted (unary_value sign one z) (number_alone world kind)
  signed_is s.Plus kind one z h = refl
  signed_is s.Minus kind one z h = refl
  signed_is s.Complement kind one z h = refl
  signed_is s.Not kind one z h = absurd h

  sign_node : (sign : Sign) (kind : CType) (spans : Spans) (a : Tree) (operands : List Operand) → IsOther sign → IsValue a → kind_of a ≡ kind → IsTrue (is_integer kind) → AreOperands laid every (more_trees a no_trees) operands
      → Does (label.unary sign) kind spans (more_trees a no_trees) operands
  sign_node sign kind spans a operands other v same is_int h =
      let one = some_of (integer_kind kind) is_int in
      one_fits scene world typed (label.unary sign) kind spans (more_trees a no_trees) operands a (λ x. on_value x.result (signed world kind sign)) operands (λ x g. g) h
      (λ x there is. value_fits scene world typed (label.unary sign) kind spans (more_trees a no_trees) operands a x.result is.1 (value_no_lvalue a v) (signed world kind sign)
      (λ value f given.
      let n = number_given laid (kind_of a) one.0 (ap integer_kind same ∙ one.1) value given in
      subst (λ (w : Value). DidFits scene world (node (label.unary sign) kind spans (more_trees a no_trees)) operands (signed world kind sign w)) (sym n.is)
      (subst (λ (did : Did). DidFits scene world (node (label.unary sign) kind spans (more_trees a no_trees)) operands did) (sym (signed_is sign kind one.0 n.z other))
      (faulted_fits scene world typed (label.unary sign) kind spans (more_trees a no_trees) operands (unary_value sign one.0 n.z) (number_alone world kind)
      (λ z g. number_fits scene world typed (label.unary sign) kind spans (more_trees a no_trees) operands one.0 z one.1
      (in_unary scene world typed (label.unary sign) kind spans (more_trees a no_trees) operands sign one.0 n.z z n.range g) refl)))))

  unary_node : (sign : Sign) (kind : CType) (spans : Spans) (parts : Trees) (operands : List Operand) → FitsExpression place (label.unary sign) kind (listed parts) → AreOperands laid every parts operands → Does (label.unary sign) kind spans parts operands
  unary_node s.Not kind spans (more_trees a no_trees) operands fits h = not_node kind spans a operands fits.0.0 fits.0.1 fits.1 h
  unary_node s.Plus kind spans (more_trees a no_trees) operands fits h = sign_node s.Plus kind spans a operands tt fits.0 fits.1 fits.3 h
  unary_node s.Minus kind spans (more_trees a no_trees) operands fits h = sign_node s.Minus kind spans a operands tt fits.0 fits.1 fits.3 h
  unary_node s.Complement kind spans (more_trees a no_trees) operands fits h = sign_node s.Complement kind spans a operands tt fits.0 fits.1 fits.3 h
  unary_node sign kind spans parts operands fits h = absurd fits

  -- binary operators (6.5.5 to 6.5.12)
  module _ (op : Op) (kind : CType) (spans : Spans) (a b : Tree) (operands : List Operand) where
    abbrev Sum : Did → Type 0
    Sum did = DidFits scene world (node (label.binary op) kind spans (more_trees a (more_trees b no_trees))) operands did

    pointer_number : (left : CType) (inner : CType) (one : Kind) (x y : Value) → IsAddress x → IsNumber one y → (type : CType) → type ≡ pointer inner → kind ≡ type → (op ≡ o.Add) ⊎ (op ≡ o.Sub) → Sum (combined scene world kind left op x y)
    pointer_number left inner one x y p n type e f which =
        subst (λ (w : Value). Sum (combined scene world kind left op w y)) (sym p.is)
        (subst (λ (w : Value). Sum (combined scene world kind left op (pointer_value p.p) w)) (sym n.is) (by_op which))
      where
        by_op : (op ≡ o.Add) ⊎ (op ≡ o.Sub) → Sum (on_move op n.z (pointer_plus scene world kind p.p))
        by_op (inl g) = subst (λ (c : Op). Sum (on_move c n.z (pointer_plus scene world kind p.p))) (sym g) (further_fits scene world typed (label.binary op) kind spans (more_trees a (more_trees b no_trees)) operands type inner p.p n.z e f refl)
        by_op (inr g) = subst (λ (c : Op). Sum (on_move c n.z (pointer_plus scene world kind p.p))) (sym g) (further_fits scene world typed (label.binary op) kind spans (more_trees a (more_trees b no_trees)) operands type inner p.p (neg_ℤ n.z) e f refl)

    number_pointer : (left : CType) (inner : CType) (one : Kind) (x y : Value) → IsNumber one x → IsAddress y → (type : CType) → type ≡ pointer inner → kind ≡ type → op ≡ o.Add → Sum (combined scene world kind left op x y)
    number_pointer left inner one x y n p type e f g =
        subst (λ (w : Value). Sum (combined scene world kind left op w y)) (sym n.is)
        (subst (λ (w : Value). Sum (combined scene world kind left op (integer_value one n.z) w)) (sym p.is)
        (subst (λ (c : Op). Sum (on_plus c (pointer_plus scene world kind p.p n.z))) (sym g) (further_fits scene world typed (label.binary op) kind spans (more_trees a (more_trees b no_trees)) operands type inner p.p n.z e f refl)))

  moves_one : (op : Op) (left right kind : CType) (one : Kind) (from : CType) (to : Option CType) → FitsBinary place op left right kind None (Some one) (Some from) to → ((op ≡ o.Add) ⊎ (op ≡ o.Sub)) × (kind ≡ bare left)
  moves_one o.Add left right kind one from to fits = (inl refl, fits.1)
  moves_one o.Sub left right kind one from to fits = (inr refl, fits.1)
  moves_one op left right kind one from to fits = absurd fits

  moves_other : (op : Op) (left right kind : CType) (one : Kind) (from : Option CType) (to : CType) → FitsBinary place op left right kind (Some one) None from (Some to) → (op ≡ o.Add) × (kind ≡ bare right)
  moves_other o.Add left right kind one from to fits = (refl, fits.1)
  moves_other op left right kind one from to fits = absurd fits

  never_binary : (op : Op) (left right kind : CType) (one : Kind) (from : Option CType) → FitsBinary place op left right kind (Some one) None from None → ⊥
  never_binary o.Add left right kind one from fits = fits
  never_binary op left right kind one from fits = fits

  never_moved : (op : Op) (left right kind : CType) (one : Kind) (to : Option CType) → FitsBinary place op left right kind None (Some one) None to → ⊥
  never_moved o.Add left right kind one to fits = fits
  never_moved o.Sub left right kind one to fits = fits
  never_moved op left right kind one to fits = fits

  never_alone : (op : Op) (left right kind from : CType) → FitsBinary place op left right kind None None (Some from) None → ⊥
  never_alone op left right kind from fits = fits

  never_first : (op : Op) (left right kind : CType) (to : Option CType) → FitsBinary place op left right kind None None None to → ⊥
  never_first op left right kind to fits = fits

  binary_by : (op : Op) (kind : CType) (spans : Spans) (a b : Tree) (operands : List Operand) (x y : Operand) → IsAmong x operands → IsAmong y operands → x.kind ≡ kind_of a → is_const (kind_of a) ≡ false
      → (u w : Value) → x.result ≡ of_value u → y.result ≡ of_value w → IsGiven laid (kind_of a) u → IsGiven laid (kind_of b) w
      → (first second : Option Kind) (from to : Option CType) → integer_kind (kind_of a) ≡ first → integer_kind (kind_of b) ≡ second → target (kind_of a) ≡ from → target (kind_of b) ≡ to
      → FitsBinary place op (kind_of a) (kind_of b) kind first second from to
      → DidFits scene world (node (label.binary op) kind spans (more_trees a (more_trees b no_trees))) operands (combined scene world kind x.kind op u w)
  binary_by op kind spans a b operands x y xs ys same plain_left u w eu ew gu gw (Some first) (Some second) from to f g h i fits =
      integers_fit scene world typed (label.binary op) kind spans (more_trees a (more_trees b no_trees)) operands op (kind_of a) (kind_of b) x.kind first second fits u w
      (number_given laid (kind_of a) first f u gu) (number_given laid (kind_of b) second g w gw) refl
  binary_by op kind spans a b operands x y xs ys same plain_left u w eu ew gu gw None None (Some from) (Some to) f g h i fits =
      let p = address_given laid (kind_of a) from h u gu in
      let q = address_given laid (kind_of b) to i w gw in
      subst (λ (v : Value). DidFits scene world (node (label.binary op) kind spans (more_trees a (more_trees b no_trees))) operands (combined scene world kind x.kind op v w)) (sym p.is)
      (subst (λ (v : Value). DidFits scene world (node (label.binary op) kind spans (more_trees a (more_trees b no_trees))) operands (combined scene world kind x.kind op (pointer_value p.p) v)) (sym q.is)
      (pointers_fit scene world typed (label.binary op) kind spans (more_trees a (more_trees b no_trees)) operands place op from to x.kind (same ∙ plain_target (kind_of a) from plain_left h) fits p.p q.p
      (result_among x operands xs (of_value (pointer_value p.p)) (eu ∙ ap of_value p.is)) (result_among y operands ys (of_value (pointer_value q.p)) (ew ∙ ap of_value q.is)) refl))
  binary_by op kind spans a b operands x y xs ys same plain_left u w eu ew gu gw None (Some second) (Some from) to f g h i fits =
      let m = moves_one op (kind_of a) (kind_of b) kind second from to fits in
      pointer_number op kind spans a b operands x.kind from second u w (address_given laid (kind_of a) from h u gu) (number_given laid (kind_of b) second g w gw) (bare (kind_of a)) (bare_target (kind_of a) from h) m.1 m.0
  binary_by op kind spans a b operands x y xs ys same plain_left u w eu ew gu gw (Some first) None from (Some to) f g h i fits =
      let m = moves_other op (kind_of a) (kind_of b) kind first from to fits in
      number_pointer op kind spans a b operands x.kind to first u w (number_given laid (kind_of a) first f u gu) (address_given laid (kind_of b) to i w gw) (bare (kind_of b)) (bare_target (kind_of b) to i) m.1 m.0
  binary_by op kind spans a b operands x y xs ys same plain_left u w eu ew gu gw (Some first) None from None f g h i fits = absurd (never_binary op (kind_of a) (kind_of b) kind first from fits)
  binary_by op kind spans a b operands x y xs ys same plain_left u w eu ew gu gw None (Some second) None to f g h i fits = absurd (never_moved op (kind_of a) (kind_of b) kind second to fits)
  binary_by op kind spans a b operands x y xs ys same plain_left u w eu ew gu gw None None (Some from) None f g h i fits = absurd (never_alone op (kind_of a) (kind_of b) kind from fits)
  binary_by op kind spans a b operands x y xs ys same plain_left u w eu ew gu gw None None None to f g h i fits = absurd (never_first op (kind_of a) (kind_of b) kind to fits)

  binary_node : (op : Op) (kind : CType) (spans : Spans) (parts : Trees) (operands : List Operand) → FitsExpression place (label.binary op) kind (listed parts)
      → ((a : Tree) (rest : Trees) → parts ≡ more_trees a rest → IsValue a → is_const (kind_of a) ≡ false) → AreOperands laid every parts operands → Does (label.binary op) kind spans parts operands
  binary_node op kind spans (more_trees a (more_trees b no_trees)) operands fits plain_left h =
      two_fits scene world typed (label.binary op) kind spans (more_trees a (more_trees b no_trees)) operands a b (λ x y. on_value x.result (λ u. on_value y.result (combined scene world kind x.kind op u))) operands (λ x g. g) h
      (λ x y xs ys is it. value_fits scene world typed (label.binary op) kind spans (more_trees a (more_trees b no_trees)) operands a x.result is.1 (value_no_lvalue a fits.0) (λ u. on_value y.result (combined scene world kind x.kind op u))
      (λ u eu gu. value_fits scene world typed (label.binary op) kind spans (more_trees a (more_trees b no_trees)) operands b y.result it.1 (value_no_lvalue b fits.1) (combined scene world kind x.kind op u)
      (λ w ew gw. binary_by op kind spans a b operands x y xs ys is.0 (plain_left a (more_trees b no_trees) refl fits.0) u w eu ew gu gw (integer_kind (kind_of a)) (integer_kind (kind_of b)) (target (kind_of a)) (target (kind_of b)) refl refl refl refl fits.2)))
  binary_node op kind spans parts operands fits plain_left h = absurd fits

  -- assignments (6.5.16, 6.5.2.4)
  store_node : (kind : CType) (spans : Spans) (parts : Trees) (operands : List Operand) → FitsExpression place label.store kind (listed parts) → AreOperands laid every parts operands → Does label.store kind spans parts operands
  store_node kind spans (more_trees a (more_trees b no_trees)) operands fits h =
      two_fits scene world typed label.store kind spans (more_trees a (more_trees b no_trees)) operands a b (λ x y. on_place x.result (λ at. on_set y.result (store_at scene world locks kind at))) operands (λ x g. g) h
      (λ x y xs ys is it. place_fits scene world typed label.store kind spans (more_trees a (more_trees b no_trees)) operands a x.result is.1 fits.0.0 (λ at. on_set y.result (store_at scene world locks kind at))
      (λ at e. set_fits scene world typed label.store kind spans (more_trees a (more_trees b no_trees)) operands b y.result it.1 (value_no_lvalue b fits.1) (store_at scene world locks kind at)
      (λ value f given.
      let same : kind_of b ≡ bare (kind_of a) = fits.3 ∙ fits.2 in
      let values : IsTrue (has_values (own_type (kind_of b))) = ap (λ (t : CType). has_values t) (ap own_type same ∙ own_bare (kind_of a)) ∙ complete_values scene.program.table (kind_of a) fits.0.2 in (
        given.set values,
        store_fits scene world typed label.store kind spans (more_trees a (more_trees b no_trees)) operands locks x xs at e value (subst (λ (t : CType). IsGiven laid t value) fits.3 given) (given.set values) refl,
      ))))
  store_node kind spans parts operands fits h = absurd fits

  -- what ++ or -- makes of a value of the object's type
  module _ (form : Label) (kind : CType) (spans : Spans) (parts : Trees) (operands : List Operand) where
    abbrev Makes : Made → Value → Value → Type 0
    Makes made old given = MadeFits scene world typed form kind spans parts operands made old given

    nothing_made : (made : Made) (given : Value) → (IsAmong OtherType made.causes → ⊥) → Makes made unset given
    nothing_made made given apart = (apart, λ c e. absurd (true≢false e))

    count_number : (plus before : Bool) (one : Kind) (z : ℤ) → integer_kind kind ≡ Some one → InRange one z
        → Makes (counted scene world kind plus (integer_value one z)) (integer_value one z) (if before then (counted scene world kind plus (integer_value one z)).value else integer_value one z)
    count_number plus before one z e range =
        number_made scene world typed form kind spans parts operands one (counted_value plus one z) (integer_value one z) (integer_value one z) before e
        (λ y f. updated_range scene world typed form kind spans parts operands (count_op plus) (common one Int) one z (pos 1) y f) (given_number laid kind one z e range)

    count_pointer : (plus before : Bool) (inner : CType) (p : Pointer) → kind ≡ pointer inner
        → Makes (counted scene world kind plus (pointer_value p)) (pointer_value p) (if before then (counted scene world kind plus (pointer_value p)).value else pointer_value p)
    count_pointer plus before inner p e =
        subst (λ (t : CType). Makes (made_pointer scene world t p (if plus then pos 1 else neg_ℤ (pos 1))) (pointer_value p) (if before then (made_pointer scene world t p (if plus then pos 1 else neg_ℤ (pos 1))).value else pointer_value p)) (sym e)
        (further_made scene world typed form kind spans parts operands inner p (if plus then pos 1 else neg_ℤ (pos 1)) (pointer_value p) (pointer_value p) before e
        (subst (λ (t : CType). IsGiven laid t (pointer_value p)) (sym e) (given_address laid inner p)))

    count_made : (plus before : Bool) → is_const kind ≡ false → IsTrue (is_scalar kind) → (old : Value) → HasType laid kind old ⊎ (old ≡ unset)
        → Makes (counted scene world kind plus old) old (if before then (counted scene world kind plus old).value else old)
    count_made plus before c scalar old (inr e) =
        subst (λ (w : Value). Makes (counted scene world kind plus w) w (if before then (counted scene world kind plus w).value else w)) (sym e) (nothing_made (counted scene world kind plus unset) (if before then (counted scene world kind plus unset).value else unset) (λ f. f))
    count_made plus before c scalar old (inl h) = by_kind (integer_kind kind) refl
      where
        by_number : (one : Kind) → integer_kind kind ≡ Some one → IsNumber one old ⊎ (old ≡ unset) → Makes (counted scene world kind plus old) old (if before then (counted scene world kind plus old).value else old)
        by_number one e (inl n) = subst (λ (w : Value). Makes (counted scene world kind plus w) w (if before then (counted scene world kind plus w).value else w)) (sym n.is) (count_number plus before one n.z e n.range)
        by_number one e (inr f) = subst (λ (w : Value). Makes (counted scene world kind plus w) w (if before then (counted scene world kind plus w).value else w)) (sym f) (nothing_made (counted scene world kind plus unset) (if before then (counted scene world kind plus unset).value else unset) (λ g. g))

        by_address : (inner : CType) → kind ≡ pointer inner → IsAddress old ⊎ (old ≡ unset) → Makes (counted scene world kind plus old) old (if before then (counted scene world kind plus old).value else old)
        by_address inner e (inl p) = subst (λ (w : Value). Makes (counted scene world kind plus w) w (if before then (counted scene world kind plus w).value else w)) (sym p.is) (count_pointer plus before inner p.p e)
        by_address inner e (inr f) = subst (λ (w : Value). Makes (counted scene world kind plus w) w (if before then (counted scene world kind plus w).value else w)) (sym f) (nothing_made (counted scene world kind plus unset) (if before then (counted scene world kind plus unset).value else unset) (λ g. g))

        by_kind : (o : Option Kind) → integer_kind kind ≡ o → Makes (counted scene world kind plus old) old (if before then (counted scene world kind plus old).value else old)
        by_kind (Some one) e = by_number one e (has_number laid kind one (own_integer kind one e) old h)
        by_kind None e =
            let t = some_of (target kind) (ap (λ (o : Option Kind). is_some o || is_pointer kind) (sym e) ∙ scalar) in
            by_address t.0 (plain_target kind t.0 c t.1) (has_address laid kind t.0 (own_target kind t.0 t.1) old h)

    -- what a compound assignment makes of it
    right_stands : (op : Op) (works : CType) (object_kind right : Kind) (n : ℤ) → works ≡ integer (if is_shift op then promote object_kind else right) → InRange right n → is_right op (kind_in works) n ≡ true
    right_stands op works object_kind right n e range = by_shift (is_shift op) refl
      where
        by_shift : (b : Bool) → is_shift op ≡ b → is_right op (kind_in works) n ≡ true
        by_shift true f = ap (λ b. b || is_in_range (kind_in works) n) f
        by_shift false f =
            ap (λ b. b || is_in_range (kind_in works) n) f ∙ ap (λ (t : CType). is_in_range (kind_in t) n) (e ∙ ap (λ b. integer (if b then promote object_kind else right)) f) ∙ in_range_test right n range

    update_number : (op : Op) (works : CType) (one right : Kind) (m n : ℤ) → integer_kind kind ≡ Some one → InRange one m → works ≡ integer (if is_shift op then promote one else right) → InRange right n
        → Makes (updated scene world kind op works (integer_value one m) (integer_value right n)) (integer_value one m) (updated scene world kind op works (integer_value one m) (integer_value right n)).value
    update_number op works one right m n e range f there =
        subst (λ (b : Bool). Makes (made_right b (made_number one (updated_value op (kind_in works) one m n))) (integer_value one m) (made_right b (made_number one (updated_value op (kind_in works) one m n))).value)
        (sym (right_stands op works one right n f there))
        (number_made scene world typed form kind spans parts operands one (updated_value op (kind_in works) one m n) (integer_value one m) (integer_value one m) true e
        (λ z g. updated_range scene world typed form kind spans parts operands op (kind_in works) one m n z g) (given_number laid kind one m e range))

    update_pointer : (op : Op) (works inner : CType) (right : Kind) (p : Pointer) (n : ℤ) → kind ≡ pointer inner
        → Makes (updated scene world kind op works (pointer_value p) (integer_value right n)) (pointer_value p) (updated scene world kind op works (pointer_value p) (integer_value right n)).value
    update_pointer op works inner right p n e =
        subst (λ (t : CType). Makes (made_pointer scene world t p (move_of op n)) (pointer_value p) (made_pointer scene world t p (move_of op n)).value) (sym e)
        (further_made scene world typed form kind spans parts operands inner p (move_of op n) (pointer_value p) (pointer_value p) true e
        (subst (λ (t : CType). IsGiven laid t (pointer_value p)) (sym e) (given_address laid inner p)))

    update_made : (op : Op) (works right_type : CType) → is_const kind ≡ false → (object_kind right : Option Kind) → integer_kind kind ≡ object_kind → integer_kind right_type ≡ right → UpdateFits place op kind works object_kind right
        → (old value : Value) → HasType laid kind old ⊎ (old ≡ unset) → IsGiven laid right_type value → Makes (updated scene world kind op works old value) old (updated scene world kind op works old value).value
    update_made op works right_type c (Some one) (Some right) e f fits old value h given =
        let n = number_given laid right_type right f value given in
        subst (λ (w : Value). Makes (updated scene world kind op works old w) old (updated scene world kind op works old w).value) (sym n.is) (by_old n.z n.range (which h))
      where
        which : HasType laid kind old ⊎ (old ≡ unset) → IsNumber one old ⊎ (old ≡ unset)
        which (inl g) = has_number laid kind one (own_integer kind one e) old g
        which (inr g) = inr g

        by_old : (n : ℤ) → InRange right n → IsNumber one old ⊎ (old ≡ unset) → Makes (updated scene world kind op works old (integer_value right n)) old (updated scene world kind op works old (integer_value right n)).value
        by_old n range (inl m) =
            subst (λ (w : Value). Makes (updated scene world kind op works w (integer_value right n)) w (updated scene world kind op works w (integer_value right n)).value) (sym m.is) (update_number op works one right m.z n e m.range fits.2 range)
        by_old n range (inr g) =
            subst (λ (w : Value). Makes (updated scene world kind op works w (integer_value right n)) w (updated scene world kind op works w (integer_value right n)).value) (sym g) (nothing_made (updated scene world kind op works unset (integer_value right n)) (updated scene world kind op works unset (integer_value right n)).value (anyway_apart op (kind_in works) n))
    update_made op works right_type c None (Some right) e f fits old value h given =
        let n = number_given laid right_type right f value given in
        let t = some_of (target kind) fits.2 in
        subst (λ (w : Value). Makes (updated scene world kind op works old w) old (updated scene world kind op works old w).value) (sym n.is) (by_old t.0 (plain_target kind t.0 c t.1) n.z (which t.0 t.1 h))
      where
        which : (inner : CType) → target kind ≡ Some inner → HasType laid kind old ⊎ (old ≡ unset) → IsAddress old ⊎ (old ≡ unset)
        which inner g (inl i) = has_address laid kind inner (own_target kind inner g) old i
        which inner g (inr i) = inr i

        by_old : (inner : CType) → kind ≡ pointer inner → (n : ℤ) → IsAddress old ⊎ (old ≡ unset) → Makes (updated scene world kind op works old (integer_value right n)) old (updated scene world kind op works old (integer_value right n)).value
        by_old inner g n (inl p) =
            subst (λ (w : Value). Makes (updated scene world kind op works w (integer_value right n)) w (updated scene world kind op works w (integer_value right n)).value) (sym p.is) (update_pointer op works inner right p.p n g)
        by_old inner g n (inr i) =
            subst (λ (w : Value). Makes (updated scene world kind op works w (integer_value right n)) w (updated scene world kind op works w (integer_value right n)).value) (sym i) (nothing_made (updated scene world kind op works unset (integer_value right n)) (updated scene world kind op works unset (integer_value right n)).value (anyway_apart op (kind_in works) n))
    update_made op works right_type c (Some one) None e f fits old value h given = absurd fits
    update_made op works right_type c None None e f fits old value h given = absurd fits

  plain_kind : (kind : CType) (a : Tree) → kind ≡ bare (kind_of a) → IsProperTree a → is_const kind ≡ false
  plain_kind kind a e proper = ap is_const e ∙ proper_bare (kind_of a) (proper_root a proper)

  modified_whole : (kind : CType) (a : Tree) → kind ≡ bare (kind_of a) → IsProperTree a → IsTrue (not (is_array_type (kind_of a))) → IsTrue (not (is_array (own_type kind)))
  modified_whole kind a e proper w = subst (λ (t : CType). IsTrue (not (is_array (own_type t)))) (sym e) (proper_whole (kind_of a) (proper_root a proper) w)

  update_node : (op : Op) (works kind : CType) (spans : Spans) (parts : Trees) (operands : List Operand) → FitsExpression place (label.update op works) kind (listed parts) → IsProperTree (node (label.update op works) kind spans parts)
      → AreOperands laid every parts operands → Does (label.update op works) kind spans parts operands
  update_node op works kind spans (more_trees a (more_trees b no_trees)) operands fits proper h =
      two_fits scene world typed (label.update op works) kind spans (more_trees a (more_trees b no_trees)) operands a b (λ x y. on_place x.result (λ at. on_value y.result (update_at scene world locks kind op works at))) operands (λ x g. g) h
      (λ x y xs ys is it. place_fits scene world typed (label.update op works) kind spans (more_trees a (more_trees b no_trees)) operands a x.result is.1 fits.0.0 (λ at. on_value y.result (update_at scene world locks kind op works at))
      (λ at e. value_fits scene world typed (label.update op works) kind spans (more_trees a (more_trees b no_trees)) operands b y.result it.1 (value_no_lvalue b fits.1) (update_at scene world locks kind op works at)
      (λ value f given.
      let none = modified_whole kind a fits.2 proper.1.0 fits.0.1 in
      replace_fits scene world typed (label.update op works) kind spans (more_trees a (more_trees b no_trees)) operands locks x xs at e none
      (updated scene world kind op works (contents_at world.memory at) value) (updated scene world kind op works (contents_at world.memory at) value).value
      (λ g. update_made (label.update op works) kind spans (more_trees a (more_trees b no_trees)) operands op works (kind_of b) (plain_kind kind a fits.2 proper.1.0) (integer_kind kind) (integer_kind (kind_of b)) refl refl fits.3
      (contents_at world.memory at) value (contents_fit laid world.memory typed at kind none g) given) refl)))
  update_node op works kind spans parts operands fits proper h = absurd fits

  count_node : (plus before : Bool) (kind : CType) (spans : Spans) (parts : Trees) (operands : List Operand) → FitsExpression place (label.count plus before) kind (listed parts) → IsProperTree (node (label.count plus before) kind spans parts)
      → AreOperands laid every parts operands → Does (label.count plus before) kind spans parts operands
  count_node plus before kind spans (more_trees a no_trees) operands fits proper h =
      one_fits scene world typed (label.count plus before) kind spans (more_trees a no_trees) operands a (λ x. on_place x.result (count_at scene world locks kind plus before)) operands (λ x g. g) h
      (λ x xs is. place_fits scene world typed (label.count plus before) kind spans (more_trees a no_trees) operands a x.result is.1 fits.0.0 (count_at scene world locks kind plus before)
      (λ at e.
      let none = modified_whole kind a fits.1 proper.1.0 fits.0.1 in
      replace_fits scene world typed (label.count plus before) kind spans (more_trees a no_trees) operands locks x xs at e none
      (counted scene world kind plus (contents_at world.memory at)) (if before then (counted scene world kind plus (contents_at world.memory at)).value else contents_at world.memory at)
      (λ g. count_made (label.count plus before) kind spans (more_trees a no_trees) operands plus before (plain_kind kind a fits.1 proper.1.0) fits.2.0 (contents_at world.memory at) (contents_fit laid world.memory typed at kind none g)) refl))
  count_node plus before kind spans parts operands fits proper h = absurd fits

  sizeof_node : (type kind : CType) (spans : Spans) (parts : Trees) (operands : List Operand) → FitsExpression place (label.sizeof_kind type) kind (listed parts) → Does (label.sizeof_kind type) kind spans parts operands
  sizeof_node type kind spans parts operands fits =
      let n = size_number scene.program.table scope.table type fits.0 in
      subst (λ (o : Option ℕ). DidFits scene world (node (label.sizeof_kind type) kind spans parts) operands (number_alone world kind (pos (or_no_size o)))) (sym n.1)
      (number_fits scene world typed (label.sizeof_kind type) kind spans parts operands ULong (pos n.0) (ap integer_kind fits.2) n.2 refl)

  -- The step of a node by the results of its operands gives a result of its type.
  pub node_fits : (form : Label) (kind : CType) (spans : Spans) (parts : Trees) (operands : List Operand) → IsTrue (is_operated form) → Fits place form kind (listed parts)
      → IsProperTree (node form kind spans parts) → ((a : Tree) (rest : Trees) → parts ≡ more_trees a rest → IsValue a → is_const (kind_of a) ≡ false) → AreOperands laid (open_of form) parts operands → Does form kind spans parts operands
  node_fits (label.number z) kind spans parts operands is fits proper plain_left h = number_node z kind spans parts operands fits
  node_fits (label.enumerator d) kind spans parts operands is fits proper plain_left h = enumerator_node d kind spans parts operands fits
  node_fits (label.literal bytes unit) kind spans parts operands is fits proper plain_left h = (typed, stay_same world.memory, refl)
  node_fits (label.object d) kind spans parts operands is fits proper plain_left h = object_node d kind spans parts operands
  node_fits (label.function d) kind spans parts operands is fits proper plain_left h = function_node d kind spans parts operands fits
  node_fits label.read kind spans parts operands is fits proper plain_left h = read_node kind spans parts operands fits proper h
  node_fits label.decay kind spans parts operands is fits proper plain_left h = decay_node kind spans parts operands fits h
  node_fits label.convert kind spans parts operands is fits proper plain_left h = convert_node kind spans parts operands fits proper h
  node_fits label.address kind spans parts operands is fits proper plain_left h = address_node kind spans parts operands fits h
  node_fits label.follow kind spans parts operands is fits proper plain_left h = follow_node kind spans parts operands fits h
  node_fits (label.member n) kind spans parts operands is fits proper plain_left h = member_node n kind spans parts operands fits h
  node_fits (label.unary sign) kind spans parts operands is fits proper plain_left h = unary_node sign kind spans parts operands fits h
  node_fits (label.binary op) kind spans parts operands is fits proper plain_left h = binary_node op kind spans parts operands fits plain_left h
  node_fits label.store kind spans parts operands is fits proper plain_left h = store_node kind spans parts operands fits h
  node_fits (label.update op works) kind spans parts operands is fits proper plain_left h = update_node op works kind spans parts operands fits proper h
  node_fits (label.count plus before) kind spans parts operands is fits proper plain_left h = count_node plus before kind spans parts operands fits proper h
  node_fits (label.sizeof_kind type) kind spans parts operands is fits proper plain_left h = sizeof_node type kind spans parts operands fits
  node_fits form kind spans parts operands is fits proper plain_left h = absurd (false≢true is)
