-- What the step of a typed node gives, form by form.
use Rattle.std.specs.Prelude.{◌≡◌, refl, ◌⊎◌, Bool, true, false, not, ◌||◌, IsTrue, List, [], ◌∷◌, ◌++◌, Option, Some, None, is_none, Result as Outcome, Ok, Err, IfOk, ℤ, if◌then◌else◌}
use Rattle.std.proofs.Common.{ap, sym, ◌∙◌, subst, inl, inr, true≢false}
use Rattle.std.proofs.lemmas.Bool.{false≢true}
use Rattle.dm_int.specs.declared.Fault.{Fault}
use Rattle.dm_int.specs.declared.Fault.TheVariants.{Overflow, Zero, Shift}
use Rattle.dm_int.specs.declared.Kind.{Kind}
use Rattle.dm_int.specs.declared.Kind.TheVariants.{Int, Long}
use Rattle.dm_int.specs.declared.Op.{Op}
use Rattle.dm_int.specs.declared.Op.TheVariants as o
use Rattle.dm_int.specs.Kinds.{InRange, is_in_range, convert as brought}
use Rattle.dm_int.specs.Operators as operators
use Rattle.dm_int.specs.Ranges.{in_range-convert}
use Rattle.dm_int.specs.Results.{in_range-truth, in_range-binary, in_range-negate, in_range-complement}
use Rattle.dm_type.specs.CTypes.{CType, integer, pointer, array, bare}
use Rattle.dm_tree.specs.declared.tree.Sign.{Sign}
use Rattle.dm_tree.specs.declared.tree.Sign.TheVariants as s
use Rattle.dm_tree.specs.Constants.{integer_kind}
use Rattle.dm_tree.specs.Evaluation.{is_right, is_shift, unary_value, updated_value, converted as converted_in}
use Rattle.dm_tree.specs.Initialisers.{FitsDecay}
use Rattle.dm_tree.specs.Operands.{is_comparison, result_type, FitsIntegers, FitsPointers}
use Rattle.dm_tree.specs.Scenes.{Scene as Standing, IsValue, is_lvalue, is_array as is_array_type, is_scalar, target}
use Rattle.dm_tree.specs.Trees.{Label, Spans, Tree, Trees, node, no_trees, more_trees, kind_of, label_of, is_statement}
use Rattle.dm_meaning.specs.declared.cause.Cause.{Cause}
use Rattle.dm_meaning.specs.declared.cause.Cause.TheVariants.{OtherType}
use Rattle.dm_meaning.specs.Among.{IsAmong}
use Rattle.dm_meaning.specs.Values.{At, Pointer, null, to, Value, integer_value, pointer_value}
use Rattle.dm_meaning.specs.Objects.{Layout, is_array}
use Rattle.dm_meaning.specs.Memory.{reached, contents_at, written}
use Rattle.dm_meaning.specs.Causes.{earliest, fault_cause, is_other, is_unset, is_null, entry_causes, access_causes, read_causes, store_causes, update_causes, use_causes, follow_causes, moved_pointer, moved_causes, pointer_distance, distance_causes, order_causes}
use Rattle.dm_meaning.specs.Programs.{layout}
use Rattle.dm_meaning.specs.Operations.{Result, of_value, designates, Operand, World, Scene, Did, gives, ill, provided, unless, plain, is_of_kind, number_alone, faulted, on_one, on_two, on_value, on_set, on_place, part_of, read_at, followed, decayed, truth_in, converted, told, truth_of, on_truth, on_target, or_null, pointer_further, pointer_plus, or_zero, pointer_minus, byte_at, equal_pointers, ordered, equated, on_pointers, combined, store_at, Made, made_number, made_further, replace_at}
use Rattle.dm_meaning.specs.Running.{every, only_first, nothing}
use Rattle.dm_meaning.proofs.AmongLemmas.{among_either}
use Rattle.dm_meaning.proofs.ConstantLemmas.{typed_is}
use Rattle.dm_meaning.proofs.ExtendLemmas.{nil_left, nil_right}
use Rattle.dm_meaning.proofs.OptionLemmas.{and_left}
use Rattle.dm_meaning.proofs.SetLemmas.{read_set}
use Rattle.dm_sound.specs.TypedValues.{own_type, HasType, IsGiven, AreTyped}
use Rattle.dm_sound.specs.TypedTrees.{IsProper, IsProperTree}
use Rattle.dm_sound.specs.TypedSteps.{IsResult, IsOperand, AreOperands, results, IsMistyped, IsTooFar, DidFits}
use Rattle.dm_sound.proofs.SetLemmas.{stay_same, stay_written}
use Rattle.dm_sound.proofs.AccessLemmas.{earliest_among, use_apart, follow_apart, uses_apart, order_apart, moved_apart, distance_apart, distance_there, access_same, entry_other, read_other, store_other, update_other, read_typed, store_typed}
use Rattle.dm_sound.proofs.GivenLemmas.{in_range_test, range_of, given_number, IsNumber, IsAddress, given_address, scalar_given, proper_whole}

-- ---- what is told of nodes

pub proper_root : (tree : Tree) → IsProperTree tree → IsProper (kind_of tree)
proper_root (node form kind spans parts) h = h.0

pub value_no_lvalue : (tree : Tree) → IsValue tree → IsTrue (not (is_lvalue tree))
value_no_lvalue tree h = and_left (not (is_lvalue tree)) (not (is_statement (label_of tree))) h

no_result : (tree : Tree) → IsTrue (is_lvalue tree) → IsTrue (not (is_lvalue tree)) → ⊥
no_result tree h k = false≢true (sym (ap not h) ∙ k)

fault_apart : (fault : Fault) → fault_cause fault ≡ OtherType → ⊥
fault_apart Overflow e = absurd (cc)
fault_apart Zero e = absurd (cc)
fault_apart Shift e = absurd (cc)

decay_kind : (type kind : CType) → FitsDecay type kind → (inner : CType) × (kind ≡ pointer inner)
decay_kind (array type n) kind h = (type, h)
decay_kind type kind h = absurd h

ok_is : {A B : Type 0} (a b : A) → ◌≡◌ {A = Outcome A B} (Ok a) (Ok b) → a ≡ b
ok_is a b e = cc

pub result_among : (x : Operand) (operands : List Operand) → IsAmong x operands → (r : Result) → x.result ≡ r → IsAmong r (results operands)
result_among x [] h r e = absurd h
result_among x (y ∷ rest) (inl f) r e = inl (sym e ∙ ap (λ (z : Operand). z.result) f)
result_among x (y ∷ rest) (inr h) r e = inr (result_among x rest h r e)

-- ---- steps that give results

module _ (scene : Scene) (world : World) (typed : AreTyped (layout scene.program) world.memory) (form : Label) (kind : CType) (spans : Spans) (parts : Trees) (operands : List Operand) where
  abbrev pub own : Layout
  own = layout scene.program

  abbrev pub tree : Tree
  tree = node form kind spans parts

  abbrev pub Fit : Did → Type 0
  Fit did = DidFits scene world tree operands did

  abbrev pub Excused : Type 0
  Excused = IsMistyped own world.memory (results operands) ⊎ IsTooFar own world.memory (results operands)

  pub mistyped : (x : Operand) (at : At) → IsAmong x operands → x.result ≡ designates at → (access : CType) → is_other access (reached own world.memory at) ≡ true → Excused
  mistyped x at there place access other = inl (record { at = at; access = access; there = result_among x operands there (designates at) place; other = other })

  pub unless_fits : (causes : List Cause) (did : Did) → (causes ≡ [] → Fit did) → (IsAmong OtherType causes → Excused) → Fit (unless causes did)
  unless_fits [] did h k = h refl
  unless_fits (cause ∷ causes) did h k = λ e. k (earliest_among (cause ∷ causes) OtherType (ap Some e))

  pub never_fits : (causes : List Cause) (did : Did) → Fit did → (IsAmong OtherType causes → ⊥) → Fit (unless causes did)
  never_fits causes did h k = unless_fits causes did (λ e. h) (λ e. absurd (k e))

  pub plain_fits : (value : Value) → IsTrue (not (is_lvalue tree)) → IsGiven own kind value → Fit (plain world value)
  plain_fits value v given = (typed, stay_same world.memory, (v, given))

  pub number_fits : (own_kind : Kind) (z : ℤ) → integer_kind kind ≡ Some own_kind → InRange own_kind z → IsTrue (not (is_lvalue tree)) → Fit (number_alone world kind z)
  number_fits own_kind z e h v =
      subst (λ (w : Value). Fit (provided (is_of_kind w) (plain world w))) (sym (typed_is kind own_kind z e))
      (subst (λ (b : Bool). Fit (provided b (plain world (integer_value own_kind z)))) (sym (in_range_test own_kind z h)) (plain_fits (integer_value own_kind z) v (given_number own kind own_kind z e h)))

  pub faulted_fits : (outcome : Outcome ℤ Fault) (following : ℤ → Did) → ((z : ℤ) → outcome ≡ Ok z → Fit (following z)) → Fit (faulted outcome following)
  faulted_fits (Ok z) following h = h z refl
  faulted_fits (Err fault) following h = λ e. absurd (fault_apart fault e)

  pub one_fits : (a : Tree) (following : Operand → Did) (xs : List Operand) → ((x : Operand) → IsAmong x xs → IsAmong x operands) → AreOperands own every (more_trees a no_trees) xs
      → ((x : Operand) → IsAmong x operands → IsOperand own a x → Fit (following x)) → Fit (on_one xs following)
  one_fits a following [] among h k = absurd h
  one_fits a following (x ∷ []) among h k = k x (among x (inl refl)) h.0
  one_fits a following (x ∷ y ∷ rest) among h k = absurd h.1

  none_left : (lengths : Trees) (xs : List Operand) → AreOperands own nothing lengths xs → xs ≡ []
  none_left no_trees [] h = refl
  none_left no_trees (x ∷ xs) h = absurd h
  none_left (more_trees first rest) xs h = none_left rest xs h

  pub first_fits : (a : Tree) (lengths : Trees) (following : Operand → Did) (xs : List Operand) → ((x : Operand) → IsAmong x xs → IsAmong x operands) → AreOperands own only_first (more_trees a lengths) xs
      → ((x : Operand) → IsAmong x operands → IsOperand own a x → Fit (following x)) → Fit (on_one xs following)
  first_fits a lengths following [] among h k = absurd h
  first_fits a lengths following (x ∷ xs) among h k =
      subst (λ (ys : List Operand). Fit (on_one (x ∷ ys) following)) (sym (none_left lengths xs h.1)) (k x (among x (inl refl)) h.0)

  pub two_fits : (a b : Tree) (following : Operand → Operand → Did) (xs : List Operand) → ((x : Operand) → IsAmong x xs → IsAmong x operands) → AreOperands own every (more_trees a (more_trees b no_trees)) xs
      → ((x y : Operand) → IsAmong x operands → IsAmong y operands → IsOperand own a x → IsOperand own b y → Fit (following x y)) → Fit (on_two xs following)
  two_fits a b following [] among h k = absurd h
  two_fits a b following (x ∷ []) among h k = absurd h.1
  two_fits a b following (x ∷ y ∷ []) among h k = k x y (among x (inl refl)) (among y (inr (inl refl))) h.0 h.1.0
  two_fits a b following (x ∷ y ∷ z ∷ rest) among h k = absurd h.1.1

  pub value_fits : (a : Tree) (given : Result) → IsResult own a given → IsTrue (not (is_lvalue a)) → (following : Value → Did)
      → ((value : Value) → given ≡ of_value value → IsGiven own (kind_of a) value → Fit (following value)) → Fit (on_value given following)
  value_fits a (of_value value) h v following k = k value refl h.1
  value_fits a (designates at) h v following k = absurd (no_result a h v)

  pub place_fits : (a : Tree) (given : Result) → IsResult own a given → IsTrue (is_lvalue a) → (following : At → Did)
      → ((at : At) → given ≡ designates at → Fit (following at)) → Fit (on_place given following)
  place_fits a (of_value value) h l following k = absurd (no_result a l h.0)
  place_fits a (designates at) h l following k = k at refl

  pub set_fits : (a : Tree) (given : Result) → IsResult own a given → IsTrue (not (is_lvalue a)) → (following : Value → Did)
      → ((value : Value) → given ≡ of_value value → IsGiven own (kind_of a) value → (is_unset value ≡ false) × Fit (following value)) → Fit (on_set given following)
  set_fits a (of_value value) h v following k =
      let one = k value refl h.1 in subst (λ (b : Bool). Fit (if b then ill else following value)) (sym one.0) one.1
  set_fits a (designates at) h v following k = absurd (no_result a h v)

  pub truth_fits : (type : CType) → IsTrue (is_scalar type) → (value : Value) → IsGiven own type value → (following : Bool → Did) → ((b : Bool) → Fit (following b)) → Fit (on_truth (truth_of world.memory value) following)
  truth_fits type scalar value given following h = by_scalar (scalar_given own type scalar value given)
    where
      told_fits : (causes : List Cause) (b : Bool) → (IsAmong OtherType causes → ⊥) → Fit (on_truth (told (earliest causes) b) following)
      told_fits [] b apart = h b
      told_fits (cause ∷ causes) b apart = λ e. absurd (apart (earliest_among (cause ∷ causes) OtherType (ap Some e)))

      by_scalar : ((own_kind : Kind) × (integer_kind type ≡ Some own_kind) × IsNumber own_kind value) ⊎ ((inner : CType) × (target type ≡ Some inner) × IsAddress value) → Fit (on_truth (truth_of world.memory value) following)
      by_scalar (inl (own_kind, e, n)) = subst (λ (v : Value). Fit (on_truth (truth_of world.memory v) following)) (sym n.is) (h _)
      by_scalar (inr (inner, e, a)) = subst (λ (v : Value). Fit (on_truth (truth_of world.memory v) following)) (sym a.is) (told_fits (use_causes world.memory a.p) (not (is_null a.p)) (use_apart world.memory a.p))

  pub truth_given : (own_kind : Kind) (b : Bool) → integer_kind kind ≡ Some own_kind → IsGiven own kind (truth_in kind b)
  truth_given own_kind b e = subst (λ (v : Value). IsGiven own kind v) (sym (typed_is kind own_kind (operators.truth b) e)) (given_number own kind own_kind (operators.truth b) e (in_range-truth own_kind b))

  -- a read (6.3.2.1p2)
  pub read_fits : (locks : List At) (type : CType) (x : Operand) → IsAmong x operands → (at : At) → x.result ≡ designates at → IsProper type → IsTrue (not (is_array_type type)) → kind ≡ bare type → IsTrue (not (is_lvalue tree))
      → Fit (read_at scene world locks kind at)
  read_fits locks type x there at place proper w e v =
      let none : IsTrue (not (is_array (own_type kind))) = subst (λ (t : CType). IsTrue (not (is_array (own_type t)))) (sym e) (proper_whole type proper w) in
      unless_fits (read_causes own world.memory locks kind at) (plain world (contents_at world.memory at))
      (λ c. plain_fits (contents_at world.memory at) v (record {
        typed = read_typed own world.memory typed locks kind at none (nil_left (access_causes own world.memory locks kind at) _ c);
        set = λ h. read_set own world.memory locks kind at c;
        whole = none;
      }))
      (λ h. mistyped x at there place kind (read_other own world.memory locks kind at h))

  pub address_fits : (inner : CType) (p : Pointer) → kind ≡ pointer inner → IsTrue (not (is_lvalue tree)) → Fit (plain world (pointer_value p))
  address_fits inner p e v = plain_fits (pointer_value p) v (subst (λ (t : CType). IsGiven own t (pointer_value p)) (sym e) (given_address own inner p))

  pub decay_fits : (type access : CType) (x : Operand) → IsAmong x operands → (at : At) → x.result ≡ designates at → FitsDecay type kind → IsTrue (not (is_lvalue tree)) → Fit (decayed scene world access at)
  decay_fits type access x there at place fits v =
      let inner = decay_kind type kind fits in
      unless_fits (entry_causes own world.memory access at) (plain world (pointer_value (to (part_of at 0))))
      (λ c. address_fits inner.0 (to (part_of at 0)) inner.1 v)
      (λ h. mistyped x at there place access (entry_other own world.memory access at h))

  -- a pointer that is followed (6.5.3.2p4)
  pub followed_fits : (value : Value) → IsAddress value → IsTrue (is_lvalue tree) → Fit (followed world value)
  followed_fits value a l = subst (λ (v : Value). Fit (followed world v)) (sym a.is) (by_pointer a.p)
    where
      by_pointer : (p : Pointer) → Fit (followed world (pointer_value p))
      by_pointer null = λ e. absurd (cc)
      by_pointer (to at) = unless_fits (follow_causes world.memory (to at)) (gives world (designates at) []) (λ c. (typed, stay_same world.memory, l)) (λ h. absurd (follow_apart world.memory (to at) h))

  -- a number, or a pointer, of a conversion (6.3)
  pub integer_fits : (own_kind : Kind) (type : CType) → kind ≡ integer own_kind → IsTrue (is_scalar type) → IsTrue (not (is_lvalue tree)) → (value : Value) → IsGiven own type value
      → (is_unset value ≡ false) × Fit (converted world (integer own_kind) value)
  integer_fits own_kind type e scalar v value given = by_scalar (scalar_given own type scalar value given)
    where
      number_there : (z : ℤ) → InRange own_kind z → IsGiven own kind (integer_value own_kind z)
      number_there z h = given_number own kind own_kind z (ap integer_kind e) h

      by_scalar : ((one : Kind) × (integer_kind type ≡ Some one) × IsNumber one value) ⊎ ((inner : CType) × (target type ≡ Some inner) × IsAddress value) → (is_unset value ≡ false) × Fit (converted world (integer own_kind) value)
      by_scalar (inl (one, f, n)) =
          subst (λ (w : Value). (is_unset w ≡ false) × Fit (converted world (integer own_kind) w)) (sym n.is)
          (refl, plain_fits (integer_value own_kind (brought own_kind n.z)) v (number_there (brought own_kind n.z) (in_range-convert own_kind n.z)))
      by_scalar (inr (inner, f, a)) =
          subst (λ (w : Value). (is_unset w ≡ false) × Fit (converted world (integer own_kind) w)) (sym a.is) (
            refl,
            never_fits (use_causes world.memory a.p) (plain world (integer_value own_kind (operators.truth (not (is_null a.p)))))
                (plain_fits (integer_value own_kind (operators.truth (not (is_null a.p)))) v (number_there (operators.truth (not (is_null a.p))) (in_range-truth own_kind (not (is_null a.p))))) (use_apart world.memory a.p),
          )

  pub pointer_fits : (inner : CType) → kind ≡ pointer inner → IsTrue (not (is_lvalue tree)) → (value : Value) → ((one : Kind) × IsNumber one value) ⊎ IsAddress value
      → (is_unset value ≡ false) × Fit (converted world (pointer inner) value)
  pointer_fits inner e v value (inl (one, n)) =
      subst (λ (w : Value). (is_unset w ≡ false) × Fit (converted world (pointer inner) w)) (sym n.is) (refl, address_fits inner null e v)
  pointer_fits inner e v value (inr a) =
      subst (λ (w : Value). (is_unset w ≡ false) × Fit (converted world (pointer inner) w)) (sym a.is)
      (refl, never_fits (use_causes world.memory a.p) (plain world (pointer_value a.p)) (address_fits inner a.p e v) (use_apart world.memory a.p))

  -- arithmetic (6.5.3.3, 6.5.5 to 6.5.12)
  pub in_unary : (sign : Sign) (one : Kind) (a z : ℤ) → InRange one a → unary_value sign one a ≡ Ok z → InRange one z
  in_unary s.Plus one a z h e = subst (InRange one) (ok_is a z e) h
  in_unary s.Minus one a z h e = subst (λ (r : Outcome ℤ Fault). IfOk r (InRange one)) e (in_range-negate one a)
  in_unary s.Complement one a z h e = subst (InRange one) (ok_is _ z e) (in_range-complement one a)
  in_unary s.Not one a z h e = subst (InRange one) (ok_is _ z e) (in_range-truth one _)

  in_binary : (op : Op) (one : Kind) (a b z : ℤ) → InRange one a → operators.binary op one a b ≡ Ok z → InRange one z
  in_binary op one a b z h e = subst (λ (r : Outcome ℤ Fault). IfOk r (InRange one)) e (in_range-binary op one a b h)

  -- both operands have one kind, but for the count of a shift
  right_stands : (op : Op) (a b : Kind) (n : ℤ) → IsTrue (is_shift op) ⊎ (a ≡ b) → InRange b n → is_right op a n ≡ true
  right_stands op a b n (inl e) h = ap (λ t. t || is_in_range a n) e
  right_stands op a b n (inr e) h = or_right (is_shift op) (is_in_range a n) (subst (λ (c : Kind). is_in_range c n ≡ true) (sym e) (in_range_test b n h))
    where
      or_right : (x y : Bool) → y ≡ true → (x || y) ≡ true
      or_right true y f = refl
      or_right false y f = f

  compared : (op : Op) (one : Kind) (a b z : ℤ) → is_comparison op ≡ true → operators.binary op one a b ≡ Ok z → InRange Int z
  compared o.Less one a b z c e = subst (InRange Int) (ok_is _ z e) (in_range-truth Int _)
  compared o.Greater one a b z c e = subst (InRange Int) (ok_is _ z e) (in_range-truth Int _)
  compared o.LessEq one a b z c e = subst (InRange Int) (ok_is _ z e) (in_range-truth Int _)
  compared o.GreaterEq one a b z c e = subst (InRange Int) (ok_is _ z e) (in_range-truth Int _)
  compared o.Equal one a b z c e = subst (InRange Int) (ok_is _ z e) (in_range-truth Int _)
  compared o.NotEqual one a b z c e = subst (InRange Int) (ok_is _ z e) (in_range-truth Int _)
  compared op one a b z c e = absurd (false≢true c)

  -- what an operator on integers gives is of the node's kind
  result_fits : (op : Op) (one : Kind) (a b : ℤ) → kind ≡ result_type op one → InRange one a → IsTrue (not (is_lvalue tree)) → Fit (faulted (operators.binary op one a b) (number_alone world kind))
  result_fits op one a b e h v = faulted_fits (operators.binary op one a b) (number_alone world kind) (λ z f. by_comparison (is_comparison op) refl z f)
    where
      by_comparison : (c : Bool) → is_comparison op ≡ c → (z : ℤ) → operators.binary op one a b ≡ Ok z → Fit (number_alone world kind z)
      by_comparison true c z f = number_fits Int z (ap integer_kind (e ∙ ap (λ t. if t then integer Int else integer one) c)) (compared op one a b z c f) v
      by_comparison false c z f = number_fits one z (ap integer_kind (e ∙ ap (λ t. if t then integer Int else integer one) c)) (in_binary op one a b z h f) v

  pub integers_fit : (op : Op) (a b left : CType) (first second : Kind) → FitsIntegers op first second kind → (x y : Value) → IsNumber first x → IsNumber second y → IsTrue (not (is_lvalue tree))
      → Fit (combined scene world kind left op x y)
  integers_fit op a b left first second fits x y m n v =
      subst (λ (w : Value). Fit (combined scene world kind left op w y)) (sym m.is)
      (subst (λ (w : Value). Fit (combined scene world kind left op (integer_value first m.z) w)) (sym n.is)
      (subst (λ (t : Bool). Fit (provided t (faulted (operators.binary op first m.z n.z) (number_alone world kind)))) (sym (right_stands op first second n.z fits.2 n.range))
      (result_fits op first m.z n.z fits.3 m.range v)))

  pub further_fits : (type inner : CType) (p : Pointer) (n : ℤ) → type ≡ pointer inner → kind ≡ type → IsTrue (not (is_lvalue tree)) → Fit (pointer_plus scene world kind p n)
  further_fits type inner p n e f v =
      subst (λ (t : CType). Fit (on_target t (λ one. pointer_further scene world one p n))) (sym (f ∙ e))
      (never_fits (moved_causes own world.memory inner p n) (plain world (pointer_value (or_null (moved_pointer own world.memory inner p n))))
      (address_fits inner (or_null (moved_pointer own world.memory inner p n)) (f ∙ e) v) (moved_apart own world.memory inner p n))

  -- a difference (6.5.6p9)
  minus_fits : (inner : CType) (p q : Pointer) → IsAmong (of_value (pointer_value p)) (results operands) → IsAmong (of_value (pointer_value q)) (results operands) → kind ≡ integer Long → IsTrue (not (is_lvalue tree))
      → Fit (pointer_minus scene world kind inner p q)
  minus_fits inner p q there here e v =
      unless_fits (distance_causes own world.memory inner p q) (number_alone world kind (or_zero (pointer_distance own world.memory inner p q)))
      (λ c. by_distance (pointer_distance own world.memory inner p q) refl (distance_there own world.memory inner p q c))
      (λ h. absurd (distance_apart own world.memory inner p q h))
    where
      by_range : (z : ℤ) → pointer_distance own world.memory inner p q ≡ Some z → (b : Bool) → is_in_range Long z ≡ b → Fit (provided b (plain world (integer_value Long z)))
      by_range z f true g = plain_fits (integer_value Long z) v (given_number own kind Long z (ap integer_kind e) (range_of Long z g))
      by_range z f false g = λ t. inr (record { target = inner; left = p; right = q; far = z; first = there; second = here; apart = f; beyond = g })

      by_distance : (d : Option ℤ) → pointer_distance own world.memory inner p q ≡ d → is_none d ≡ false → Fit (number_alone world kind (or_zero d))
      by_distance None f g = absurd (true≢false g)
      by_distance (Some z) f g =
          subst (λ (w : Value). Fit (provided (is_of_kind w) (plain world w))) (sym (typed_is kind Long z (ap integer_kind e))) (by_range z f (is_in_range Long z) refl)

  ordered_fits : (op : Op) (p q : Pointer) → is_comparison op ≡ true → kind ≡ integer Int → IsTrue (not (is_lvalue tree)) → Fit (ordered scene world kind op p q)
  ordered_fits op p q c e v =
      never_fits (order_causes world.memory p q) (faulted (operators.binary op Long (byte_at scene world p) (byte_at scene world q)) (number_alone world kind))
      (faulted_fits (operators.binary op Long (byte_at scene world p) (byte_at scene world q)) (number_alone world kind)
      (λ z f. number_fits Int z (ap integer_kind e) (compared op Long (byte_at scene world p) (byte_at scene world q) z c f) v))
      (order_apart world.memory p q)

  equated_fits : (sense : Bool → Bool) (p q : Pointer) → kind ≡ integer Int → IsTrue (not (is_lvalue tree)) → Fit (equated scene world kind sense p q)
  equated_fits sense p q e v =
      never_fits (use_causes world.memory p ++ use_causes world.memory q) (plain world (truth_in kind (sense (equal_pointers scene world p q))))
      (plain_fits (truth_in kind (sense (equal_pointers scene world p q))) v (truth_given Int (sense (equal_pointers scene world p q)) (ap integer_kind e))) (uses_apart world.memory p q)

  -- two pointers, where the first has a type without const
  pub pointers_fit : (tscene : Standing) (op : Op) (from to_type left : CType) → left ≡ pointer from → FitsPointers tscene op from to_type kind → (p q : Pointer)
      → IsAmong (of_value (pointer_value p)) (results operands) → IsAmong (of_value (pointer_value q)) (results operands) → IsTrue (not (is_lvalue tree)) → Fit (on_pointers scene world kind left op p q)
  pointers_fit tscene o.Sub from to_type left e fits p q there here v =
      subst (λ (t : CType). Fit (on_target t (λ one. pointer_minus scene world kind one p q))) (sym e) (minus_fits from p q there here fits.3 v)
  pointers_fit tscene o.Less from to_type left e fits p q there here v = ordered_fits o.Less p q refl fits.2 v
  pointers_fit tscene o.Greater from to_type left e fits p q there here v = ordered_fits o.Greater p q refl fits.2 v
  pointers_fit tscene o.LessEq from to_type left e fits p q there here v = ordered_fits o.LessEq p q refl fits.2 v
  pointers_fit tscene o.GreaterEq from to_type left e fits p q there here v = ordered_fits o.GreaterEq p q refl fits.2 v
  pointers_fit tscene o.Equal from to_type left e fits p q there here v = equated_fits (λ truth. truth) p q fits.2 v
  pointers_fit tscene o.NotEqual from to_type left e fits p q there here v = equated_fits not p q fits.2 v
  pointers_fit tscene op from to_type left e fits p q there here v = absurd (false≢true fits.1)

  -- assignments (6.5.16)
  pub store_fits : (locks : List At) (x : Operand) → IsAmong x operands → (at : At) → x.result ≡ designates at → (value : Value) → IsGiven own kind value → is_unset value ≡ false → IsTrue (not (is_lvalue tree)) → Fit (store_at scene world locks kind at value)
  store_fits locks x there at place value given set v =
      unless_fits (store_causes own world.memory locks kind at) (gives (record world { memory = written world.memory at value }) (of_value value) (at ∷ []))
      (λ c. (store_typed own world.memory typed locks kind at given.whole (nil_left (access_causes own world.memory locks kind at) _ c) value given.typed, stay_written at value world.memory set, (v, given)))
      (λ h. mistyped x at there place kind (store_other own world.memory locks kind at h))

  -- what is made of a value of an object: nothing is that of another type, and where there is a value it is of the type
  abbrev pub MadeFits : Made → Value → Value → Type 0
  MadeFits made old given =
      (IsAmong OtherType made.causes → ⊥) × (made.causes ≡ [] → is_unset old ≡ false → HasType own kind made.value × (is_unset made.value ≡ false) × IsGiven own kind given)

  pub replace_fits : (locks : List At) (x : Operand) → IsAmong x operands → (at : At) → x.result ≡ designates at → IsTrue (not (is_array (own_type kind))) → (made : Made) (given : Value)
      → (is_other kind (reached own world.memory at) ≡ false → MadeFits made (contents_at world.memory at) given) → IsTrue (not (is_lvalue tree)) → Fit (replace_at scene world locks kind at made given)
  replace_fits locks x there at place none made given h v =
      unless_fits (made.causes ++ updates) did
      (λ c.
      let later = nil_right made.causes updates c in
      let reading = nil_left (read_causes own world.memory locks kind at) (store_causes own world.memory locks kind at) later in
      let access : access_causes own world.memory locks kind at ≡ [] = nil_left (access_causes own world.memory locks kind at) _ reading in
      let both = (h (access_same own world.memory locks kind at access)).1 (nil_left made.causes updates c) (read_set own world.memory locks kind at reading) in
      (store_typed own world.memory typed locks kind at none access made.value both.0, stay_written at made.value world.memory both.1, (v, both.2)))
      (by_other (is_other kind (reached own world.memory at)) refl)
    where
      updates : List Cause
      updates = update_causes own world.memory locks kind at

      did : Did
      did = gives (record world { memory = written world.memory at made.value }) (of_value given) (at ∷ [])

      by_part : (is_other kind (reached own world.memory at) ≡ false) → IsAmong OtherType made.causes ⊎ IsAmong OtherType (update_causes own world.memory locks kind at) → Excused
      by_part e (inl f) = absurd ((h e).0 f)
      by_part e (inr f) = mistyped x at there place kind (update_other own world.memory locks kind at f)

      by_other : (b : Bool) → is_other kind (reached own world.memory at) ≡ b → IsAmong OtherType (made.causes ++ update_causes own world.memory locks kind at) → Excused
      by_other true e f = mistyped x at there place kind e
      by_other false e f = by_part e (among_either OtherType made.causes (update_causes own world.memory locks kind at) f)

  pub updated_range : (op : Op) (works one : Kind) (a b z : ℤ) → updated_value op works one a b ≡ Ok z → InRange one z
  updated_range op works one a b z e = by_outcome (operators.binary op works (brought works a) b) e
    where
      err_ok : (fault : Fault) (y : ℤ) → ◌≡◌ {A = Outcome ℤ Fault} (Err fault) (Ok y) → ⊥
      err_ok fault y f = cc

      by_outcome : (outcome : Outcome ℤ Fault) → converted_in one outcome ≡ Ok z → InRange one z
      by_outcome (Ok y) f = subst (InRange one) (ok_is (brought one y) z f) (in_range-convert one y)
      by_outcome (Err fault) f = absurd (err_ok fault z f)

  pub number_made : (one : Kind) (outcome : Outcome ℤ Fault) (old other : Value) (before : Bool) → integer_kind kind ≡ Some one → ((z : ℤ) → outcome ≡ Ok z → InRange one z) → IsGiven own kind other
      → MadeFits (made_number one outcome) old (if before then (made_number one outcome).value else other)
  number_made one (Ok z) old other true e h given = ((λ f. f), λ c f. ((given_number own kind one z e (h z refl)).typed, refl, given_number own kind one z e (h z refl)))
  number_made one (Ok z) old other false e h given = ((λ f. f), λ c f. ((given_number own kind one z e (h z refl)).typed, refl, given))
  number_made one (Err fault) old other before e h given = (by_fault, λ c. absurd (none c))
    where
      by_fault : IsAmong OtherType (fault_cause fault ∷ []) → ⊥
      by_fault (inl f) = fault_apart fault (sym f)
      by_fault (inr f) = f

      none : fault_cause fault ∷ [] ≡ [] → ⊥
      none f = cc

  pub further_made : (inner : CType) (p : Pointer) (n : ℤ) (old other : Value) (before : Bool) → kind ≡ pointer inner → IsGiven own kind other
      → MadeFits (made_further scene world inner p n) old (if before then pointer_value (or_null (moved_pointer own world.memory inner p n)) else other)
  further_made inner p n old other before e given = (
    moved_apart own world.memory inner p n,
    λ c f. (there.typed, refl, by_before before),
  )
    where
      there : IsGiven own kind (pointer_value (or_null (moved_pointer own world.memory inner p n)))
      there = subst (λ (t : CType). IsGiven own t (pointer_value (or_null (moved_pointer own world.memory inner p n)))) (sym e) (given_address own inner (or_null (moved_pointer own world.memory inner p n)))

      by_before : (b : Bool) → IsGiven own kind (if b then pointer_value (or_null (moved_pointer own world.memory inner p n)) else other)
      by_before true = there
      by_before false = given
