-- The value of an integer constant expression is one of its type (6.6p4).
--     constant_in_range      for a well-typed tree of an integer type
use Rattle.std.specs.Prelude.{◌≡◌, refl, ℕ, ℤ, pos, Bool, true, false, ◌&&◌, if◌then◌else◌, IfOk, Result, Ok, All, List, [], ◌∷◌, Option, Some, None, is_some, option_map, option_and_then, slice_get}
use Rattle.std.specs.Result.{result_ok}
use Rattle.std.proofs.Common.{ap, sym, ◌∙◌, subst}
use Rattle.std.proofs.lemmas.Bool.{false≢true}
use Rattle.dm_int.specs.declared.Fault.{Fault}
use Rattle.dm_int.specs.declared.Kind.{Kind}
use Rattle.dm_int.specs.declared.Kind.TheVariants.{Int, ULong}
use Rattle.dm_int.specs.declared.Op.{Op}
use Rattle.dm_int.specs.declared.Op.TheVariants.{Less, Greater, LessEq, GreaterEq, Equal, NotEqual}
use Rattle.dm_int.specs.Kinds as kinds
use Rattle.dm_int.specs.Kinds.{InRange, is_in_range}
use Rattle.dm_int.specs.Operators as operators
use Rattle.dm_int.specs.Ranges.{in_range-convert}
use Rattle.dm_int.specs.Results.{in_range-truth, in_range-binary, in_range-negate, in_range-complement}
use Rattle.dm_type.specs.CTypes.{CType, integer}
use Rattle.dm_type.specs.Layouts.{size_of}
use Rattle.dm_type.specs.Tables.{Table}
use Rattle.dm_tree.specs.declared.tree.Sign.{Sign}
use Rattle.dm_tree.specs.declared.tree.Sign.TheVariants as s
use Rattle.dm_tree.specs.declared.unit.Sort.{Sort}
use Rattle.dm_tree.specs.declared.unit.Sort.TheVariants.{Object, Function, Typedef, Enumerator, Tag}
use Rattle.dm_tree.specs.Constants.{integer_kind, is_constant_form, constant_forms, value_if_enumerator, enumerator_value, converted_to, signed_in, operated_in, signed_value, operated_value, truth_of, constant_value}
use Rattle.dm_tree.specs.Evaluation.{is_true, is_right, unary_value}
use Rattle.dm_tree.specs.Operands.{is_comparison, FitsBinary, IsNumber}
use Rattle.dm_tree.specs.Scenes.{Scene, target}
use Rattle.dm_tree.specs.Trees.{number, enumerator, convert, unary, binary, both, either, choose, comma, sizeof_tree, sizeof_kind, Tree, node, no_trees, more_trees, kind_of}
use Rattle.dm_tree.specs.Typing.{Fits, inside, FitsSort, has_linkage, IsEntry, IsWellTyped}
use Rattle.dm_tree.specs.Units.{Declaration}
use Rattle.dm_meaning.proofs.ConstantLemmas.{no_form}
use Rattle.dm_meaning.proofs.OptionLemmas.{none_is_some, some_is_some, bound_some, mapped_some, is_some_some, without_fault, where_met, and_left, and_right}
use Rattle.dm_sound.specs.TypedTrees.{IsSoundTable}
use Rattle.dm_sound.proofs.GivenLemmas.{range_of, size_number}
use Rattle.dm_refine.proofs.PutLemmas.{all_there}

-- what stands under a condition says that it is met
when_met : {A : Type 0} (b : Bool) (o : Option A) (a : A) → (if b then o else None) ≡ Some a → b ≡ true
when_met true o a e = refl
when_met false o a e = absurd (none_is_some a e)

-- two kinds of one type are one
same_kind : (kind : CType) (j k : Kind) → integer_kind kind ≡ Some j → kind ≡ integer k → j ≡ k
same_kind kind j k e f = sym (some_is_some k j (ap integer_kind (sym f) ∙ e))

-- ---- operators

in_unary : (sign : Sign) (k : Kind) (a z : ℤ) → InRange k a → unary_value sign k a ≡ Ok z → InRange k z
in_unary s.Plus k a z h e = subst (λ (r : Result ℤ Fault). IfOk r (InRange k)) e h
in_unary s.Minus k a z h e = subst (λ (r : Result ℤ Fault). IfOk r (InRange k)) e (in_range-negate k a)
in_unary s.Complement k a z h e = subst (λ (r : Result ℤ Fault). IfOk r (InRange k)) e (in_range-complement k a)
in_unary s.Not k a z h e = subst (λ (r : Result ℤ Fault). IfOk r (InRange k)) e (in_range-truth k _)

in_not : (k j : Kind) (a z : ℤ) → unary_value s.Not j a ≡ Ok z → InRange k z
in_not k j a z e = subst (λ (r : Result ℤ Fault). IfOk r (InRange k)) e (in_range-truth k _)

in_binary : (op : Op) (k : Kind) (a b z : ℤ) → InRange k a → operators.binary op k a b ≡ Ok z → InRange k z
in_binary op k a b z h e = subst (λ (r : Result ℤ Fault). IfOk r (InRange k)) e (in_range-binary op k a b h)

-- a comparison gives 0 or 1, which are values of each kind
in_comparison : (op : Op) (j k : Kind) (a b z : ℤ) → is_comparison op ≡ true → operators.binary op j a b ≡ Ok z → InRange k z
in_comparison Less j k a b z c e = subst (λ (r : Result ℤ Fault). IfOk r (InRange k)) e (in_range-truth k _)
in_comparison Greater j k a b z c e = subst (λ (r : Result ℤ Fault). IfOk r (InRange k)) e (in_range-truth k _)
in_comparison LessEq j k a b z c e = subst (λ (r : Result ℤ Fault). IfOk r (InRange k)) e (in_range-truth k _)
in_comparison GreaterEq j k a b z c e = subst (λ (r : Result ℤ Fault). IfOk r (InRange k)) e (in_range-truth k _)
in_comparison Equal j k a b z c e = subst (λ (r : Result ℤ Fault). IfOk r (InRange k)) e (in_range-truth k _)
in_comparison NotEqual j k a b z c e = subst (λ (r : Result ℤ Fault). IfOk r (InRange k)) e (in_range-truth k _)
in_comparison op j k a b z c e = absurd (false≢true c)

-- by the types of the operands
integers_in : (op : Op) (j k : Kind) (kind : CType) (a b z : ℤ) → kind ≡ (if is_comparison op then integer Int else integer j) → kind ≡ integer k
    → InRange j a → operators.binary op j a b ≡ Ok z → InRange k z
integers_in op j k kind a b z fits is range e = by_comparison (is_comparison op) refl
  where
    by_comparison : (c : Bool) → is_comparison op ≡ c → InRange k z
    by_comparison true c = in_comparison op j k a b z c e
    by_comparison false c =
        subst (λ (one : Kind). InRange one z) (same_kind kind j k (ap integer_kind (fits ∙ ap (λ t. if t then integer Int else integer j) c)) is) (in_binary op j a b z range e)

operands_in : (scene : Scene) (op : Op) (left right kind : CType) (j i : Kind) (k : Kind) (a b z : ℤ) (from to : Option CType) → FitsBinary scene op left right kind (Some j) (Some i) from to
    → kind ≡ integer k → InRange j a → operators.binary op j a b ≡ Ok z → InRange k z
operands_in scene op left right kind j i k a b z from to fits is range e = integers_in op j k kind a b z fits.3 is range e

-- ---- trees

module _ (types : Table) (sound : IsSoundTable types) (declared : List Declaration) (entries : All IsEntry declared) where
  sort_range : (sort : Sort) (entry : Declaration) → entry.sort ≡ sort → IsEntry entry → (z : ℤ) → value_if_enumerator sort ≡ Some z → InRange Int z
  sort_range (Enumerator y) entry e fits z is =
      subst (InRange Int) (some_is_some y z is) (subst (λ (sort : Sort). FitsSort sort entry.kind (has_linkage entry.linkage)) e fits).1
  sort_range (Object fixed) entry e fits z is = absurd (none_is_some z is)
  sort_range Function entry e fits z is = absurd (none_is_some z is)
  sort_range Typedef entry e fits z is = absurd (none_is_some z is)
  sort_range Tag entry e fits z is = absurd (none_is_some z is)

  enumerator_range : (d : ℕ) (z : ℤ) → enumerator_value declared d ≡ Some z → InRange Int z
  enumerator_range d z e =
      let found = bound_some (λ (entry : Declaration). value_if_enumerator entry.sort) (slice_get declared d) z e in
      sort_range found.0.sort found.0 refl (all_there IsEntry declared entries d found.0 found.1) z found.2

  size_in_range : (type : CType) (z : ℤ) → option_map pos (size_of types type) ≡ Some z → InRange ULong z
  size_in_range type z e =
      let found = mapped_some pos (size_of types type) z e in
      let size = size_number types sound type (ap is_some found.1) in
      subst (InRange ULong) (ap pos (some_is_some size.0 found.0 (sym size.1 ∙ found.1)) ∙ found.2) size.2

  -- the type of a tree says the kind of its value
  as_kind : (kind : CType) (j k : Kind) (z : ℤ) → kind ≡ integer j → kind ≡ integer k → InRange j z → InRange k z
  as_kind kind j k z e f h = subst (λ (one : Kind). InRange one z) (same_kind kind j k (ap integer_kind e) f) h

  truth_range : (k : Kind) (o : Option ℤ) (z : ℤ) → option_map truth_of o ≡ Some z → InRange k z
  truth_range k o z e =
      let found = mapped_some truth_of o z e in
      subst (InRange k) found.2 (in_range-truth k (is_true found.0))

  by_truth : (k : Kind) (b : Bool) (o : Option ℤ) (truth : Bool) (z : ℤ) → (if b then option_map truth_of o else Some (operators.truth truth)) ≡ Some z → InRange k z
  by_truth k true o truth z e = truth_range k o z e
  by_truth k false o truth z e = subst (InRange k) (some_is_some (operators.truth truth) z e) (in_range-truth k truth)

  by_other_truth : (k : Kind) (b : Bool) (o : Option ℤ) (truth : Bool) (z : ℤ) → (if b then Some (operators.truth truth) else option_map truth_of o) ≡ Some z → InRange k z
  by_other_truth k true o truth z e = subst (InRange k) (some_is_some (operators.truth truth) z e) (in_range-truth k truth)
  by_other_truth k false o truth z e = truth_range k o z e

  -- the chosen operand of ?:
  by_pick : (b : Bool) (second third : Option ℤ) (z : ℤ) → (if b then second else third) ≡ Some z → {P : Type 0} → (second ≡ Some z → P) → (third ≡ Some z → P) → P
  by_pick true second third z e g h = g e
  by_pick false second third z e g h = h e

  -- what has the form is of an integer type
  pub form_kind : (tree : Tree) → is_constant_form tree ≡ true → (k : Kind) × (integer_kind (kind_of tree) ≡ Some k)
  form_kind (node label kind spans parts) f = is_some_some (integer_kind kind) (and_left (is_some (integer_kind kind)) _ f)

  pub constant_in_range : (scene : Scene) (tree : Tree) → IsWellTyped scene tree → is_constant_form tree ≡ true → (z : ℤ) → constant_value types declared tree ≡ Some z
      → (k : Kind) → kind_of tree ≡ integer k → InRange k z
  constant_in_range scene (node (number y) kind spans no_trees) t f z e k is =
      subst (InRange k) (some_is_some y z e) (subst (λ (type : CType). IsNumber y type) is t.0).1
  constant_in_range scene (node (number y) kind spans (more_trees first rest)) t f z e k is = absurd t.0
  constant_in_range scene (node (enumerator d) kind spans no_trees) t f z e k is = as_kind kind Int k z t.0.1 is (enumerator_range d z e)
  constant_in_range scene (node (enumerator d) kind spans (more_trees first rest)) t f z e k is = absurd t.0
  constant_in_range scene (node sizeof_tree kind spans (more_trees operand no_trees)) t f z e k is = as_kind kind ULong k z t.0.2 is (size_in_range (kind_of operand) z e)
  constant_in_range scene (node sizeof_tree kind spans no_trees) t f z e k is = absurd t.0
  constant_in_range scene (node sizeof_tree kind spans (more_trees first (more_trees second rest))) t f z e k is = absurd t.0
  constant_in_range scene (node (sizeof_kind type) kind spans parts) t f z e k is = as_kind kind ULong k z t.0.2 is (size_in_range type z e)
  constant_in_range scene (node convert kind spans no_trees) t f z e k is = absurd t.0
  constant_in_range scene (node convert kind spans (more_trees first rest)) t f z e k is =
      let value = bound_some (converted_to kind) (constant_value types declared first) z e in
      let made = mapped_some (λ one. kinds.convert one value.0) (integer_kind kind) z value.2 in
      subst (λ (one : Kind). InRange one z) (same_kind kind made.0 k made.1 is) (subst (InRange made.0) made.2 (in_range-convert made.0 value.0))
  constant_in_range scene (node (unary sign) kind spans no_trees) t f z e k is = absurd (none_is_some z e)
  constant_in_range scene (node (unary sign) kind spans (more_trees first (more_trees second rest))) t f z e k is = absurd (none_is_some z e)
  constant_in_range scene (node (unary sign) kind spans (more_trees first no_trees)) t f z e k is =
      let value = bound_some (signed_value sign (kind_of first)) (constant_value types declared first) z e in
      let made = bound_some (signed_in sign value.0) (integer_kind (kind_of first)) z value.2 in
      let range = range_of made.0 value.0 (when_met (is_in_range made.0 value.0) (result_ok (unary_value sign made.0 value.0)) z made.2) in
      let result = without_fault (unary_value sign made.0 value.0) z (where_met (is_in_range made.0 value.0) (result_ok (unary_value sign made.0 value.0)) z made.2) in
      by_sign sign t.0 made.0 made.1 value.0 range result
    where
      by_sign : (sign : Sign) → Fits scene (unary sign) kind (first ∷ []) → (j : Kind) → integer_kind (kind_of first) ≡ Some j → (a : ℤ) → InRange j a → unary_value sign j a ≡ Ok z → InRange k z
      by_sign s.Not fits j known a range made = in_not k j a z made
      by_sign s.Plus fits j known a range made = subst (λ (one : Kind). InRange one z) (same_kind (kind_of first) j k known (fits.1 ∙ is)) (in_unary s.Plus j a z range made)
      by_sign s.Minus fits j known a range made = subst (λ (one : Kind). InRange one z) (same_kind (kind_of first) j k known (fits.1 ∙ is)) (in_unary s.Minus j a z range made)
      by_sign s.Complement fits j known a range made =
          subst (λ (one : Kind). InRange one z) (same_kind (kind_of first) j k known (fits.1 ∙ is)) (in_unary s.Complement j a z range made)
  constant_in_range scene (node (binary op) kind spans no_trees) t f z e k is = absurd (none_is_some z e)
  constant_in_range scene (node (binary op) kind spans (more_trees first no_trees)) t f z e k is = absurd (none_is_some z e)
  constant_in_range scene (node (binary op) kind spans (more_trees first (more_trees second (more_trees third rest)))) t f z e k is = absurd (none_is_some z e)
  constant_in_range scene (node (binary op) kind spans (more_trees first (more_trees second no_trees))) t f z e k is =
      let left = bound_some (λ x. option_and_then (operated_value op (kind_of first) x) (constant_value types declared second)) (constant_value types declared first) z e in
      let right = bound_some (operated_value op (kind_of first) left.0) (constant_value types declared second) z left.2 in
      let made = bound_some (operated_in op left.0 right.0) (integer_kind (kind_of first)) z right.2 in
      let passes = when_met (is_in_range made.0 left.0 && is_right op made.0 right.0) (result_ok (operators.binary op made.0 left.0 right.0)) z made.2 in
      let result = without_fault (operators.binary op made.0 left.0 right.0) z (where_met (is_in_range made.0 left.0 && is_right op made.0 right.0) (result_ok (operators.binary op made.0 left.0 right.0)) z made.2) in
      let forms = and_right (is_some (integer_kind kind)) _ f in
      let second_kind = form_kind second (and_left (is_constant_form second) _ (and_right (is_constant_form first) _ forms)) in
      let fits = subst (λ (o : Option Kind). FitsBinary scene op (kind_of first) (kind_of second) kind o (Some second_kind.0) (target (kind_of first)) (target (kind_of second))) made.1
      (subst (λ (o : Option Kind). FitsBinary scene op (kind_of first) (kind_of second) kind (integer_kind (kind_of first)) o (target (kind_of first)) (target (kind_of second))) second_kind.1 t.0.2) in
      operands_in scene op (kind_of first) (kind_of second) kind made.0 second_kind.0 k left.0 right.0 z (target (kind_of first)) (target (kind_of second)) fits is
      (range_of made.0 left.0 (and_left (is_in_range made.0 left.0) (is_right op made.0 right.0) passes)) result
  constant_in_range scene (node both kind spans no_trees) t f z e k is = absurd (none_is_some z e)
  constant_in_range scene (node both kind spans (more_trees first no_trees)) t f z e k is = absurd (none_is_some z e)
  constant_in_range scene (node both kind spans (more_trees first (more_trees second (more_trees third rest)))) t f z e k is = absurd (none_is_some z e)
  constant_in_range scene (node both kind spans (more_trees first (more_trees second no_trees))) t f z e k is =
      let left = bound_some (λ x. if is_true x then option_map truth_of (constant_value types declared second) else Some (pos 0)) (constant_value types declared first) z e in
      by_truth k (is_true left.0) (constant_value types declared second) false z left.2
  constant_in_range scene (node either kind spans no_trees) t f z e k is = absurd (none_is_some z e)
  constant_in_range scene (node either kind spans (more_trees first no_trees)) t f z e k is = absurd (none_is_some z e)
  constant_in_range scene (node either kind spans (more_trees first (more_trees second (more_trees third rest)))) t f z e k is = absurd (none_is_some z e)
  constant_in_range scene (node either kind spans (more_trees first (more_trees second no_trees))) t f z e k is =
      let left = bound_some (λ x. if is_true x then Some (pos 1) else option_map truth_of (constant_value types declared second)) (constant_value types declared first) z e in
      by_other_truth k (is_true left.0) (constant_value types declared second) true z left.2
  constant_in_range scene (node choose kind spans no_trees) t f z e k is = absurd (none_is_some z e)
  constant_in_range scene (node choose kind spans (more_trees first no_trees)) t f z e k is = absurd (none_is_some z e)
  constant_in_range scene (node choose kind spans (more_trees first (more_trees second no_trees))) t f z e k is = absurd (none_is_some z e)
  constant_in_range scene (node choose kind spans (more_trees first (more_trees second (more_trees third (more_trees fourth rest))))) t f z e k is = absurd (none_is_some z e)
  constant_in_range scene (node choose kind spans (more_trees first (more_trees second (more_trees third no_trees)))) t f z e k is =
      let below = inside scene choose (first ∷ second ∷ third ∷ []) in
      let picked = bound_some (λ x. if is_true x then constant_value types declared second else constant_value types declared third) (constant_value types declared first) z e in
      let forms = and_right (is_constant_form first) _ (and_right (is_some (integer_kind kind)) _ f) in
      by_pick (is_true picked.0) (constant_value types declared second) (constant_value types declared third) z picked.2
      (λ g. constant_in_range below second t.1.1.0 (and_left (is_constant_form second) _ forms) z g k (t.0.3 ∙ is))
      (λ g. constant_in_range below third t.1.1.1.0 (and_left (is_constant_form third) _ (and_right (is_constant_form second) _ forms)) z g k (t.0.4 ∙ is))
  constant_in_range scene (node comma kind spans parts) t f z e k is = absurd (none_is_some z e)
  constant_in_range scene (node label kind spans parts) t f z e k is = absurd (no_form label kind (constant_forms parts) refl refl f)
