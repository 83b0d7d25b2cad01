-- Integer constant expressions come to their values.
use Rattle.std.specs.Prelude.{◌≡◌, refl, Bool, true, false, ◌&&◌, IsSome, Option, Some, None, option_map, option_and_then, slice_get, Result as Outcome, Ok, ℤ, pos, if◌then◌else◌}
use Rattle.std.specs.Result.{result_ok}
use Rattle.std.proofs.Common.{ap, sym, ◌∙◌, subst, true≢false}
use Rattle.std.proofs.lemmas.Bool.{false≢true}
use Rattle.dm_int.specs.declared.Kind.{Kind}
use Rattle.dm_int.specs.declared.Kind.TheVariants.{ULong}
use Rattle.dm_int.specs.Kinds.{InRange, is_in_range, convert as brought}
use Rattle.dm_int.specs.Operators.{binary as operated}
use Rattle.dm_type.specs.CTypes.{CType}
use Rattle.dm_type.specs.Layouts.{size_of}
use Rattle.dm_tree.specs.declared.tree.Sign.{Sign}
use Rattle.dm_tree.specs.declared.tree.Sign.TheVariants as s
use Rattle.dm_tree.specs.declared.unit.Sort.{Sort}
use Rattle.dm_tree.specs.declared.unit.Sort.TheVariants.{Object, Function, Typedef, Enumerator, Tag}
use Rattle.dm_tree.specs.Constants as constants
use Rattle.dm_tree.specs.Constants.{integer_kind, is_constant_form, constant_forms, has_constant_form, value_if_enumerator, enumerator_value, constant_value, signed_in, operated_in, operated_value, signed_value, converted_to}
use Rattle.dm_tree.specs.Evaluation.{is_true, is_right, unary_value}
use Rattle.dm_tree.specs.Trees.{Label, Spans, Tree, Trees, node, no_trees, more_trees, kind_of}
use Rattle.dm_tree.specs.Trees as label
use Rattle.dm_tree.specs.Units.{Declaration}
use Rattle.dm_meaning.specs.Programs.{layout, or_zero, constant_of}
use Rattle.dm_meaning.specs.Operations.{World, Scene, number_of_sort, enumerator_in, enumerator_number}
use Rattle.dm_meaning.proofs.ConstantLemmas.{constant_parts}
use Rattle.dm_meaning.proofs.OptionLemmas.{none_is_some, some_is_some, bound_some, mapped_some, is_some_some, without_fault, where_met, and_left, and_right}
use Rattle.dm_sound.specs.TypedValues.{AreTyped}
use Rattle.dm_sound.specs.TypedTrees.{IsTyped}
use Rattle.dm_sound.specs.TypedSteps.{IsTypedScope}
use Rattle.dm_sound.proofs.ComeLemmas.{AllTyped, typed_parts}
use Rattle.dm_sound.proofs.GivenLemmas.{size_number}
use Rattle.dm_sound.proofs.OperateLemmas.{value_no_lvalue}
use Rattle.dm_safe.specs.Numbers.{ComesTo}
use Rattle.dm_safe.proofs.NodeLemmas.{number_comes, enumerator_comes, size_comes, kind_size_comes, convert_comes, not_comes, signed_comes, binary_comes, both_on, both_off, either_on, either_off, second_on, third_on}

sort_number : (sort : Sort) (z : ℤ) → value_if_enumerator sort ≡ Some z → number_of_sort sort ≡ z
sort_number (Enumerator y) z e = some_is_some y z e
sort_number (Object fixed) z e = absurd (none_is_some z e)
sort_number Function z e = absurd (none_is_some z e)
sort_number Typedef z e = absurd (none_is_some z e)
sort_number Tag z e = absurd (none_is_some z e)

entry_number : (entry : Option Declaration) (z : ℤ) → option_and_then (λ (one : Declaration). value_if_enumerator one.sort) entry ≡ Some z → enumerator_in entry ≡ z
entry_number None z e = absurd (none_is_some z e)
entry_number (Some entry) z e = sort_number entry.sort z e

condition_met : {A : Type 0} (b : Bool) (o : Option A) (a : A) → (if b then o else None) ≡ Some a → b ≡ true
condition_met true o a e = refl
condition_met false o a e = absurd (none_is_some a e)

if_true : {A : Type 0} (b : Bool) (x y z : A) → b ≡ true → (if b then x else y) ≡ z → x ≡ z
if_true true x y z e f = f
if_true false x y z e f = absurd (false≢true e)

if_false : {A : Type 0} (b : Bool) (x y z : A) → b ≡ false → (if b then x else y) ≡ z → y ≡ z
if_false true x y z e f = absurd (true≢false e)
if_false false x y z e f = f

ok_is : {A B : Type 0} (a b : A) → ◌≡◌ {A = Outcome A B} (Ok a) (Ok b) → a ≡ b
ok_is a b e = cc

module _ (scene : Scene) (world : World) (scope : IsTypedScope scene.program) (memory_typed : AreTyped (layout scene.program) world.memory) (result : CType) where
  abbrev Typed : Tree → Type 0
  Typed tree = IsTyped scene.program result tree

  abbrev value_of : Tree → Option ℤ
  value_of tree = constant_value scene.program.table scene.program.declared tree

  abbrev Claim : Tree → Type 0
  Claim tree = is_constant_form tree ≡ true → (z : ℤ) → value_of tree ≡ Some z → ComesTo scene world tree z

  abbrev Claims : Trees → Type 0
  Claims no_trees = Unit {0}
  Claims (more_trees first rest) = Claim first × Claims rest

  to_value : (tree : Tree) (y z : ℤ) → y ≡ z → ComesTo scene world tree y → ComesTo scene world tree z
  to_value tree y z e h = subst (ComesTo scene world tree) e h

  same_kind : (tree : Tree) (k j : Kind) → integer_kind (kind_of tree) ≡ Some k → integer_kind (kind_of tree) ≡ Some j → k ≡ j
  same_kind tree k j e f = some_is_some k j (sym e ∙ f)

  size_is : (type : CType) (z : ℤ) → option_map pos (size_of scene.program.table type) ≡ Some z → pos ((layout scene.program).size type) ≡ z
  size_is type z e =
      let found = mapped_some pos (size_of scene.program.table type) z e in
      ap (λ o. pos (or_zero o)) found.1 ∙ found.2

  size_range : (type : CType) → IsSome (size_of scene.program.table type) → InRange ULong (pos ((layout scene.program).size type))
  size_range type h = let n = size_number scene.program.table scope.table type h in subst (InRange ULong) (sym (ap (λ o. pos (or_zero o)) n.1)) n.2

  -- a sign, on an operand that comes to a number
  unary_value_comes : (sign : Sign) (a : Tree) (kind : CType) (spans : Spans) → Typed (node (label.unary sign) kind spans (more_trees a no_trees)) → (y : ℤ) (h : ComesTo scene world a y) (z : ℤ) → unary_value sign h.kind y ≡ Ok z
      → ComesTo scene world (node (label.unary sign) kind spans (more_trees a no_trees)) z
  unary_value_comes s.Not a kind spans tree y h z e = to_value _ _ z (ok_is _ z e) (not_comes scene world scope memory_typed result a kind spans tree y h)
  unary_value_comes s.Plus a kind spans tree y h z e = signed_comes scene world scope memory_typed result s.Plus tt a kind spans tree y h (value_no_lvalue a tree.typed.0.0) tree.typed.0.1 z e
  unary_value_comes s.Minus a kind spans tree y h z e = signed_comes scene world scope memory_typed result s.Minus tt a kind spans tree y h (value_no_lvalue a tree.typed.0.0) tree.typed.0.1 z e
  unary_value_comes s.Complement a kind spans tree y h z e = signed_comes scene world scope memory_typed result s.Complement tt a kind spans tree y h (value_no_lvalue a tree.typed.0.0) tree.typed.0.1 z e

  const_node : (form : Label) (kind : CType) (spans : Spans) (parts : Trees) → Typed (node form kind spans parts) → Claims parts → Claim (node form kind spans parts)
  const_node (label.number y) kind spans parts tree below form z value = to_value _ y z (some_is_some y z value) (number_comes scene world scope memory_typed result y kind spans parts tree)
  const_node (label.enumerator d) kind spans parts tree below form z value =
      to_value _ (enumerator_number scene.program d) z (entry_number (slice_get scene.program.declared d) z value) (enumerator_comes scene world scope memory_typed result d kind spans parts tree)
  const_node label.sizeof_tree kind spans (more_trees a no_trees) tree below form z value =
      to_value _ _ z (size_is (kind_of a) z value) (size_comes scene world scope memory_typed result a no_trees kind spans tree.typed.0.2 (size_range (kind_of a) tree.typed.0.1))
  const_node (label.sizeof_kind type) kind spans parts tree below form z value =
      to_value _ _ z (size_is type z value) (kind_size_comes scene world scope memory_typed result type parts kind spans tree.typed.0.2 (size_range type tree.typed.0.0))
  const_node label.convert kind spans (more_trees a lengths) tree below form z value =
      let found = bound_some (converted_to kind) (value_of a) z value in
      let made = mapped_some (λ k. brought k found.0) (integer_kind kind) z found.2 in
      to_value _ _ z made.2 (convert_comes scene world scope memory_typed result a lengths kind spans made.0 made.1 found.0 (below.0 (and_right _ _ form) found.0 found.1))
  const_node (label.unary sign) kind spans (more_trees a no_trees) tree below form z value =
      let found = bound_some (signed_value sign (kind_of a)) (value_of a) z value in
      let made = bound_some (signed_in sign found.0) (integer_kind (kind_of a)) z found.2 in
      let h = below.0 (and_left _ _ (and_right _ _ form)) found.0 found.1 in
      let same = same_kind a made.0 h.kind made.1 h.integer in
      unary_value_comes sign a kind spans tree found.0 h z
      (ap (λ k. unary_value sign k found.0) (sym same) ∙ without_fault (unary_value sign made.0 found.0) z (where_met (is_in_range made.0 found.0) (result_ok (unary_value sign made.0 found.0)) z made.2))
  const_node (label.binary op) kind spans (more_trees a (more_trees b no_trees)) tree below form z value =
      let left = bound_some (λ x. option_and_then (operated_value op (kind_of a) x) (value_of b)) (value_of a) z value in
      let right = bound_some (operated_value op (kind_of a) left.0) (value_of b) z left.2 in
      let made = bound_some (operated_in op left.0 right.0) (integer_kind (kind_of a)) z right.2 in
      let forms = and_right _ _ form in
      let h = below.0 (and_left _ _ forms) left.0 left.1 in
      let k = below.1.0 (and_left _ _ (and_right _ _ forms)) right.0 right.1 in
      let same = same_kind a made.0 h.kind made.1 h.integer in
      let test = condition_met (is_in_range made.0 left.0 && is_right op made.0 right.0) (result_ok (operated op made.0 left.0 right.0)) z made.2 in
      let own = is_some_some (integer_kind kind) (and_left _ _ form) in
      binary_comes scene world scope memory_typed result op a b kind spans tree left.0 right.0 h k (value_no_lvalue a tree.typed.0.0) (value_no_lvalue b tree.typed.0.1) own.0 own.1 z
      (ap (λ j. is_right op j right.0) (sym same) ∙ and_right (is_in_range made.0 left.0) (is_right op made.0 right.0) test)
      (ap (λ j. operated op j left.0 right.0) (sym same) ∙ without_fault (operated op made.0 left.0 right.0) z (where_met (is_in_range made.0 left.0 && is_right op made.0 right.0) (result_ok (operated op made.0 left.0 right.0)) z made.2))
  const_node label.both kind spans (more_trees a (more_trees b no_trees)) tree below form z value =
      let left = bound_some (λ x. if is_true x then option_map constants.truth_of (value_of b) else Some (pos 0)) (value_of a) z value in
      let forms = and_right _ _ form in
      let h = below.0 (and_left _ _ forms) left.0 left.1 in
      by_first left.0 h (and_left _ _ (and_right _ _ forms)) left.2 (is_true left.0) refl
    where
      by_first : (x : ℤ) → ComesTo scene world a x → is_constant_form b ≡ true → (if is_true x then option_map constants.truth_of (value_of b) else Some (pos 0)) ≡ Some z → (t : Bool) → is_true x ≡ t
          → ComesTo scene world (node label.both kind spans (more_trees a (more_trees b no_trees))) z
      by_first x h second e true t =
          let found = mapped_some constants.truth_of (value_of b) z (if_true (is_true x) _ _ _ t e) in
          to_value _ _ z found.2 (both_on scene world scope memory_typed result a b no_trees kind spans x h tree.typed.0.2 t found.0 (below.1.0 second found.0 found.1))
      by_first x h second e false t = to_value _ _ z (some_is_some (pos 0) z (if_false (is_true x) _ _ _ t e)) (both_off scene world scope memory_typed result a b no_trees kind spans x h tree.typed.0.2 t)
  const_node label.either kind spans (more_trees a (more_trees b no_trees)) tree below form z value =
      let left = bound_some (λ x. if is_true x then Some (pos 1) else option_map constants.truth_of (value_of b)) (value_of a) z value in
      let forms = and_right _ _ form in
      let h = below.0 (and_left _ _ forms) left.0 left.1 in
      by_first left.0 h (and_left _ _ (and_right _ _ forms)) left.2 (is_true left.0) refl
    where
      by_first : (x : ℤ) → ComesTo scene world a x → is_constant_form b ≡ true → (if is_true x then Some (pos 1) else option_map constants.truth_of (value_of b)) ≡ Some z → (t : Bool) → is_true x ≡ t
          → ComesTo scene world (node label.either kind spans (more_trees a (more_trees b no_trees))) z
      by_first x h second e false t =
          let found = mapped_some constants.truth_of (value_of b) z (if_false (is_true x) _ _ _ t e) in
          to_value _ _ z found.2 (either_on scene world scope memory_typed result a b no_trees kind spans x h tree.typed.0.2 t found.0 (below.1.0 second found.0 found.1))
      by_first x h second e true t = to_value _ _ z (some_is_some (pos 1) z (if_true (is_true x) _ _ _ t e)) (either_off scene world scope memory_typed result a b no_trees kind spans x h tree.typed.0.2 t)
  const_node label.choose kind spans (more_trees a (more_trees b (more_trees c no_trees))) tree below form z value =
      let left = bound_some (λ x. if is_true x then value_of b else value_of c) (value_of a) z value in
      let forms = and_right _ _ form in
      let h = below.0 (and_left _ _ forms) left.0 left.1 in
      by_first left.0 h (and_left _ _ (and_right _ _ forms)) (and_left _ _ (and_right _ _ (and_right _ _ forms))) left.2 (is_true left.0) refl
    where
      by_first : (x : ℤ) → ComesTo scene world a x → is_constant_form b ≡ true → is_constant_form c ≡ true → (if is_true x then value_of b else value_of c) ≡ Some z → (t : Bool) → is_true x ≡ t
          → ComesTo scene world (node label.choose kind spans (more_trees a (more_trees b (more_trees c no_trees)))) z
      by_first x h second third e true t = second_on scene world scope memory_typed result a b (more_trees c no_trees) kind spans x h tree.typed.0.3 t z (below.1.0 second z (if_true (is_true x) _ _ _ t e))
      by_first x h second third e false t = third_on scene world scope memory_typed result a b c no_trees kind spans x h tree.typed.0.4 t z (below.1.1.0 third z (if_false (is_true x) _ _ _ t e))
  const_node form_here kind spans parts tree below form z value = absurd (none_is_some z value)

  mutual
    const_comes : (tree : Tree) → Typed tree → Claim tree
    const_comes (node form kind spans parts) tree = const_node form kind spans parts tree (consts_come parts (typed_parts scene.program result form kind spans parts tree))

    consts_come : (parts : Trees) → AllTyped scene.program result parts → Claims parts
    consts_come no_trees typed = tt
    consts_come (more_trees first rest) typed = (const_comes first typed.0, consts_come rest typed.1)

  -- A typed integer constant expression with a value comes to that.
  pub constant_comes : (tree : Tree) → Typed tree → (z : ℤ) → constant_of scene.program tree ≡ Some z → ComesTo scene world tree z
  constant_comes tree typed z e = let form = constant_parts scene.program tree z e in const_comes tree typed form.0 z form.1
