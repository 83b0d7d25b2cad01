-- The step of a node that neither stores nor calls leaves the world as it is, and locks nothing.
use Rattle.std.specs.Prelude.{◌≡◌, refl, ℕ, Bool, true, false, not, if◌then◌else◌, List, [], ◌∷◌, ◌++◌, Option, Some, None, Result as Outcome, Ok, Err, ℤ, neg_ℤ}
use Rattle.std.proofs.Common.{true≢false, sym}
use Rattle.dm_int.specs.declared.Fault.{Fault}
use Rattle.dm_int.specs.declared.Kind.TheVariants.{Long}
use Rattle.dm_int.specs.declared.Op.{Op}
use Rattle.dm_int.specs.declared.Op.TheVariants.{Add, Sub, Less, Greater, LessEq, GreaterEq, Equal, NotEqual}
use Rattle.dm_int.specs.Operators as operators
use Rattle.dm_type.specs.CTypes.{CType, void, integer, pointer, array, struct, function as function_type, const, bare}
use Rattle.dm_tree.specs.declared.tree.Sign.{Sign}
use Rattle.dm_tree.specs.declared.tree.Sign.TheVariants.{Not}
use Rattle.dm_tree.specs.Trees.{Label, number, enumerator, literal, object, function, read, decay, convert, address, follow, member, unary, binary, store, update, count, sizeof_kind}
use Rattle.dm_tree.specs.Evaluation.{unary_value, is_right}
use Rattle.dm_meaning.specs.declared.cause.Cause.{Cause}
use Rattle.dm_meaning.specs.declared.cause.Cause.TheVariants.{Unset}
use Rattle.dm_meaning.specs.Values.{part, part_value, At, Pointer, null, to, Value, integer_value, pointer_value, parts as compound, unset}
use Rattle.dm_meaning.specs.Memory.{contents_at, or_unset}
use Rattle.dm_meaning.specs.Programs.{layout}
use Rattle.dm_meaning.specs.Causes.{earliest, when, is_unset, is_null, entry_causes, read_causes, use_causes, follow_causes, moved_pointer, moved_causes, pointer_distance, distance_causes, order_causes}
use Rattle.dm_meaning.specs.Operations.{Result, of_value, designates, Operand, World, Scene, Did, gives, decided, provided, unless, plain, typed, is_of_kind, number_alone, or_null, or_zero, truth_in, pointer_minus, byte_at, equal_pointers, ordered, equated, faulted, on_one, on_two, on_value, on_set, ill, on_place, designated, object_named, part_of, read_at, followed, member_of, converted, convert_bare, Truth, holds, untold, truth_of, on_truth, signed, on_pointers, on_move, on_plus, pointer_plus, combined, operate, on_target, pointer_further}
use Rattle.dm_rewrite.specs.Computed.{is_pure_label}
use Rattle.dm_rewrite.specs.PureSteps.{DidPlain}

module _ (scene : Scene) (world : World) (locks : List At) where
  unchanged : DidPlain world (plain world unset)
  unchanged = (refl, refl)

  decided_plains : (o : Option Cause) (did : Did) → DidPlain world did → DidPlain world (decided o did)
  decided_plains None did h = h
  decided_plains (Some cause) did h = tt

  unless_plains : (causes : List Cause) (did : Did) → DidPlain world did → DidPlain world (unless causes did)
  unless_plains causes did h = decided_plains (earliest causes) did h

  faulted_plains : (r : Outcome ℤ Fault) (next : ℤ → Did) → ((z : ℤ) → DidPlain world (next z)) → DidPlain world (faulted r next)
  faulted_plains (Ok z) next h = h z
  faulted_plains (Err fault) next h = tt

  provided_plains : (b : Bool) (did : Did) → DidPlain world did → DidPlain world (provided b did)
  provided_plains true did h = h
  provided_plains false did h = tt

  number_plains : (kind : CType) (z : ℤ) → DidPlain world (number_alone world kind z)
  number_plains kind z = provided_plains (is_of_kind (typed kind z)) (plain world (typed kind z)) unchanged

  one_plains : (operands : List Operand) (next : Operand → Did) → ((a : Operand) → DidPlain world (next a)) → DidPlain world (on_one operands next)
  one_plains [] next h = tt
  one_plains (a ∷ []) next h = h a
  one_plains (a ∷ b ∷ rest) next h = tt

  two_plains : (operands : List Operand) (next : Operand → Operand → Did) → ((a b : Operand) → DidPlain world (next a b)) → DidPlain world (on_two operands next)
  two_plains [] next h = tt
  two_plains (a ∷ []) next h = tt
  two_plains (a ∷ b ∷ []) next h = h a b
  two_plains (a ∷ b ∷ c ∷ rest) next h = tt

  value_plains : (result : Result) (next : Value → Did) → ((v : Value) → DidPlain world (next v)) → DidPlain world (on_value result next)
  value_plains (of_value v) next h = h v
  value_plains (designates at) next h = tt

  plains_unless_ill : (b : Bool) (did : Did) → DidPlain world did → DidPlain world (if b then ill else did)
  plains_unless_ill true did h = tt
  plains_unless_ill false did h = h

  set_plains : (result : Result) (next : Value → Did) → ((v : Value) → DidPlain world (next v)) → DidPlain world (on_set result next)
  set_plains (of_value v) next h = plains_unless_ill (is_unset v) (next v) (h v)
  set_plains (designates at) next h = tt

  place_plains : (result : Result) (next : At → Did) → ((at : At) → DidPlain world (next at)) → DidPlain world (on_place result next)
  place_plains (of_value v) next h = tt
  place_plains (designates at) next h = h at

  truth_plains : (truth : Truth) (next : Bool → Did) → ((b : Bool) → DidPlain world (next b)) → DidPlain world (on_truth truth next)
  truth_plains (holds b) next h = h b
  truth_plains (untold cause) next h = tt

  followed_plains : (value : Value) → DidPlain world (followed world value)
  followed_plains (pointer_value null) = tt
  followed_plains (pointer_value (to at)) = unless_plains (follow_causes world.memory (to at)) (gives world (designates at) []) unchanged
  followed_plains (integer_value kind z) = tt
  followed_plains (compound all) = tt
  followed_plains unset = tt

  member_plains : (m : ℕ) (kind : CType) (result : Result) → DidPlain world (member_of scene world m kind result)
  member_plains m kind (of_value value) =
      unless_plains (when Unset (is_unset (or_unset (part_value value (part m ∷ []))))) (plain world (or_unset (part_value value (part m ∷ [])))) unchanged
  member_plains m kind (designates at) = unless_plains (entry_causes (layout scene.program) world.memory kind at) (gives world (designates (part_of at m)) []) unchanged

  converted_plains : (kind : CType) (value : Value) → DidPlain world (converted world kind value)
  converted_plains (integer kind) (integer_value other z) = unchanged
  converted_plains (integer kind) (pointer_value p) =
      unless_plains (use_causes world.memory p) (plain world (integer_value kind (operators.truth (not (is_null p))))) unchanged
  converted_plains (integer kind) (compound all) = unchanged
  converted_plains (integer kind) unset = unchanged
  converted_plains (pointer target) (pointer_value p) = unless_plains (use_causes world.memory p) (plain world (pointer_value p)) unchanged
  converted_plains (pointer target) (integer_value kind z) = unchanged
  converted_plains (pointer target) (compound all) = unchanged
  converted_plains (pointer target) unset = unchanged
  converted_plains void value = unchanged
  converted_plains (array element known) value = unchanged
  converted_plains (struct m) value = unchanged
  converted_plains (function_type result parameters) value = unchanged
  converted_plains (const type) value = unchanged

  convert_plains : (kind : CType) (result : Result) → DidPlain world (convert_bare world kind result)
  convert_plains void result = unchanged
  convert_plains (integer kind) result = set_plains result _ (converted_plains (integer kind))
  convert_plains (pointer target) result = set_plains result _ (converted_plains (pointer target))
  convert_plains (array element known) result = set_plains result _ (converted_plains (array element known))
  convert_plains (struct m) result = set_plains result _ (converted_plains (struct m))
  convert_plains (function_type other parameters) result = set_plains result _ (converted_plains (function_type other parameters))
  convert_plains (const type) result = set_plains result _ (converted_plains (const type))

  sign_plains : (kind : CType) (sign : Sign) (value : Value) → DidPlain world (signed world kind sign value)
  sign_plains kind Not value = truth_plains (truth_of world.memory value) (λ b. plain world (truth_in kind (not b))) (λ b. unchanged)
  sign_plains kind sign (integer_value other z) = faulted_plains (unary_value sign other z) (number_alone world kind) (number_plains kind)
  sign_plains kind sign value = tt

  minus_plains : (kind target : CType) (a b : Pointer) → DidPlain world (pointer_minus scene world kind target a b)
  minus_plains kind target a b =
      unless_plains (distance_causes (layout scene.program) world.memory target a b)
      (number_alone world kind (or_zero (pointer_distance (layout scene.program) world.memory target a b)))
      (number_plains kind _)

  ordered_plains : (kind : CType) (op : Op) (a b : Pointer) → DidPlain world (ordered scene world kind op a b)
  ordered_plains kind op a b =
      unless_plains (order_causes world.memory a b) (faulted (operators.binary op Long (byte_at scene world a) (byte_at scene world b)) (number_alone world kind))
      (faulted_plains (operators.binary op Long (byte_at scene world a) (byte_at scene world b)) (number_alone world kind) (number_plains kind))

  equated_plains : (kind : CType) (sense : Bool → Bool) (a b : Pointer) → DidPlain world (equated scene world kind sense a b)
  equated_plains kind sense a b =
      unless_plains (use_causes world.memory a ++ use_causes world.memory b) (plain world (truth_in kind (sense (equal_pointers scene world a b)))) unchanged

  target_plains : (kind : CType) (next : CType → Did) → ((target : CType) → DidPlain world (next target)) → DidPlain world (on_target kind next)
  target_plains (pointer target) next h = h target
  target_plains kind next h = tt

  pointers_plain : (kind left : CType) (op : Op) (a b : Pointer) → DidPlain world (on_pointers scene world kind left op a b)
  pointers_plain kind left Sub a b = target_plains left _ (λ target. minus_plains kind target a b)
  pointers_plain kind left Less a b = ordered_plains kind Less a b
  pointers_plain kind left Greater a b = ordered_plains kind Greater a b
  pointers_plain kind left LessEq a b = ordered_plains kind LessEq a b
  pointers_plain kind left GreaterEq a b = ordered_plains kind GreaterEq a b
  pointers_plain kind left Equal a b = equated_plains kind (λ truth. truth) a b
  pointers_plain kind left NotEqual a b = equated_plains kind not a b
  pointers_plain kind left op a b = tt

  plus_plains : (kind : CType) (p : Pointer) (m : ℤ) → DidPlain world (pointer_plus scene world kind p m)
  plus_plains kind p m =
      target_plains kind (λ target. pointer_further scene world target p m)
      (λ target. unless_plains (moved_causes (layout scene.program) world.memory target p m) (plain world (pointer_value (or_null (moved_pointer (layout scene.program) world.memory target p m)))) unchanged)

  move_plains : (op : Op) (m : ℤ) (next : ℤ → Did) → ((z : ℤ) → DidPlain world (next z)) → DidPlain world (on_move op m next)
  move_plains Add m next h = h m
  move_plains Sub m next h = h (neg_ℤ m)
  move_plains op m next h = tt

  on_plus_plains : (op : Op) (did : Did) → DidPlain world did → DidPlain world (on_plus op did)
  on_plus_plains Add did h = h
  on_plus_plains op did h = tt

  combined_plains : (kind left : CType) (op : Op) (a b : Value) → DidPlain world (combined scene world kind left op a b)
  combined_plains kind left op (integer_value j x) (integer_value k y) =
      provided_plains (is_right op j y) _ (faulted_plains (operators.binary op j x y) (number_alone world kind) (number_plains kind))
  combined_plains kind left op (pointer_value p) (integer_value k y) = move_plains op y (pointer_plus scene world kind p) (plus_plains kind p)
  combined_plains kind left op (integer_value j x) (pointer_value q) = on_plus_plains op (pointer_plus scene world kind q x) (plus_plains kind q x)
  combined_plains kind left op (pointer_value p) (pointer_value q) = pointers_plain kind left op p q
  combined_plains kind left op (integer_value j x) (compound all) = tt
  combined_plains kind left op (integer_value j x) unset = tt
  combined_plains kind left op (pointer_value p) (compound all) = tt
  combined_plains kind left op (pointer_value p) unset = tt
  combined_plains kind left op (compound all) b = tt
  combined_plains kind left op unset b = tt

  read_plains : (kind : CType) (at : At) → DidPlain world (read_at scene world locks kind at)
  read_plains kind at = unless_plains (read_causes (layout scene.program) world.memory locks kind at) (plain world (contents_at world.memory at)) unchanged

  designated_plains : (o : Option ℕ) → DidPlain world (designated world o)
  designated_plains None = tt
  designated_plains (Some m) = unchanged

  -- The step of a node.
  pub operate_plains : (label : Label) (kind : CType) (operands : List Operand) → is_pure_label label ≡ true
      → DidPlain world (operate scene world locks label kind operands)
  operate_plains (number z) kind operands pure = number_plains kind z
  operate_plains (enumerator d) kind operands pure = number_plains kind _
  operate_plains (literal bytes unit) kind operands pure = unchanged
  operate_plains (object d) kind operands pure = designated_plains (object_named scene.objects d)
  operate_plains (function d) kind operands pure = unchanged
  operate_plains read kind operands pure =
      one_plains operands (λ a. on_place a.result (read_at scene world locks kind)) (λ a. place_plains a.result (read_at scene world locks kind) (read_plains kind))
  operate_plains decay kind operands pure =
      one_plains operands _
      (λ a. place_plains a.result _ (λ at. unless_plains (entry_causes (layout scene.program) world.memory a.kind at) (plain world (pointer_value (to (part_of at 0)))) unchanged))
  operate_plains convert kind operands pure = one_plains operands _ (λ a. convert_plains (bare kind) a.result)
  operate_plains address kind operands pure = one_plains operands _ (λ a. place_plains a.result _ (λ at. unchanged))
  operate_plains follow kind operands pure = one_plains operands (λ a. on_value a.result (followed world)) (λ a. value_plains a.result (followed world) followed_plains)
  operate_plains (member m) kind operands pure = one_plains operands _ (λ a. member_plains m a.kind a.result)
  operate_plains (unary sign) kind operands pure =
      one_plains operands (λ a. on_value a.result (signed world kind sign)) (λ a. value_plains a.result (signed world kind sign) (sign_plains kind sign))
  operate_plains (binary op) kind operands pure =
      two_plains operands (λ a b. on_value a.result (λ x. on_value b.result (combined scene world kind a.kind op x)))
      (λ a b. value_plains a.result (λ x. on_value b.result (combined scene world kind a.kind op x)) (λ x. value_plains b.result (combined scene world kind a.kind op x) (combined_plains kind a.kind op x)))
  operate_plains (sizeof_kind type) kind operands pure = number_plains kind _
  operate_plains store kind operands pure = absurd (true≢false (sym pure))
  operate_plains (update op works) kind operands pure = absurd (true≢false (sym pure))
  operate_plains (count plus before) kind operands pure = absurd (true≢false (sym pure))
  operate_plains label kind operands pure = tt
