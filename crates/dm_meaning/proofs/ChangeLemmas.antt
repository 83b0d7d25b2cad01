-- What the step of a node changes: nothing in memory, or a part of one object that has been made, which it locks.
use Rattle.std.specs.Prelude.{◌≡◌, refl, ◌⊎◌, ℕ, Bool, true, false, not, ◌||◌, if◌then◌else◌, List, [], ◌∷◌, ◌++◌, Option, Some, None, Result as Outcome, Ok, Err, ℤ, neg_ℤ}
use Rattle.std.proofs.Common.{ap, inl, inr}
use Rattle.dm_int.specs.declared.Fault.{Fault}
use Rattle.dm_int.specs.declared.Kind.TheVariants.{Long}
use Rattle.dm_int.specs.declared.Op.{Op}
use Rattle.dm_int.specs.declared.Op.TheVariants.{Add, Sub, Less, Greater, LessEq, GreaterEq, Equal, NotEqual}
use Rattle.dm_int.specs.Operators as operators
use Rattle.dm_type.specs.CTypes.{CType, void, integer, pointer, array, struct, function as function_type, const, bare}
use Rattle.dm_tree.specs.declared.tree.Sign.{Sign}
use Rattle.dm_tree.specs.declared.tree.Sign.TheVariants.{Not}
use Rattle.dm_tree.specs.Trees.{Label, number, enumerator, literal, object, function, read, decay, convert, address, follow, member, unary, binary, store, update, count, sizeof_kind}
use Rattle.dm_tree.specs.Evaluation.{unary_value, is_right}
use Rattle.dm_meaning.specs.declared.cause.Cause.{Cause}
use Rattle.dm_meaning.specs.declared.cause.Cause.TheVariants.{Unset, Life, Const}
use Rattle.dm_meaning.specs.Values.{Name, numbered, literal_of, elsewhere, part, part_value, At, Pointer, null, to, Value, integer_value, pointer_value, parts as compound, unset}
use Rattle.dm_meaning.specs.Memory.{Memory, Block, look_up, look, lives, may_be_written, reached, written, contents_at, or_unset}
use Rattle.dm_meaning.specs.Programs.{layout}
use Rattle.dm_meaning.specs.Causes.{earliest, when, is_unset, is_fixed, is_null, absence_causes, access_causes, entry_causes, read_causes, store_causes, update_causes, use_causes, follow_causes, moved_pointer, moved_causes, pointer_distance, distance_causes, order_causes}
use Rattle.dm_meaning.specs.Operations.{Result, of_value, designates, Operand, World, Scene, Did, gives, breaks, ends_with, decided, provided, unless, plain, typed, is_of_kind, number_alone, or_null, or_zero, truth_in, pointer_minus, byte_at, equal_pointers, ordered, equated, update_at, count_at, faulted, on_one, on_two, on_value, on_set, ill, on_place, designated, object_named, part_of, read_at, followed, member_of, converted, convert_bare, Truth, holds, untold, truth_of, on_truth, signed, on_pointers, on_move, on_plus, pointer_plus, combined, store_at, Made, replace_at, operate, on_target, pointer_further}
use Rattle.dm_meaning.specs.MoreObjects.{IsMade, IsMadeName}
use Rattle.dm_meaning.proofs.ExtendLemmas.{nil_left, nil_right, when_false, access_absence}

-- an object that can be used has been made
living_made : (memory : Memory) (n : ℕ) (o : Option Block) → look_up memory n ≡ o → not (lives (look_up memory n)) ≡ false → IsMade memory n
living_made memory n None e k = absurd (cc (ap (λ x. not (lives x)) e))
living_made memory n (Some block) e k = (block, e)

present_made : (memory : Memory) (name : Name) → absence_causes memory name ≡ [] → IsMadeName memory name
present_made memory (numbered n) e = living_made memory n (look_up memory n) refl (when_false Life (not (lives (look_up memory n))) e)
present_made memory (literal_of bytes unit) e = tt
present_made memory (elsewhere identifier) e = tt

-- a step leaves the world as it is, or stores a value in an object that has been made, and locks that place
abbrev pub Changes : World → World → List At → Type 0
Changes world after new =
    ((after ≡ world) × (new ≡ []))
    ⊎ ((at : At) × (value : Value) × (after ≡ record world { memory = written world.memory at value }) × (new ≡ at ∷ []) × IsMadeName world.memory at.name)

module _ (scene : Scene) (world : World) (locks : List At) where
  abbrev pub DidChanges : Did → Type 0
  DidChanges (gives after result new) = Changes world after new
  DidChanges (breaks cause) = Unit {0}
  DidChanges (ends_with status) = Unit {0}

  unchanged : Changes world world []
  unchanged = inl (refl, refl)

  stored_made : (kind : CType) (at : At) → store_causes (layout scene.program) world.memory locks kind at ≡ [] → IsMadeName world.memory at.name
  stored_made kind at e =
      present_made world.memory at.name (access_absence (layout scene.program) world.memory locks kind at
      (nil_left (access_causes (layout scene.program) world.memory locks kind at) (when Const (is_fixed (reached (layout scene.program) world.memory at) || not (may_be_written (look world.memory at.name)))) e))

  decided_changes : (o : Option Cause) (did : Did) → DidChanges did → DidChanges (decided o did)
  decided_changes None did h = h
  decided_changes (Some cause) did h = tt

  unless_changes : (causes : List Cause) (did : Did) → DidChanges did → DidChanges (unless causes did)
  unless_changes causes did h = decided_changes (earliest causes) did h

  defined_changes : (causes : List Cause) (did : Did) → (causes ≡ [] → DidChanges did) → DidChanges (unless causes did)
  defined_changes [] did h = h refl
  defined_changes (cause ∷ causes) did h = tt

  faulted_changes : (r : Outcome ℤ Fault) (next : ℤ → Did) → ((z : ℤ) → DidChanges (next z)) → DidChanges (faulted r next)
  faulted_changes (Ok z) next h = h z
  faulted_changes (Err fault) next h = tt

  provided_changes : (b : Bool) (did : Did) → DidChanges did → DidChanges (provided b did)
  provided_changes true did h = h
  provided_changes false did h = tt

  pub number_changes : (kind : CType) (z : ℤ) → DidChanges (number_alone world kind z)
  number_changes kind z = provided_changes (is_of_kind (typed kind z)) (plain world (typed kind z)) unchanged

  one_changes : (operands : List Operand) (next : Operand → Did) → ((a : Operand) → DidChanges (next a)) → DidChanges (on_one operands next)
  one_changes [] next h = tt
  one_changes (a ∷ []) next h = h a
  one_changes (a ∷ b ∷ rest) next h = tt

  two_changes : (operands : List Operand) (next : Operand → Operand → Did) → ((a b : Operand) → DidChanges (next a b)) → DidChanges (on_two operands next)
  two_changes [] next h = tt
  two_changes (a ∷ []) next h = tt
  two_changes (a ∷ b ∷ []) next h = h a b
  two_changes (a ∷ b ∷ c ∷ rest) next h = tt

  value_changes : (result : Result) (next : Value → Did) → ((v : Value) → DidChanges (next v)) → DidChanges (on_value result next)
  value_changes (of_value v) next h = h v
  value_changes (designates at) next h = tt

  changes_unless_ill : (b : Bool) (did : Did) → DidChanges did → DidChanges (if b then ill else did)
  changes_unless_ill true did h = tt
  changes_unless_ill false did h = h

  set_changes : (result : Result) (next : Value → Did) → ((v : Value) → DidChanges (next v)) → DidChanges (on_set result next)
  set_changes (of_value v) next h = changes_unless_ill (is_unset v) (next v) (h v)
  set_changes (designates at) next h = tt

  place_changes : (result : Result) (next : At → Did) → ((at : At) → DidChanges (next at)) → DidChanges (on_place result next)
  place_changes (of_value v) next h = tt
  place_changes (designates at) next h = h at

  truth_changes : (truth : Truth) (next : Bool → Did) → ((b : Bool) → DidChanges (next b)) → DidChanges (on_truth truth next)
  truth_changes (holds b) next h = h b
  truth_changes (untold cause) next h = tt

  followed_changes : (value : Value) → DidChanges (followed world value)
  followed_changes (pointer_value null) = tt
  followed_changes (pointer_value (to at)) = unless_changes (follow_causes world.memory (to at)) (gives world (designates at) []) unchanged
  followed_changes (integer_value kind z) = tt
  followed_changes (compound all) = tt
  followed_changes unset = tt

  member_changes : (m : ℕ) (kind : CType) (result : Result) → DidChanges (member_of scene world m kind result)
  member_changes m kind (of_value value) =
      unless_changes (when Unset (is_unset (or_unset (part_value value (part m ∷ []))))) (plain world (or_unset (part_value value (part m ∷ [])))) unchanged
  member_changes m kind (designates at) = unless_changes (entry_causes (layout scene.program) world.memory kind at) (gives world (designates (part_of at m)) []) unchanged

  converted_changes : (kind : CType) (value : Value) → DidChanges (converted world kind value)
  converted_changes (integer kind) (integer_value other z) = unchanged
  converted_changes (integer kind) (pointer_value p) = unless_changes (use_causes world.memory p) (plain world (integer_value kind (operators.truth (not (is_null p))))) unchanged
  converted_changes (integer kind) (compound all) = unchanged
  converted_changes (integer kind) unset = unchanged
  converted_changes (pointer target) (pointer_value p) = unless_changes (use_causes world.memory p) (plain world (pointer_value p)) unchanged
  converted_changes (pointer target) (integer_value kind z) = unchanged
  converted_changes (pointer target) (compound all) = unchanged
  converted_changes (pointer target) unset = unchanged
  converted_changes void value = unchanged
  converted_changes (array element known) value = unchanged
  converted_changes (struct m) value = unchanged
  converted_changes (function_type result parameters) value = unchanged
  converted_changes (const type) value = unchanged

  convert_changes : (kind : CType) (result : Result) → DidChanges (convert_bare world kind result)
  convert_changes void result = unchanged
  convert_changes (integer kind) result = set_changes result _ (converted_changes (integer kind))
  convert_changes (pointer target) result = set_changes result _ (converted_changes (pointer target))
  convert_changes (array element known) result = set_changes result _ (converted_changes (array element known))
  convert_changes (struct m) result = set_changes result _ (converted_changes (struct m))
  convert_changes (function_type other parameters) result = set_changes result _ (converted_changes (function_type other parameters))
  convert_changes (const type) result = set_changes result _ (converted_changes (const type))

  sign_changes : (kind : CType) (sign : Sign) (value : Value) → DidChanges (signed world kind sign value)
  sign_changes kind Not value = truth_changes (truth_of world.memory value) (λ b. plain world (truth_in kind (not b))) (λ b. unchanged)
  sign_changes kind sign (integer_value other z) = faulted_changes (unary_value sign other z) (number_alone world kind) (number_changes kind)
  sign_changes kind sign value = tt

  minus_changes : (kind target : CType) (a b : Pointer) → DidChanges (pointer_minus scene world kind target a b)
  minus_changes kind target a b =
      unless_changes (distance_causes (layout scene.program) world.memory target a b) (number_alone world kind (or_zero (pointer_distance (layout scene.program) world.memory target a b)))
      (number_changes kind _)

  ordered_changes : (kind : CType) (op : Op) (a b : Pointer) → DidChanges (ordered scene world kind op a b)
  ordered_changes kind op a b =
      unless_changes (order_causes world.memory a b) (faulted (operators.binary op Long (byte_at scene world a) (byte_at scene world b)) (number_alone world kind))
      (faulted_changes (operators.binary op Long (byte_at scene world a) (byte_at scene world b)) (number_alone world kind) (number_changes kind))

  equated_changes : (kind : CType) (sense : Bool → Bool) (a b : Pointer) → DidChanges (equated scene world kind sense a b)
  equated_changes kind sense a b =
      unless_changes (use_causes world.memory a ++ use_causes world.memory b) (plain world (truth_in kind (sense (equal_pointers scene world a b)))) unchanged

  target_changes : (kind : CType) (next : CType → Did) → ((target : CType) → DidChanges (next target)) → DidChanges (on_target kind next)
  target_changes (pointer target) next h = h target
  target_changes kind next h = tt

  pointers_change : (kind left : CType) (op : Op) (a b : Pointer) → DidChanges (on_pointers scene world kind left op a b)
  pointers_change kind left Sub a b = target_changes left _ (λ target. minus_changes kind target a b)
  pointers_change kind left Less a b = ordered_changes kind Less a b
  pointers_change kind left Greater a b = ordered_changes kind Greater a b
  pointers_change kind left LessEq a b = ordered_changes kind LessEq a b
  pointers_change kind left GreaterEq a b = ordered_changes kind GreaterEq a b
  pointers_change kind left Equal a b = equated_changes kind (λ truth. truth) a b
  pointers_change kind left NotEqual a b = equated_changes kind not a b
  pointers_change kind left op a b = tt

  plus_changes : (kind : CType) (p : Pointer) (m : ℤ) → DidChanges (pointer_plus scene world kind p m)
  plus_changes kind p m =
      target_changes kind (λ target. pointer_further scene world target p m)
      (λ target. unless_changes (moved_causes (layout scene.program) world.memory target p m) (plain world (pointer_value (or_null (moved_pointer (layout scene.program) world.memory target p m)))) unchanged)

  move_changes : (op : Op) (m : ℤ) (next : ℤ → Did) → ((z : ℤ) → DidChanges (next z)) → DidChanges (on_move op m next)
  move_changes Add m next h = h m
  move_changes Sub m next h = h (neg_ℤ m)
  move_changes op m next h = tt

  on_plus_changes : (op : Op) (did : Did) → DidChanges did → DidChanges (on_plus op did)
  on_plus_changes Add did h = h
  on_plus_changes op did h = tt

  combined_changes : (kind left : CType) (op : Op) (a b : Value) → DidChanges (combined scene world kind left op a b)
  combined_changes kind left op (integer_value j x) (integer_value k y) = provided_changes (is_right op j y) _ (faulted_changes (operators.binary op j x y) (number_alone world kind) (number_changes kind))
  combined_changes kind left op (pointer_value p) (integer_value k y) = move_changes op y (pointer_plus scene world kind p) (plus_changes kind p)
  combined_changes kind left op (integer_value j x) (pointer_value q) = on_plus_changes op (pointer_plus scene world kind q x) (plus_changes kind q x)
  combined_changes kind left op (pointer_value p) (pointer_value q) = pointers_change kind left op p q
  combined_changes kind left op (integer_value j x) (compound all) = tt
  combined_changes kind left op (integer_value j x) unset = tt
  combined_changes kind left op (pointer_value p) (compound all) = tt
  combined_changes kind left op (pointer_value p) unset = tt
  combined_changes kind left op (compound all) b = tt
  combined_changes kind left op unset b = tt

  read_changes : (kind : CType) (at : At) → DidChanges (read_at scene world locks kind at)
  read_changes kind at = unless_changes (read_causes (layout scene.program) world.memory locks kind at) (plain world (contents_at world.memory at)) unchanged

  store_changes : (kind : CType) (at : At) (value : Value) → DidChanges (store_at scene world locks kind at value)
  store_changes kind at value =
      defined_changes (store_causes (layout scene.program) world.memory locks kind at) (gives (record world { memory = written world.memory at value }) (of_value value) (at ∷ []))
      (λ e. inr (at, value, refl, refl, stored_made kind at e))

  replace_changes : (kind : CType) (at : At) (made : Made) (result : Value) → DidChanges (replace_at scene world locks kind at made result)
  replace_changes kind at made result =
      let updates = update_causes (layout scene.program) world.memory locks kind at in
      defined_changes (made.causes ++ updates) (gives (record world { memory = written world.memory at made.value }) (of_value result) (at ∷ []))
      (λ e. inr (at, made.value, refl, refl, stored_made kind at (nil_right (read_causes (layout scene.program) world.memory locks kind at) (store_causes (layout scene.program) world.memory locks kind at) (nil_right made.causes updates e))))

  designated_changes : (o : Option ℕ) → DidChanges (designated world o)
  designated_changes None = tt
  designated_changes (Some m) = unchanged

  -- The step of a node changes one object at most, which has been made.
  pub operate_changes : (label : Label) (kind : CType) (operands : List Operand) → DidChanges (operate scene world locks label kind operands)
  operate_changes (number z) kind operands = number_changes kind z
  operate_changes (enumerator d) kind operands = number_changes kind _
  operate_changes (literal bytes unit) kind operands = unchanged
  operate_changes (object d) kind operands = designated_changes (object_named scene.objects d)
  operate_changes (function d) kind operands = unchanged
  operate_changes read kind operands = one_changes operands (λ a. on_place a.result (read_at scene world locks kind)) (λ a. place_changes a.result (read_at scene world locks kind) (read_changes kind))
  operate_changes decay kind operands =
      one_changes operands _ (λ a. place_changes a.result _ (λ at. unless_changes (entry_causes (layout scene.program) world.memory a.kind at) (plain world (pointer_value (to (part_of at 0)))) unchanged))
  operate_changes convert kind operands = one_changes operands _ (λ a. convert_changes (bare kind) a.result)
  operate_changes address kind operands = one_changes operands _ (λ a. place_changes a.result _ (λ at. unchanged))
  operate_changes follow kind operands = one_changes operands (λ a. on_value a.result (followed world)) (λ a. value_changes a.result (followed world) followed_changes)
  operate_changes (member m) kind operands = one_changes operands _ (λ a. member_changes m a.kind a.result)
  operate_changes (unary sign) kind operands = one_changes operands (λ a. on_value a.result (signed world kind sign)) (λ a. value_changes a.result (signed world kind sign) (sign_changes kind sign))
  operate_changes (binary op) kind operands =
      two_changes operands (λ a b. on_value a.result (λ x. on_value b.result (combined scene world kind a.kind op x)))
      (λ a b. value_changes a.result (λ x. on_value b.result (combined scene world kind a.kind op x)) (λ x. value_changes b.result (combined scene world kind a.kind op x) (combined_changes kind a.kind op x)))
  operate_changes store kind operands =
      two_changes operands (λ a b. on_place a.result (λ at. on_set b.result (store_at scene world locks kind at)))
      (λ a b. place_changes a.result (λ at. on_set b.result (store_at scene world locks kind at)) (λ at. set_changes b.result (store_at scene world locks kind at) (store_changes kind at)))
  operate_changes (update op works) kind operands =
      two_changes operands (λ a b. on_place a.result (λ at. on_value b.result (update_at scene world locks kind op works at)))
      (λ a b. place_changes a.result (λ at. on_value b.result (update_at scene world locks kind op works at)) (λ at. value_changes b.result (update_at scene world locks kind op works at) (λ v. replace_changes kind at _ _)))
  operate_changes (count plus before) kind operands =
      one_changes operands (λ a. on_place a.result (count_at scene world locks kind plus before)) (λ a. place_changes a.result (count_at scene world locks kind plus before) (λ at. replace_changes kind at _ _))
  operate_changes (sizeof_kind type) kind operands = number_changes kind _
  operate_changes label kind operands = tt
