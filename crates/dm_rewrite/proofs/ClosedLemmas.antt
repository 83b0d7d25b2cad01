-- A closed object: no pointer to it is in memory or among values, and no step of an operator makes one but where its address is taken.
use Rattle.std.specs.Prelude.{zero, suc, slice_get, option_and_then, option_map, map, ◌==◌, ◌≡◌, refl, ℕ, Bool, true, false, not, if◌then◌else◌, List, [], ◌∷◌, ◌++◌, Option, Some, None, Result as Outcome, Ok, Err, ℤ, neg_ℤ}
use Rattle.std.proofs.Common.{ap, sym, ◌∙◌, subst}
use Rattle.dm_int.specs.declared.Fault.{Fault}
use Rattle.dm_int.specs.declared.Kind.TheVariants.{Long}
use Rattle.dm_int.specs.declared.Op.{Op}
use Rattle.dm_int.specs.declared.Op.TheVariants.{Add, Sub, Less, Greater, LessEq, GreaterEq, Equal, NotEqual}
use Rattle.dm_int.specs.Operators as operators
use Rattle.dm_type.specs.CTypes.{CType, void, integer, pointer, array, struct, function as function_type, const, bare}
use Rattle.dm_tree.specs.declared.tree.Sign.{Sign}
use Rattle.dm_tree.specs.declared.tree.Sign.TheVariants.{Not}
use Rattle.dm_tree.specs.Trees.{Label, number, enumerator, literal, object, function, read, decay, convert, address, follow, member, unary, binary, store, update, count, sizeof_kind}
use Rattle.dm_tree.specs.Evaluation.{unary_value, is_right}
use Rattle.dm_meaning.specs.declared.cause.Cause.{Cause}
use Rattle.dm_meaning.specs.declared.cause.Cause.TheVariants.{Unset}
use Rattle.dm_meaning.specs.Values.{Name, numbered, literal_of, elsewhere, part, past, Path, Values, no_values, more_values, value_list, values, parts_in, changed_value, with_part, part_value, At, Pointer, null, to, Value, integer_value, pointer_value, parts as compound, unset}
use Rattle.dm_meaning.specs.Memory.{character, literal_block, value_in, Memory, Block, look_up, look, written, contents_at, or_unset}
use Rattle.dm_meaning.specs.Objects.{Layout}
use Rattle.dm_int.specs.declared.Kind.{Kind}
use Rattle.dm_meaning.specs.Programs.{layout}
use Rattle.dm_meaning.specs.Causes.{earliest, when, is_unset, is_null, entry_causes, read_causes, store_causes, update_causes, use_causes, follow_causes, moved_pointer, pointer_along, path_moved, moved_causes, pointer_distance, distance_causes, order_causes}
use Rattle.dm_meaning.specs.Operations.{typed_bare, made_number, made_pointer, made_right, updated, counted, move_of, kind_in, Result, of_value, designates, Operand, World, Scene, Did, gives, breaks, ends_with, decided, provided, unless, plain, typed, is_of_kind, number_alone, or_null, or_zero, truth_in, byte_at, equal_pointers, update_at, count_at, faulted, on_one, on_value, on_set, ill, on_place, designated, object_named, part_of, read_at, followed, member_of, decayed, converted, convert_bare, Truth, holds, untold, truth_of, on_truth, signed, on_pointers, on_move, on_plus, pointer_plus, combined, store_at, Made, replace_at, operate, on_target, pointer_further}
use Rattle.dm_rewrite.specs.Closed.{PointerAvoids, Avoids, AllAvoid, ListAvoids, ResultAvoids, MemoryAvoids}
use Rattle.dm_meaning.proofs.ExtendLemmas.{look_changed}
use Rattle.dm_meaning.proofs.OptionLemmas.{some_is_some, none_is_some}

-- ---- values without a pointer to an object

abbrev pub OptionAvoids : ℕ → Option Value → Type 0
OptionAvoids n None = Unit {0}
OptionAvoids n (Some value) = Avoids n value

pub values_avoid : (n : ℕ) (xs : List Value) → ListAvoids n xs → AllAvoid n (values xs)
values_avoid n [] h = tt
values_avoid n (x ∷ xs) h = (h.0, values_avoid n xs h.1)

pub list_avoids : (n : ℕ) (all : Values) → AllAvoid n all → ListAvoids n (value_list all)
list_avoids n no_values h = tt
list_avoids n (more_values first rest) h = (h.0, list_avoids n rest h.1)

pub parts_avoid : (n : ℕ) (value : Value) → Avoids n value → ListAvoids n (parts_in value)
parts_avoid n (integer_value kind z) h = tt
parts_avoid n (pointer_value p) h = tt
parts_avoid n (compound all) h = list_avoids n all h
parts_avoid n unset h = tt

get_avoids : (n : ℕ) (xs : List Value) (k : ℕ) → ListAvoids n xs → OptionAvoids n (slice_get xs k)
get_avoids n [] k h = tt
get_avoids n (x ∷ xs) zero h = h.0
get_avoids n (x ∷ xs) (suc k) h = get_avoids n xs k h.1

-- a part of a value
pub part_avoids : (n : ℕ) (path : Path) (value : Value) → Avoids n value → OptionAvoids n (part_value value path)
part_avoids n [] value h = h
part_avoids n (past ∷ path) value h = tt
part_avoids n (part k ∷ path) value h =
    by_found (slice_get (parts_in value) k) (get_avoids n (parts_in value) k (parts_avoid n value h)) (λ inner g. part_avoids n path inner g)
  where
    by_found : (o : Option Value) → OptionAvoids n o → ((inner : Value) → Avoids n inner → OptionAvoids n (part_value inner path))
        → OptionAvoids n (option_and_then (λ inner. part_value inner path) o)
    by_found None g later = tt
    by_found (Some inner) g later = later inner g

changed_avoids : (n : ℕ) (k : ℕ) (change : Value → Value) → ((value : Value) → Avoids n value → Avoids n (change value)) → (xs : List Value) → ListAvoids n xs
    → ListAvoids n (changed_value k change xs)
changed_avoids n k change c [] h = tt
changed_avoids n zero change c (x ∷ xs) h = (c x h.0, h.1)
changed_avoids n (suc k) change c (x ∷ xs) h = (h.0, changed_avoids n k change c xs h.1)

-- a value with another part
pub with_avoids : (n : ℕ) (path : Path) (new : Value) → Avoids n new → (value : Value) → Avoids n value → Avoids n (with_part path new value)
with_avoids n [] new g value h = g
with_avoids n (past ∷ path) new g value h = h
with_avoids n (part k ∷ path) new g value h =
    values_avoid n (changed_value k (with_part path new) (parts_in value))
    (changed_avoids n k (with_part path new) (λ inner i. with_avoids n path new g inner i) (parts_in value) (parts_avoid n value h))

or_unset_avoids : (n : ℕ) (o : Option Value) → OptionAvoids n o → Avoids n (or_unset o)
or_unset_avoids n None h = tt
or_unset_avoids n (Some value) h = h

pub characters_avoid : (n : ℕ) (bytes : List ℕ) → ListAvoids n (map character bytes ++ character 0 ∷ [])
characters_avoid n [] = (tt, tt)
characters_avoid n (byte ∷ bytes) = (tt, characters_avoid n bytes)

-- what a place holds
pub contents_avoid : (n : ℕ) (memory : Memory) → MemoryAvoids n memory → (at : At) → Avoids n (contents_at memory at)
contents_avoid n memory h at = by_name at.name
  where
    by_found : (o : Option Block) → ((block : Block) → o ≡ Some block → Avoids n block.contents) → Avoids n (or_unset (value_in at.path o))
    by_found None g = tt
    by_found (Some block) g = or_unset_avoids n (part_value block.contents at.path) (part_avoids n at.path block.contents (g block refl))

    by_name : (name : Name) → Avoids n (or_unset (value_in at.path (look memory name)))
    by_name (numbered m) = by_found (look_up memory m) (h m)
    by_name (literal_of bytes unit) =
        by_found (Some (literal_block bytes))
        (λ block e. subst (λ b. Avoids n b.contents) (some_is_some (literal_block bytes) block e) (values_avoid n _ (characters_avoid n bytes)))
    by_name (elsewhere identifier) = tt

-- memory in which a value is stored
pub written_avoids : (n : ℕ) (memory : Memory) (at : At) (value : Value) → MemoryAvoids n memory → Avoids n value → MemoryAvoids n (written memory at value)
written_avoids n memory at value h g = by_name at.name
  where
    by_name : (name : Name) → MemoryAvoids n (written memory (record { name = name; path = at.path }) value)
    by_name (numbered k) m block e =
        by_found (look_up memory m) (h m) (sym (look_changed k (λ block. record block { contents = with_part at.path value block.contents }) memory m) ∙ e)
      where
        by_bool : (b : Bool) (was : Block) → Avoids n was.contents → Avoids n (if b then record was { contents = with_part at.path value was.contents } else was).contents
        by_bool true was w = with_avoids n at.path value g was.contents w
        by_bool false was w = w

        by_found : (o : Option Block) → ((was : Block) → o ≡ Some was → Avoids n was.contents)
            → option_map (λ was. if m == k then record was { contents = with_part at.path value was.contents } else was) o ≡ Some block → Avoids n block.contents
        by_found None i f = absurd (none_is_some block f)
        by_found (Some was) i f =
            subst (λ b. Avoids n b.contents) (some_is_some (if m == k then record was { contents = with_part at.path value was.contents } else was) block f)
            (by_bool (m == k) was (i was refl))
    by_name (literal_of bytes unit) m block e = h m block e
    by_name (elsewhere identifier) m block e = h m block e

-- memory in which an object is made
pub added_avoids : (n m : ℕ) (block : Block) (memory : Memory) → Avoids n block.contents → MemoryAvoids n memory → MemoryAvoids n ((m, block) ∷ memory)
added_avoids n m block memory h k j found e = by_bool (m == j) e
  where
    by_bool : (b : Bool) → (if b then Some block else look_up memory j) ≡ Some found → Avoids n found.contents
    by_bool true f = subst (λ (b : Block). Avoids n b.contents) (some_is_some block found f) h
    by_bool false f = k j found f

-- ---- operators

pub typed_avoids : (n : ℕ) (type : CType) (z : ℤ) → Avoids n (typed_bare type z)
typed_avoids n (integer kind) z = tt
typed_avoids n void z = tt
typed_avoids n (pointer target) z = tt
typed_avoids n (array element known) z = tt
typed_avoids n (struct m) z = tt
typed_avoids n (function_type result parameters) z = tt
typed_avoids n (const type) z = tt

abbrev pub AllResultsAvoid : ℕ → List Operand → Type 0
AllResultsAvoid n [] = Unit {0}
AllResultsAvoid n (a ∷ rest) = ResultAvoids n a.result × AllResultsAvoid n rest

-- which operands must not lead to the object: not the one that is read or written
abbrev pub OperandsAvoid : ℕ → Label → List Operand → Type 0
OperandsAvoid n read operands = Unit {0}
OperandsAvoid n (count plus before) operands = Unit {0}
OperandsAvoid n store (a ∷ rest) = AllResultsAvoid n rest
OperandsAvoid n (update op works) (a ∷ rest) = AllResultsAvoid n rest
OperandsAvoid n label operands = AllResultsAvoid n operands

module _ (n : ℕ) (scene : Scene) (world : World) (clear : MemoryAvoids n world.memory) (locks : List At) where
  -- the result isn't the object's, and memory has no pointer to it
  abbrev pub DidAvoids : Did → Type 0
  DidAvoids (gives after result new) = ResultAvoids n result × MemoryAvoids n after.memory
  DidAvoids (breaks cause) = Unit {0}
  DidAvoids (ends_with status) = Unit {0}

  unless_clear : (causes : List Cause) (did : Did) → DidAvoids did → DidAvoids (unless causes did)
  unless_clear causes did h = by_cause (earliest causes)
    where
      by_cause : (o : Option Cause) → DidAvoids (decided o did)
      by_cause None = h
      by_cause (Some cause) = tt

  number_clear : (kind : CType) (z : ℤ) → DidAvoids (number_alone world kind z)
  number_clear kind z = by_bool (is_of_kind (typed kind z))
    where
      by_bool : (b : Bool) → DidAvoids (provided b (plain world (typed kind z)))
      by_bool true = (typed_avoids n (bare kind) z, clear)
      by_bool false = tt

  faulted_clear : (r : Outcome ℤ Fault) (kind : CType) → DidAvoids (faulted r (number_alone world kind))
  faulted_clear (Ok z) kind = number_clear kind z
  faulted_clear (Err fault) kind = tt

  one_clear : (operands : List Operand) (next : Operand → Did) → AllResultsAvoid n operands → ((a : Operand) → ResultAvoids n a.result → DidAvoids (next a))
      → DidAvoids (on_one operands next)
  one_clear [] next k h = tt
  one_clear (a ∷ []) next k h = h a k.0
  one_clear (a ∷ b ∷ rest) next k h = tt

  value_clear : (result : Result) (next : Value → Did) → ResultAvoids n result → ((v : Value) → Avoids n v → DidAvoids (next v)) → DidAvoids (on_value result next)
  value_clear (of_value v) next k h = h v k
  value_clear (designates at) next k h = tt

  set_clear : (result : Result) (next : Value → Did) → ResultAvoids n result → ((v : Value) → Avoids n v → DidAvoids (next v)) → DidAvoids (on_set result next)
  set_clear (of_value v) next k h = by_bool (is_unset v)
    where
      by_bool : (b : Bool) → DidAvoids (if b then ill else next v)
      by_bool true = tt
      by_bool false = h v k
  set_clear (designates at) next k h = tt

  followed_clear : (value : Value) → Avoids n value → DidAvoids (followed world value)
  followed_clear (pointer_value null) h = tt
  followed_clear (pointer_value (to at)) h = unless_clear (follow_causes world.memory (to at)) (gives world (designates at) []) (h, clear)
  followed_clear (integer_value kind z) h = tt
  followed_clear (compound all) h = tt
  followed_clear unset h = tt

  member_clear : (m : ℕ) (kind : CType) (result : Result) → ResultAvoids n result → DidAvoids (member_of scene world m kind result)
  member_clear m kind (of_value value) h =
      unless_clear (when Unset (is_unset (or_unset (part_value value (part m ∷ []))))) (plain world (or_unset (part_value value (part m ∷ []))))
      (or_unset_avoids n (part_value value (part m ∷ [])) (part_avoids n (part m ∷ []) value h), clear)
  member_clear m kind (designates at) h = unless_clear (entry_causes (layout scene.program) world.memory kind at) (gives world (designates (part_of at m)) []) (h, clear)

  converted_clear : (kind : CType) (value : Value) → Avoids n value → DidAvoids (converted world kind value)
  converted_clear (integer kind) (integer_value other z) h = (tt, clear)
  converted_clear (integer kind) (pointer_value p) h =
      unless_clear (use_causes world.memory p) (plain world (integer_value kind (operators.truth (not (is_null p))))) (tt, clear)
  converted_clear (integer kind) (compound all) h = (h, clear)
  converted_clear (integer kind) unset h = (tt, clear)
  converted_clear (pointer target) (pointer_value p) h = unless_clear (use_causes world.memory p) (plain world (pointer_value p)) (h, clear)
  converted_clear (pointer target) (integer_value kind z) h = (tt, clear)
  converted_clear (pointer target) (compound all) h = (h, clear)
  converted_clear (pointer target) unset h = (tt, clear)
  converted_clear void value h = (h, clear)
  converted_clear (array element known) value h = (h, clear)
  converted_clear (struct m) value h = (h, clear)
  converted_clear (function_type result parameters) value h = (h, clear)
  converted_clear (const type) value h = (h, clear)

  convert_clear : (kind : CType) (result : Result) → ResultAvoids n result → DidAvoids (convert_bare world kind result)
  convert_clear void result h = (tt, clear)
  convert_clear (integer kind) result h = set_clear result _ h (converted_clear (integer kind))
  convert_clear (pointer target) result h = set_clear result _ h (converted_clear (pointer target))
  convert_clear (array element known) result h = set_clear result _ h (converted_clear (array element known))
  convert_clear (struct m) result h = set_clear result _ h (converted_clear (struct m))
  convert_clear (function_type other parameters) result h = set_clear result _ h (converted_clear (function_type other parameters))
  convert_clear (const type) result h = set_clear result _ h (converted_clear (const type))

  truth_clear : (kind : CType) (truth : Truth) → DidAvoids (on_truth truth (λ b. plain world (truth_in kind (not b))))
  truth_clear kind (holds b) = (typed_avoids n (bare kind) _, clear)
  truth_clear kind (untold cause) = tt

  sign_clear : (kind : CType) (sign : Sign) (value : Value) → DidAvoids (signed world kind sign value)
  sign_clear kind Not value = truth_clear kind (truth_of world.memory value)
  sign_clear kind sign (integer_value other z) = faulted_clear (unary_value sign other z) kind
  sign_clear kind sign value = tt

  target_clear : (kind : CType) (next : CType → Did) → ((target : CType) → DidAvoids (next target)) → DidAvoids (on_target kind next)
  target_clear (pointer target) next h = h target
  target_clear kind next h = tt

  -- a pointer moves within its object
  moved_avoids : (layout : Layout) (target : CType) (p : Pointer) (z : ℤ) → PointerAvoids n p → PointerAvoids n (or_null (moved_pointer layout world.memory target p z))
  moved_avoids layout target null z h = tt
  moved_avoids layout target (to at) z h = by_path (path_moved layout (look world.memory at.name) target at.path z)
    where
      by_path : (o : Option Path) → PointerAvoids n (or_null (pointer_along at.name o))
      by_path None = tt
      by_path (Some path) = h

  further_clear : (target : CType) (p : Pointer) (z : ℤ) → PointerAvoids n p → DidAvoids (pointer_further scene world target p z)
  further_clear target p z h =
      unless_clear (moved_causes (layout scene.program) world.memory target p z)
      (plain world (pointer_value (or_null (moved_pointer (layout scene.program) world.memory target p z)))) (moved_avoids (layout scene.program) target p z h, clear)

  plus_clear : (kind : CType) (p : Pointer) (z : ℤ) → PointerAvoids n p → DidAvoids (pointer_plus scene world kind p z)
  plus_clear kind p z h = target_clear kind (λ target. pointer_further scene world target p z) (λ target. further_clear target p z h)

  pointers_clear : (kind left : CType) (op : Op) (a b : Pointer) → DidAvoids (on_pointers scene world kind left op a b)
  pointers_clear kind left Sub a b =
      target_clear left _
      (λ target. unless_clear (distance_causes (layout scene.program) world.memory target a b) (number_alone world kind (or_zero (pointer_distance (layout scene.program) world.memory target a b))) (number_clear kind _))
  pointers_clear kind left Less a b =
      unless_clear (order_causes world.memory a b) _ (faulted_clear (operators.binary Less Long (byte_at scene world a) (byte_at scene world b)) kind)
  pointers_clear kind left Greater a b =
      unless_clear (order_causes world.memory a b) _ (faulted_clear (operators.binary Greater Long (byte_at scene world a) (byte_at scene world b)) kind)
  pointers_clear kind left LessEq a b =
      unless_clear (order_causes world.memory a b) _ (faulted_clear (operators.binary LessEq Long (byte_at scene world a) (byte_at scene world b)) kind)
  pointers_clear kind left GreaterEq a b =
      unless_clear (order_causes world.memory a b) _ (faulted_clear (operators.binary GreaterEq Long (byte_at scene world a) (byte_at scene world b)) kind)
  pointers_clear kind left Equal a b =
      unless_clear (use_causes world.memory a ++ use_causes world.memory b) (plain world (truth_in kind (equal_pointers scene world a b))) (typed_avoids n (bare kind) _, clear)
  pointers_clear kind left NotEqual a b =
      unless_clear (use_causes world.memory a ++ use_causes world.memory b) (plain world (truth_in kind (not (equal_pointers scene world a b))))
      (typed_avoids n (bare kind) _, clear)
  pointers_clear kind left op a b = tt

  move_clear : (op : Op) (z : ℤ) (next : ℤ → Did) → ((y : ℤ) → DidAvoids (next y)) → DidAvoids (on_move op z next)
  move_clear Add z next h = h z
  move_clear Sub z next h = h (neg_ℤ z)
  move_clear op z next h = tt

  on_plus_clear : (op : Op) (did : Did) → DidAvoids did → DidAvoids (on_plus op did)
  on_plus_clear Add did h = h
  on_plus_clear op did h = tt

  provided_clear : (b : Bool) (did : Did) → DidAvoids did → DidAvoids (provided b did)
  provided_clear true did h = h
  provided_clear false did h = tt

  combined_clear : (kind left : CType) (op : Op) (a b : Value) → Avoids n a → Avoids n b → DidAvoids (combined scene world kind left op a b)
  combined_clear kind left op (integer_value j x) (integer_value k y) h g = provided_clear (is_right op j y) _ (faulted_clear (operators.binary op j x y) kind)
  combined_clear kind left op (pointer_value p) (integer_value k y) h g = move_clear op y (pointer_plus scene world kind p) (λ z. plus_clear kind p z h)
  combined_clear kind left op (integer_value j x) (pointer_value q) h g = on_plus_clear op (pointer_plus scene world kind q x) (plus_clear kind q x g)
  combined_clear kind left op (pointer_value p) (pointer_value q) h g = pointers_clear kind left op p q
  combined_clear kind left op (integer_value j x) (compound all) h g = tt
  combined_clear kind left op (integer_value j x) unset h g = tt
  combined_clear kind left op (pointer_value p) (compound all) h g = tt
  combined_clear kind left op (pointer_value p) unset h g = tt
  combined_clear kind left op (compound all) b h g = tt
  combined_clear kind left op unset b h g = tt

  -- ---- stores

  store_clear : (kind : CType) (at : At) (value : Value) → Avoids n value → DidAvoids (store_at scene world locks kind at value)
  store_clear kind at value h =
      unless_clear (store_causes (layout scene.program) world.memory locks kind at)
      (gives (record world { memory = written world.memory at value }) (of_value value) (at ∷ [])) (h, written_avoids n world.memory at value clear h)

  replace_clear : (kind : CType) (at : At) (made : Made) (result : Value) → Avoids n made.value → Avoids n result
      → DidAvoids (replace_at scene world locks kind at made result)
  replace_clear kind at made result h g =
      unless_clear (made.causes ++ update_causes (layout scene.program) world.memory locks kind at)
      (gives (record world { memory = written world.memory at made.value }) (of_value result) (at ∷ [])) (g, written_avoids n world.memory at made.value clear h)

  made_number_avoids : (kind : Kind) (r : Outcome ℤ Fault) → Avoids n (made_number kind r).value
  made_number_avoids kind (Ok z) = tt
  made_number_avoids kind (Err fault) = tt

  made_pointer_avoids : (kind : CType) (p : Pointer) (z : ℤ) → PointerAvoids n p → Avoids n (made_pointer scene world kind p z).value
  made_pointer_avoids (pointer target) p z h = moved_avoids (layout scene.program) target p z h
  made_pointer_avoids void p z h = tt
  made_pointer_avoids (integer kind) p z h = tt
  made_pointer_avoids (array element known) p z h = tt
  made_pointer_avoids (struct m) p z h = tt
  made_pointer_avoids (function_type result parameters) p z h = tt
  made_pointer_avoids (const type) p z h = tt

  made_right_avoids : (b : Bool) (made : Made) → Avoids n made.value → Avoids n (made_right b made).value
  made_right_avoids true made h = h
  made_right_avoids false made h = tt

  updated_avoids : (kind : CType) (op : Op) (works : CType) (a b : Value) → Avoids n a → Avoids n (updated scene world kind op works a b).value
  updated_avoids kind op works (integer_value k m) (integer_value j z) h = made_right_avoids (is_right op (kind_in works) z) _ (made_number_avoids k _)
  updated_avoids kind op works (pointer_value p) (integer_value j z) h = made_pointer_avoids kind p (move_of op z) h
  updated_avoids kind op works unset (integer_value j z) h = tt
  updated_avoids kind op works (compound all) b h = tt
  updated_avoids kind op works (integer_value k m) (pointer_value q) h = tt
  updated_avoids kind op works (integer_value k m) (compound all) h = tt
  updated_avoids kind op works (integer_value k m) unset h = tt
  updated_avoids kind op works (pointer_value p) (pointer_value q) h = tt
  updated_avoids kind op works (pointer_value p) (compound all) h = tt
  updated_avoids kind op works (pointer_value p) unset h = tt
  updated_avoids kind op works unset (pointer_value q) h = tt
  updated_avoids kind op works unset (compound all) h = tt
  updated_avoids kind op works unset unset h = tt

  counted_avoids : (kind : CType) (plus : Bool) (a : Value) → Avoids n a → Avoids n (counted scene world kind plus a).value
  counted_avoids kind plus (integer_value k m) h = made_number_avoids k _
  counted_avoids kind plus (pointer_value p) h = made_pointer_avoids kind p _ h
  counted_avoids kind plus unset h = tt
  counted_avoids kind plus (compound all) h = tt

  -- ---- all operators

  read_clear : (kind : CType) (operands : List Operand) → DidAvoids (operate scene world locks read kind operands)
  read_clear kind [] = tt
  read_clear kind (a ∷ b ∷ rest) = tt
  read_clear kind (a ∷ []) = by_result a.result
    where
      by_result : (result : Result) → DidAvoids (on_place result (read_at scene world locks kind))
      by_result (of_value value) = tt
      by_result (designates at) =
          unless_clear (read_causes (layout scene.program) world.memory locks kind at) (plain world (contents_at world.memory at)) (contents_avoid n world.memory clear at, clear)

  place_clear : (kind : CType) (result : Result) (next : At → Did) → ResultAvoids n result → ((at : At) → (at.name ≡ numbered n → ⊥) → DidAvoids (next at))
      → DidAvoids (on_place result next)
  place_clear kind (of_value value) next k h = tt
  place_clear kind (designates at) next k h = h at k

  written_clear : (kind : CType) (result other : Result) → ResultAvoids n other → DidAvoids (on_place result (λ at. on_set other (store_at scene world locks kind at)))
  written_clear kind (of_value value) other k = tt
  written_clear kind (designates at) other k = set_clear other (store_at scene world locks kind at) k (λ v h. store_clear kind at v h)

  replaced_clear : (op : Op) (works kind : CType) (result other : Result)
      → DidAvoids (on_place result (λ at. on_value other (update_at scene world locks kind op works at)))
  replaced_clear op works kind (of_value value) other = tt
  replaced_clear op works kind (designates at) (designates spot) = tt
  replaced_clear op works kind (designates at) (of_value v) =
      let made = updated_avoids kind op works (contents_at world.memory at) v (contents_avoid n world.memory clear at) in
      replace_clear kind at (updated scene world kind op works (contents_at world.memory at) v) (updated scene world kind op works (contents_at world.memory at) v).value made made

  count_clear : (kind : CType) (plus before : Bool) (operands : List Operand) → DidAvoids (operate scene world locks (count plus before) kind operands)
  count_clear kind plus before [] = tt
  count_clear kind plus before (a ∷ b ∷ rest) = tt
  count_clear kind plus before (a ∷ []) = by_result a.result
    where
      by_bool : (at : At) (t : Bool) → Avoids n (if t then (counted scene world kind plus (contents_at world.memory at)).value else contents_at world.memory at)
      by_bool at true = counted_avoids kind plus (contents_at world.memory at) (contents_avoid n world.memory clear at)
      by_bool at false = contents_avoid n world.memory clear at

      by_result : (result : Result) → DidAvoids (on_place result (count_at scene world locks kind plus before))
      by_result (of_value value) = tt
      by_result (designates at) =
          replace_clear kind at (counted scene world kind plus (contents_at world.memory at)) _
          (counted_avoids kind plus (contents_at world.memory at) (contents_avoid n world.memory clear at)) (by_bool at before)

  designated_clear : (o : Option ℕ) → ((m : ℕ) → o ≡ Some m → m ≡ n → ⊥) → DidAvoids (designated world o)
  designated_clear None h = tt
  designated_clear (Some m) h = (λ e. h m refl (number_in e), clear)
    where
      number_in : numbered m ≡ numbered n → m ≡ n
      number_in e = cc

  decayed_clear : (kind : CType) (at : At) → (at.name ≡ numbered n → ⊥) → DidAvoids (decayed scene world kind at)
  decayed_clear kind at h =
      unless_clear (entry_causes (layout scene.program) world.memory kind at) (plain world (pointer_value (to (part_of at 0)))) (h, clear)

  -- The step of an operator that isn't given the object, but to read or write it, gives nothing of it and puts no pointer to it into memory.
  pub operate_clear : (label : Label) (kind : CType) (operands : List Operand) → OperandsAvoid n label operands
      → ((d : ℕ) → label ≡ object d → object_named scene.objects d ≡ Some n → ⊥) → DidAvoids (operate scene world locks label kind operands)
  operate_clear (number z) kind operands k own = number_clear kind z
  operate_clear (enumerator d) kind operands k own = number_clear kind _
  operate_clear (literal bytes unit) kind operands k own = (λ e. cc, clear)
  operate_clear (object d) kind operands k own = designated_clear (object_named scene.objects d) (λ m e f. own d refl (e ∙ ap Some f))
  operate_clear (function d) kind operands k own = (tt, clear)
  operate_clear read kind operands k own = read_clear kind operands
  operate_clear decay kind operands k own = one_clear operands _ k (λ a h. place_clear kind a.result _ h (λ at g. decayed_clear a.kind at g))
  operate_clear convert kind operands k own = one_clear operands _ k (λ a h. convert_clear (bare kind) a.result h)
  operate_clear address kind operands k own = one_clear operands _ k (λ a h. place_clear kind a.result _ h (λ at g. (g, clear)))
  operate_clear follow kind operands k own = one_clear operands _ k (λ a h. value_clear a.result (followed world) h followed_clear)
  operate_clear (member m) kind operands k own = one_clear operands _ k (λ a h. member_clear m a.kind a.result h)
  operate_clear (unary sign) kind operands k own = one_clear operands _ k (λ a h. value_clear a.result (signed world kind sign) h (λ v g. sign_clear kind sign v))
  operate_clear (binary op) kind [] k own = tt
  operate_clear (binary op) kind (a ∷ []) k own = tt
  operate_clear (binary op) kind (a ∷ b ∷ c ∷ rest) k own = tt
  operate_clear (binary op) kind (a ∷ b ∷ []) k own =
      value_clear a.result (λ x. on_value b.result (combined scene world kind a.kind op x)) k.0
      (λ x h. value_clear b.result (combined scene world kind a.kind op x) k.1.0 (λ y g. combined_clear kind a.kind op x y h g))
  operate_clear store kind [] k own = tt
  operate_clear store kind (a ∷ []) k own = tt
  operate_clear store kind (a ∷ b ∷ c ∷ rest) k own = tt
  operate_clear store kind (a ∷ b ∷ []) k own = written_clear kind a.result b.result k.0
  operate_clear (update op works) kind [] k own = tt
  operate_clear (update op works) kind (a ∷ []) k own = tt
  operate_clear (update op works) kind (a ∷ b ∷ c ∷ rest) k own = tt
  operate_clear (update op works) kind (a ∷ b ∷ []) k own = replaced_clear op works kind a.result b.result
  operate_clear (count plus before) kind operands k own = count_clear kind plus before operands
  operate_clear (sizeof_kind type) kind operands k own = number_clear kind _
  operate_clear label kind operands k own = tt
