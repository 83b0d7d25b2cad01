-- With other functions the step of each node does the same.
use Rattle.std.specs.Prelude.{◌≡◌, refl, ℕ, Bool, ◌&&◌, not, List, [], ◌∷◌, ◌++◌, ℤ, pos, neg_ℤ, if◌then◌else◌}
use Rattle.dm_int.specs.declared.Kind.TheVariants.{Long}
use Rattle.dm_int.specs.declared.Op.{Op}
use Rattle.dm_int.specs.declared.Op.TheVariants as op
use Rattle.dm_int.specs.Operators as operators
use Rattle.dm_type.specs.CTypes.{CType, pointer}
use Rattle.dm_tree.specs.Trees as label
use Rattle.dm_tree.specs.Trees.{Label}
use Rattle.dm_meaning.specs.Values.{At, Pointer, null, to, Value, integer_value, pointer_value, parts, unset, same_name}
use Rattle.dm_meaning.specs.Memory.{look, contents_at, written}
use Rattle.dm_meaning.specs.Causes.{entry_causes, read_causes, store_causes, update_causes, use_causes, moved_pointer, moved_causes, pointer_distance, distance_causes, order_causes}
use Rattle.dm_meaning.specs.Programs.{Definition, Program, layout}
use Rattle.dm_meaning.specs.Operations.{Result, of_value, designates, Operand, World, Objects, Scene, gives, unless, plain, number_alone, faulted, on_one, on_two, on_value, on_set, on_place, part_of, read_at, member_of, decayed, truth_in, on_target, or_null, pointer_further, pointer_plus, or_zero, pointer_minus, byte_in_block, byte_at, equal_pointers, ordered, equated, on_pointers, on_move, on_plus, combined, store_at, Made, made_pointer, move_of, updated, counted, replace_at, count_at, update_at, operate}
use Rattle.dm_void.specs.Bodies.{with_functions}

module _ (program : Program) (functions : List Definition) (objects : Objects) where
  -- what names stand for, over each of the tables
  abbrev pub before : Scene
  before = record { program = program; objects = objects }

  abbrev pub after : Scene
  after = record { program = with_functions program functions; objects = objects }

  -- ---- lvalues and pointers

  read_same : (world : World) (locks : List At) (kind : CType) (at : At) → read_at after world locks kind at ≡ read_at before world locks kind at
  read_same world locks kind at = λ i. unless (read_causes (layout program) world.memory locks kind at) (plain world (contents_at world.memory at))

  member_same : (world : World) (n : ℕ) (kind : CType) (result : Result) → member_of after world n kind result ≡ member_of before world n kind result
  member_same world n kind (of_value value) = refl
  member_same world n kind (designates at) = λ i. unless (entry_causes (layout program) world.memory kind at) (gives world (designates (part_of at n)) [])

  decayed_same : (world : World) (kind : CType) (at : At) → decayed after world kind at ≡ decayed before world kind at
  decayed_same world kind at = λ i. unless (entry_causes (layout program) world.memory kind at) (plain world (pointer_value (to (part_of at 0))))

  -- ---- arithmetic

  further_same : (world : World) (target : CType) (p : Pointer) (n : ℤ) → pointer_further after world target p n ≡ pointer_further before world target p n
  further_same world target p n =
      λ i. unless (moved_causes (layout program) world.memory target p n) (plain world (pointer_value (or_null (moved_pointer (layout program) world.memory target p n))))

  plus_same : (world : World) (kind : CType) (p : Pointer) (n : ℤ) → pointer_plus after world kind p n ≡ pointer_plus before world kind p n
  plus_same world kind p n = λ i. on_target kind (λ target. further_same world target p n i)

  minus_same : (world : World) (kind target : CType) (a b : Pointer) → pointer_minus after world kind target a b ≡ pointer_minus before world kind target a b
  minus_same world kind target a b =
      λ i. unless (distance_causes (layout program) world.memory target a b) (number_alone world kind (or_zero (pointer_distance (layout program) world.memory target a b)))

  byte_same : (world : World) (p : Pointer) → byte_at after world p ≡ byte_at before world p
  byte_same world null = refl
  byte_same world (to at) = λ i. pos (byte_in_block (layout program) at.path (look world.memory at.name))

  equal_same : (world : World) (a b : Pointer) → equal_pointers after world a b ≡ equal_pointers before world a b
  equal_same world null null = refl
  equal_same world null (to b) = refl
  equal_same world (to a) null = refl
  equal_same world (to a) (to b) = λ i. same_name a.name b.name && operators.int_eq (byte_same world (to a) i) (byte_same world (to b) i)

  ordered_same : (world : World) (kind : CType) (op : Op) (a b : Pointer) → ordered after world kind op a b ≡ ordered before world kind op a b
  ordered_same world kind op a b =
      λ i. unless (order_causes world.memory a b) (faulted (operators.binary op Long (byte_same world a i) (byte_same world b i)) (number_alone world kind))

  equated_same : (world : World) (kind : CType) (sense : Bool → Bool) (a b : Pointer) → equated after world kind sense a b ≡ equated before world kind sense a b
  equated_same world kind sense a b =
      λ i. unless (use_causes world.memory a ++ use_causes world.memory b) (plain world (truth_in kind (sense (equal_same world a b i))))

  pointers_same : (world : World) (kind left : CType) (op : Op) (a b : Pointer) → on_pointers after world kind left op a b ≡ on_pointers before world kind left op a b
  pointers_same world kind left op.Sub a b = λ i. on_target left (λ target. minus_same world kind target a b i)
  pointers_same world kind left op.Less a b = ordered_same world kind op.Less a b
  pointers_same world kind left op.Greater a b = ordered_same world kind op.Greater a b
  pointers_same world kind left op.LessEq a b = ordered_same world kind op.LessEq a b
  pointers_same world kind left op.GreaterEq a b = ordered_same world kind op.GreaterEq a b
  pointers_same world kind left op.Equal a b = equated_same world kind (λ truth. truth) a b
  pointers_same world kind left op.NotEqual a b = equated_same world kind not a b
  pointers_same world kind left other a b = refl

  combined_same : (world : World) (kind left : CType) (op : Op) (a b : Value) → combined after world kind left op a b ≡ combined before world kind left op a b
  combined_same world kind left op (integer_value a m) (integer_value b n) = refl
  combined_same world kind left op (pointer_value p) (integer_value b n) = λ i. on_move op n (λ z. plus_same world kind p z i)
  combined_same world kind left op (integer_value a m) (pointer_value q) = λ i. on_plus op (plus_same world kind q m i)
  combined_same world kind left op (pointer_value p) (pointer_value q) = pointers_same world kind left op p q
  combined_same world kind left op a b = refl

  -- ---- assignments

  store_same : (world : World) (locks : List At) (kind : CType) (at : At) (value : Value) → store_at after world locks kind at value ≡ store_at before world locks kind at value
  store_same world locks kind at value =
      λ i. unless (store_causes (layout program) world.memory locks kind at) (gives (record world { memory = written world.memory at value }) (of_value value) (at ∷ []))

  made_same : (world : World) (kind : CType) (p : Pointer) (n : ℤ) → made_pointer after world kind p n ≡ made_pointer before world kind p n
  made_same world (pointer target) p n =
      λ i. record { causes = moved_causes (layout program) world.memory target p n; value = pointer_value (or_null (moved_pointer (layout program) world.memory target p n)) }
  made_same world kind p n = refl

  updated_same : (world : World) (kind : CType) (op : Op) (works : CType) (a b : Value) → updated after world kind op works a b ≡ updated before world kind op works a b
  updated_same world kind op works (integer_value k m) (integer_value j n) = refl
  updated_same world kind op works (pointer_value p) (integer_value j n) = made_same world kind p (move_of op n)
  updated_same world kind op works unset (integer_value j n) = refl
  updated_same world kind op works a b = refl

  counted_same : (world : World) (kind : CType) (plus : Bool) (value : Value) → counted after world kind plus value ≡ counted before world kind plus value
  counted_same world kind plus (integer_value k m) = refl
  counted_same world kind plus (pointer_value p) = made_same world kind p (if plus then pos 1 else neg_ℤ (pos 1))
  counted_same world kind plus unset = refl
  counted_same world kind plus (parts all) = refl

  -- what is stored, beside the causes of the place
  abbrev replaced : (world : World) (locks : List At) (kind : CType) (at : At) (made : Made) (result : Value)
      → replace_at after world locks kind at made result ≡ replace_at before world locks kind at made result
  replaced world locks kind at made result =
      λ i. unless (made.causes ++ update_causes (layout program) world.memory locks kind at)
      (gives (record world { memory = written world.memory at made.value }) (of_value result) (at ∷ []))

  count_same : (world : World) (locks : List At) (kind : CType) (plus first : Bool) (at : At) → count_at after world locks kind plus first at ≡ count_at before world locks kind plus first at
  count_same world locks kind plus first at =
      λ i. let made = counted_same world kind plus (contents_at world.memory at) i in replaced world locks kind at made (if first then made.value else contents_at world.memory at) i

  update_same : (world : World) (locks : List At) (kind : CType) (op : Op) (works : CType) (at : At) (value : Value)
      → update_at after world locks kind op works at value ≡ update_at before world locks kind op works at value
  update_same world locks kind op works at value =
      λ i. let made = updated_same world kind op works (contents_at world.memory at) value i in replaced world locks kind at made made.value i

  -- ---- each node

  pub operate_same : (world : World) (locks : List At) (form : Label) (kind : CType) (operands : List Operand)
      → operate after world locks form kind operands ≡ operate before world locks form kind operands
  operate_same world locks label.read kind operands = λ i. on_one operands (λ a. on_place a.result (λ at. read_same world locks kind at i))
  operate_same world locks label.decay kind operands = λ i. on_one operands (λ a. on_place a.result (λ at. decayed_same world a.kind at i))
  operate_same world locks (label.member n) kind operands = λ i. on_one operands (λ a. member_same world n a.kind a.result i)
  operate_same world locks (label.binary op) kind operands =
      λ i. on_two operands (λ a b. on_value a.result (λ x. on_value b.result (λ y. combined_same world kind a.kind op x y i)))
  operate_same world locks label.store kind operands =
      λ i. on_two operands (λ a b. on_place a.result (λ at. on_set b.result (λ value. store_same world locks kind at value i)))
  operate_same world locks (label.update op works) kind operands =
      λ i. on_two operands (λ a b. on_place a.result (λ at. on_value b.result (λ value. update_same world locks kind op works at value i)))
  operate_same world locks (label.count plus first) kind operands =
      λ i. on_one operands (λ a. on_place a.result (λ at. count_same world locks kind plus first at i))
  operate_same world locks (label.sizeof_kind type) kind operands = λ i. number_alone world kind (pos ((layout program).size type))
  operate_same world locks form kind operands = refl
