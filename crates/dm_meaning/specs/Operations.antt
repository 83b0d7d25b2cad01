-- What the step of each node does, given the results of its operands (6.5).
--     Result      a value, or the object that an lvalue designates
--     World      memory, the rest of the input, and the output
--     Did      what a step does: it gives a result and locks what it has written, is undefined, or ends the program
--     operate scene world locks label kind operands      the step of a node whose operands are all evaluated
use Rattle.std.specs.Prelude.{ℕ, ◌==◌, Bool, true, false, not, ◌&&◌, List, [], ◌∷◌, ◌++◌, Option, Some, None, Result as Outcome, Ok, Err, ℤ, pos, neg_ℤ, if◌then◌else◌}
use Rattle.dm_int.specs.declared.Fault.{Fault}
use Rattle.dm_int.specs.declared.Kind.{Kind}
use Rattle.dm_int.specs.declared.Kind.TheVariants.{Int, Long}
use Rattle.dm_int.specs.declared.Op.{Op}
use Rattle.dm_int.specs.declared.Op.TheVariants.{Add, Sub, Div, Rem, Shl, Shr, Less, Greater, LessEq, GreaterEq, Equal, NotEqual}
use Rattle.dm_int.specs.Kinds as kinds
use Rattle.dm_int.specs.Operators as operators
use Rattle.dm_type.specs.CTypes.{CType, void, integer, pointer, bare}
use Rattle.dm_tree.specs.declared.tree.Sign.{Sign}
use Rattle.dm_tree.specs.declared.tree.Sign.TheVariants.{Not}
use Rattle.dm_tree.specs.declared.unit.Sort.{Sort}
use Rattle.dm_tree.specs.declared.unit.Sort.TheVariants.{Enumerator}
use Rattle.dm_tree.specs.Trees.{Label, number, enumerator, literal, object, function, read, decay, convert, address, follow, member, unary, binary, store, update, count, sizeof_kind}
use Rattle.dm_tree.specs.Units.{Declaration}
use Rattle.dm_tree.specs.Evaluation.{is_true, is_right, unary_value, updated_value, counted_value}
use Rattle.dm_meaning.specs.declared.cause.Cause.{Cause}
use Rattle.dm_meaning.specs.declared.cause.Cause.TheVariants.{Division, Shift, Unset, OtherType, External}
use Rattle.dm_meaning.specs.Values.{Name, numbered, literal_of, part, Path, At, Pointer, null, to, Value, integer_value, pointer_value, parts, unset, same_name, part_value}
use Rattle.dm_meaning.specs.Objects.{Layout, byte_of}
use Rattle.dm_meaning.specs.Programs.{Program, layout, declaration_of}
use Rattle.dm_meaning.specs.Memory.{Memory, Block, look, contents_at, or_unset, written}
use Rattle.dm_meaning.specs.Causes.{earliest, when, fault_cause, entry_causes, read_causes, store_causes, update_causes, use_causes, follow_causes, moved_pointer, moved_causes, pointer_distance, distance_causes, order_causes, is_null, is_unset}

-- what evaluating an expression gives (6.5p1)
pub data Result : Type 0 where
  of_value : Value → Result
  designates : At → Result

-- the result of an operand, and the operand's type
pub record Operand : Type 0 where
  pub kind : CType
  pub result : Result

-- all that a step may change beside the tree
pub record World : Type 0 where
  pub memory : Memory
  pub input : List ℕ
  pub output : List ℕ

-- the objects that declarations name here: a declaration's number, and the object's
abbrev pub Objects : Type 0
Objects = List (ℕ × ℕ)

-- what the names in an expression stand for
pub record Scene : Type 0 where
  pub program : Program
  pub objects : Objects

pub data Did : Type 0 where
  -- a result, and the places that were written
  gives : World → Result → List At → Did
  breaks : Cause → Did
  ends_with : ℕ → Did

-- what no typed tree comes to
abbrev pub ill : Did
ill = breaks OtherType

abbrev pub decided : Option Cause → Did → Did
decided None did = did
decided (Some cause) did = breaks cause

-- a step, where what holds in all typed trees does
abbrev pub provided : Bool → Did → Did
provided true did = did
provided false did = ill

-- a step that is undefined where there are causes
abbrev pub unless : List Cause → Did → Did
unless causes did = decided (earliest causes) did

-- a value alone
abbrev pub plain : World → Value → Did
plain world value = gives world (of_value value) []

-- a number as a value of an integer type
abbrev pub typed_bare : CType → ℤ → Value
typed_bare (integer kind) z = integer_value kind z
typed_bare other z = integer_value Int z

abbrev pub typed : CType → ℤ → Value
typed kind z = typed_bare (bare kind) z

-- an integer is a value of its kind
abbrev pub is_of_kind : Value → Bool
is_of_kind (integer_value kind z) = kinds.is_in_range kind z
is_of_kind other = true

-- a number alone, where its type has it
abbrev pub number_alone : World → CType → ℤ → Did
number_alone world kind z = provided (is_of_kind (typed kind z)) (plain world (typed kind z))

-- a number, or the cause why there is none
abbrev pub faulted : Outcome ℤ Fault → (ℤ → Did) → Did
faulted (Ok z) next = next z
faulted (Err fault) next = breaks (fault_cause fault)

-- ---- what operands are

abbrev pub on_one : List Operand → (Operand → Did) → Did
on_one (a ∷ []) next = next a
on_one others next = ill

abbrev pub on_two : List Operand → (Operand → Operand → Did) → Did
on_two (a ∷ b ∷ []) next = next a b
on_two others next = ill

abbrev pub on_value : Result → (Value → Did) → Did
on_value (of_value value) next = next value
on_value (designates at) next = ill

-- a value that was set; in no typed tree is one used that wasn't
abbrev pub on_set : Result → (Value → Did) → Did
on_set (of_value value) next = if is_unset value then ill else next value
on_set (designates at) next = ill

abbrev pub on_place : Result → (At → Did) → Did
on_place (of_value value) next = ill
on_place (designates at) next = next at

-- ---- names and constants

abbrev pub number_of_sort : Sort → ℤ
number_of_sort (Enumerator z) = z
number_of_sort other = pos 0

abbrev pub enumerator_in : Option Declaration → ℤ
enumerator_in None = pos 0
enumerator_in (Some declaration) = number_of_sort declaration.sort

-- the value of an enumerator (6.7.2.2p3)
abbrev pub enumerator_number : Program → ℕ → ℤ
enumerator_number program d = enumerator_in (declaration_of program d)

-- the object that a declaration names
abbrev pub object_named : Objects → ℕ → Option ℕ
object_named [] d = None
object_named (entry ∷ entries) d = if entry.0 == d then Some entry.1 else object_named entries d

-- a whole object
abbrev pub whole : Name → At
whole name = record { name = name; path = [] }

-- the name of an object that the program doesn't define is undefined
abbrev pub designated : World → Option ℕ → Did
designated world None = breaks External
designated world (Some n) = gives world (designates (whole (numbered n))) []

-- ---- lvalues, pointers and conversions (6.3, 6.5.2.3, 6.5.3.2)

-- a part of a place
abbrev pub part_of : At → ℕ → At
part_of at n = record { name = at.name; path = at.path ++ part n ∷ [] }

-- the value of an object is read (6.3.2.1p2)
abbrev pub read_at : Scene → World → List At → CType → At → Did
read_at scene world locks kind at = unless (read_causes (layout scene.program) world.memory locks kind at) (plain world (contents_at world.memory at))

abbrev pub followed : World → Value → Did
followed world (pointer_value (to at)) = unless (follow_causes world.memory (to at)) (gives world (designates at) [])
followed world (pointer_value null) = unless (follow_causes world.memory null) ill
followed world other = ill

-- a member of a value, where its scalar was set
abbrev pub member_value : World → Value → Did
member_value world value = unless (when Unset (is_unset value)) (plain world value)

-- a member of what has this type: of a value, or of an object that is one of that type
abbrev pub member_of : Scene → World → ℕ → CType → Result → Did
member_of scene world n kind (of_value value) = member_value world (or_unset (part_value value (part n ∷ [])))
member_of scene world n kind (designates at) =
    unless (entry_causes (layout scene.program) world.memory kind at) (gives world (designates (part_of at n)) [])

-- an array becomes a pointer to its first element (6.3.2.1p3), where there is an array of that type
abbrev pub decayed : Scene → World → CType → At → Did
decayed scene world kind at = unless (entry_causes (layout scene.program) world.memory kind at) (plain world (pointer_value (to (part_of at 0))))

-- 0 for a null pointer and 1 for any other, as a truth value of an integer type
abbrev pub truth_in : CType → Bool → Value
truth_in kind truth = typed kind (operators.truth truth)

-- a value is converted to a type: integers (6.3.1), a pointer to _Bool or to another pointer, a null pointer constant (6.3.2.3)
abbrev pub converted : World → CType → Value → Did
converted world (integer kind) (integer_value other z) = plain world (integer_value kind (kinds.convert kind z))
converted world (integer kind) (pointer_value p) = unless (use_causes world.memory p) (plain world (integer_value kind (operators.truth (not (is_null p)))))
converted world (pointer target) (pointer_value p) = unless (use_causes world.memory p) (plain world (pointer_value p))
converted world (pointer target) (integer_value kind z) = plain world (pointer_value null)
converted world kind value = plain world value

-- what is converted to void is dropped (6.3.2.2)
abbrev pub convert_bare : World → CType → Result → Did
convert_bare world void result = plain world unset
convert_bare world kind result = on_set result (converted world kind)

abbrev pub convert_to : World → CType → Result → Did
convert_to world kind result = convert_bare world (bare kind) result

-- whether a scalar compares unequal to 0, or why it can't be told
pub data Truth : Type 0 where
  holds : Bool → Truth
  untold : Cause → Truth

abbrev pub told : Option Cause → Bool → Truth
told None truth = holds truth
told (Some cause) truth = untold cause

-- the truth of a scalar (6.5.13p3, 6.8.4.1p2); for a pointer that is a use
abbrev pub truth_of : Memory → Value → Truth
truth_of memory (integer_value kind z) = holds (is_true z)
truth_of memory (pointer_value p) = told (earliest (use_causes memory p)) (not (is_null p))
truth_of memory other = untold OtherType

abbrev pub on_truth : Truth → (Bool → Did) → Did
on_truth (holds truth) next = next truth
on_truth (untold cause) next = breaks cause

-- ---- arithmetic (6.5.3.3, 6.5.5 to 6.5.12)

abbrev pub signed : World → CType → Sign → Value → Did
signed world kind Not value = on_truth (truth_of world.memory value) (λ truth. plain world (truth_in kind (not truth)))
signed world kind sign (integer_value other z) = faulted (unary_value sign other z) (number_alone world kind)
signed world kind sign value = ill

-- what a type points to; in no typed tree has a pointer that moves another type
abbrev pub on_target : CType → (CType → Did) → Did
on_target (pointer type) next = next type
on_target type next = ill

-- the pointer a number of elements on from another (6.5.6p8)
abbrev pub or_null : Option Pointer → Pointer
or_null None = null
or_null (Some p) = p

abbrev pub pointer_further : Scene → World → CType → Pointer → ℤ → Did
pointer_further scene world target p n =
    unless (moved_causes (layout scene.program) world.memory target p n)
    (plain world (pointer_value (or_null (moved_pointer (layout scene.program) world.memory target p n))))

abbrev pub pointer_plus : Scene → World → CType → Pointer → ℤ → Did
pointer_plus scene world kind p n = on_target kind (λ target. pointer_further scene world target p n)

abbrev pub or_zero : Option ℤ → ℤ
or_zero None = pos 0
or_zero (Some z) = z

abbrev pub pointer_minus : Scene → World → CType → CType → Pointer → Pointer → Did
pointer_minus scene world kind target a b =
    unless (distance_causes (layout scene.program) world.memory target a b)
    (number_alone world kind (or_zero (pointer_distance (layout scene.program) world.memory target a b)))

abbrev pub byte_in_block : Layout → Path → Option Block → ℕ
byte_in_block layout path None = 0
byte_in_block layout path (Some block) = byte_of layout block.kind path

-- the byte of its object at which a pointer points
abbrev pub byte_at : Scene → World → Pointer → ℤ
byte_at scene world null = pos 0
byte_at scene world (to at) = pos (byte_in_block (layout scene.program) at.path (look world.memory at.name))

-- two pointers are equal where they are null, or point to one byte of one object (6.5.9p6)
abbrev pub equal_pointers : Scene → World → Pointer → Pointer → Bool
equal_pointers scene world null null = true
equal_pointers scene world null (to b) = false
equal_pointers scene world (to a) null = false
equal_pointers scene world (to a) (to b) = same_name a.name b.name && operators.int_eq (byte_at scene world (to a)) (byte_at scene world (to b))

-- pointers into one object are ordered by their bytes (6.5.8p5)
abbrev pub ordered : Scene → World → CType → Op → Pointer → Pointer → Did
ordered scene world kind op a b =
    unless (order_causes world.memory a b) (faulted (operators.binary op Long (byte_at scene world a) (byte_at scene world b)) (number_alone world kind))

abbrev pub equated : Scene → World → CType → (Bool → Bool) → Pointer → Pointer → Did
equated scene world kind sense a b =
    unless (use_causes world.memory a ++ use_causes world.memory b) (plain world (truth_in kind (sense (equal_pointers scene world a b))))

-- a binary operator on two pointers, of which the first has the type `left`
abbrev pub on_pointers : Scene → World → CType → CType → Op → Pointer → Pointer → Did
on_pointers scene world kind left Sub a b = on_target left (λ target. pointer_minus scene world kind target a b)
on_pointers scene world kind left Less a b = ordered scene world kind Less a b
on_pointers scene world kind left Greater a b = ordered scene world kind Greater a b
on_pointers scene world kind left LessEq a b = ordered scene world kind LessEq a b
on_pointers scene world kind left GreaterEq a b = ordered scene world kind GreaterEq a b
on_pointers scene world kind left Equal a b = equated scene world kind (λ truth. truth) a b
on_pointers scene world kind left NotEqual a b = equated scene world kind not a b
on_pointers scene world kind left op a b = ill

-- the number of elements by which += or -=, or + or -, moves a pointer
abbrev pub on_move : Op → ℤ → (ℤ → Did) → Did
on_move Add n next = next n
on_move Sub n next = next (neg_ℤ n)
on_move op n next = ill

-- an integer plus a pointer
abbrev pub on_plus : Op → Did → Did
on_plus Add did = did
on_plus op did = ill

-- a binary operator: integers are of one kind, that of the left one, but for the count of a shift
abbrev pub combined : Scene → World → CType → CType → Op → Value → Value → Did
combined scene world kind left op (integer_value a m) (integer_value b n) =
    provided (is_right op a n) (faulted (operators.binary op a m n) (number_alone world kind))
combined scene world kind left op (pointer_value p) (integer_value b n) = on_move op n (pointer_plus scene world kind p)
combined scene world kind left op (integer_value a m) (pointer_value q) = on_plus op (pointer_plus scene world kind q m)
combined scene world kind left op (pointer_value p) (pointer_value q) = on_pointers scene world kind left op p q
combined scene world kind left op a b = ill

-- ---- assignments (6.5.16, 6.5.2.4, 6.5.3.1)

-- a value is stored, and what was written is locked
abbrev pub store_at : Scene → World → List At → CType → At → Value → Did
store_at scene world locks kind at value =
    unless (store_causes (layout scene.program) world.memory locks kind at)
    (gives (record world { memory = written world.memory at value }) (of_value value) (at ∷ []))

-- what an operator makes of the value of an object, with the causes why it may be undefined
pub record Made : Type 0 where
  pub causes : List Cause
  pub value : Value

abbrev pub made_number : Kind → Outcome ℤ Fault → Made
made_number kind (Ok z) = record { causes = []; value = integer_value kind z }
made_number kind (Err fault) = record { causes = fault_cause fault ∷ []; value = unset }

-- what no typed tree comes to
abbrev pub made_ill : Made
made_ill = record { causes = OtherType ∷ []; value = unset }

-- what is made of numbers, where the right one may stand there
abbrev pub made_right : Bool → Made → Made
made_right true made = made
made_right false made = made_ill

abbrev pub made_further : Scene → World → CType → Pointer → ℤ → Made
made_further scene world target p n = record {
  causes = moved_causes (layout scene.program) world.memory target p n;
  value = pointer_value (or_null (moved_pointer (layout scene.program) world.memory target p n));
}

abbrev pub made_pointer : Scene → World → CType → Pointer → ℤ → Made
made_pointer scene world (pointer target) p n = made_further scene world target p n
made_pointer scene world kind p n = made_ill

-- the causes that don't depend on the object's value
abbrev pub causes_anyway : Op → Kind → ℤ → List Cause
causes_anyway Div kind n = when Division (operators.int_eq n (pos 0))
causes_anyway Rem kind n = when Division (operators.int_eq n (pos 0))
causes_anyway Shl kind n = when Shift (not (operators.is_count kind n))
causes_anyway Shr kind n = when Shift (not (operators.is_count kind n))
causes_anyway op kind n = []

abbrev pub kind_in : CType → Kind
kind_in (integer kind) = kind
kind_in other = Long

abbrev pub move_of : Op → ℤ → ℤ
move_of Sub n = neg_ℤ n
move_of op n = n

-- the value that a compound assignment stores (6.5.16.2p3)
abbrev pub updated : Scene → World → CType → Op → CType → Value → Value → Made
updated scene world kind op works (integer_value k m) (integer_value j n) =
    made_right (is_right op (kind_in works) n) (made_number k (updated_value op (kind_in works) k m n))
updated scene world kind op works (pointer_value p) (integer_value j n) = made_pointer scene world kind p (move_of op n)
updated scene world kind op works unset (integer_value j n) = record { causes = causes_anyway op (kind_in works) n; value = unset }
updated scene world kind op works a b = made_ill

-- the value that ++ or -- stores
abbrev pub counted : Scene → World → CType → Bool → Value → Made
counted scene world kind plus (integer_value k m) = made_number k (counted_value plus k m)
counted scene world kind plus (pointer_value p) = made_pointer scene world kind p (if plus then pos 1 else neg_ℤ (pos 1))
counted scene world kind plus unset = record { causes = []; value = unset }
counted scene world kind plus (parts all) = made_ill

-- the value of an object is replaced in one step, and the step gives the new value or the old one
abbrev pub replace_at : Scene → World → List At → CType → At → Made → Value → Did
replace_at scene world locks kind at made result =
    unless (made.causes ++ update_causes (layout scene.program) world.memory locks kind at)
    (gives (record world { memory = written world.memory at made.value }) (of_value result) (at ∷ []))

abbrev pub count_at : Scene → World → List At → CType → Bool → Bool → At → Did
count_at scene world locks kind plus before at =
    let made = counted scene world kind plus (contents_at world.memory at) in
    replace_at scene world locks kind at made (if before then made.value else contents_at world.memory at)

abbrev pub update_at : Scene → World → List At → CType → Op → CType → At → Value → Did
update_at scene world locks kind op works at value =
    let made = updated scene world kind op works (contents_at world.memory at) value in
    replace_at scene world locks kind at made made.value

-- ---- each node

-- The step of a node by the results of its operands, beside what stores that are unsequenced with it have locked. The nodes that evaluate
-- only some of their operands, and calls, have steps of their own.
abbrev pub operate : Scene → World → List At → Label → CType → List Operand → Did
operate scene world locks (number z) kind operands = number_alone world kind z
operate scene world locks (enumerator d) kind operands = number_alone world kind (enumerator_number scene.program d)
operate scene world locks (literal bytes unit) kind operands = gives world (designates (whole (literal_of bytes unit))) []
operate scene world locks (object d) kind operands = designated world (object_named scene.objects d)
operate scene world locks (function d) kind operands = plain world unset
operate scene world locks read kind operands = on_one operands (λ a. on_place a.result (read_at scene world locks kind))
operate scene world locks decay kind operands = on_one operands (λ a. on_place a.result (decayed scene world a.kind))
operate scene world locks convert kind operands = on_one operands (λ a. convert_to world kind a.result)
operate scene world locks address kind operands = on_one operands (λ a. on_place a.result (λ at. plain world (pointer_value (to at))))
operate scene world locks follow kind operands = on_one operands (λ a. on_value a.result (followed world))
operate scene world locks (member n) kind operands = on_one operands (λ a. member_of scene world n a.kind a.result)
operate scene world locks (unary sign) kind operands = on_one operands (λ a. on_value a.result (signed world kind sign))
operate scene world locks (binary op) kind operands =
    on_two operands (λ a b. on_value a.result (λ x. on_value b.result (combined scene world kind a.kind op x)))
operate scene world locks store kind operands =
    on_two operands (λ a b. on_place a.result (λ at. on_set b.result (store_at scene world locks kind at)))
operate scene world locks (update op works) kind operands =
    on_two operands (λ a b. on_place a.result (λ at. on_value b.result (update_at scene world locks kind op works at)))
operate scene world locks (count plus before) kind operands = on_one operands (λ a. on_place a.result (count_at scene world locks kind plus before))
operate scene world locks (sizeof_kind type) kind operands = number_alone world kind (pos ((layout scene.program).size type))
operate scene world locks other kind operands = ill
