-- What the step of a node gives was set, for the forms that give a value and don't convert it.
use Rattle.std.specs.Prelude.{◌≡◌, refl, ℕ, nat_lt, option_map, Bool, true, false, not, ◌||◌, List, [], ◌∷◌, ◌++◌, Option, Some, None, slice_get, Result as Outcome, Ok, Err, ℤ, if◌then◌else◌}
use Rattle.std.proofs.Common.{true≢false, ap, sym, ◌∙◌, subst}
use Rattle.dm_int.specs.declared.Fault.{Fault}
use Rattle.dm_int.specs.declared.Op.{Op}
use Rattle.dm_int.specs.declared.Kind.{Kind}
use Rattle.dm_int.specs.declared.Kind.TheVariants.{Long}
use Rattle.dm_int.specs.Operators as operators
use Rattle.dm_tree.specs.Evaluation.{unary_value, updated_value, counted_value, is_right}
use Rattle.dm_int.specs.declared.Op.TheVariants.{Add, Sub, Less, Greater, LessEq, GreaterEq, Equal, NotEqual}
use Rattle.dm_type.specs.CTypes.{CType, void, integer, pointer, array, struct, function as function_type, const, bare, is_const}
use Rattle.dm_tree.specs.declared.tree.Sign.{Sign}
use Rattle.dm_tree.specs.declared.tree.Sign.TheVariants.{Plus, Minus, Complement, Not}
use Rattle.dm_tree.specs.Trees.{Label, number, enumerator, read, decay, address, unary, binary, store, update, count, sizeof_kind}
use Rattle.dm_meaning.specs.declared.cause.Cause.{Cause}
use Rattle.dm_meaning.specs.declared.cause.Cause.TheVariants.{Conflict, Bounds, Life, Unset, OtherType}
use Rattle.dm_meaning.specs.Values.{Name, numbered, literal_of, elsewhere, part, past, Path, At, overlaps_any, Pointer, null, to, Value, integer_value, pointer_value, parts as compound, unset}
use Rattle.dm_meaning.specs.Objects.{Layout, Field, Reached, object_of, outside, foreign, unknown, reached_member, element, from_part, part_at}
use Rattle.dm_meaning.specs.Memory.{Memory, Block, look_up, look, lives, reached, reached_in, literal_block, contents_at, written}
use Rattle.dm_meaning.specs.Primitives.{Answer, answers, stops, refuses, put_character, get_character, text_at, most_in, written_line, put_line, end_program, Primitive, primitives, is_primitive, primitive_in, Prim}
use Rattle.dm_meaning.specs.Programs.{layout}
use Rattle.dm_meaning.specs.Causes.{when, is_null, store_causes, update_causes, is_unset, is_unset_object, is_outside, is_other, absence_causes, access_causes, entry_causes, read_causes, use_causes, order_causes, distance_causes}
use Rattle.dm_meaning.specs.Operations.{Result, of_value, designates, Operand, World, Scene, Did, gives, breaks, ends_with, provided, unless, number_alone, is_of_kind, faulted, on_one, on_two, on_value, on_set, ill, on_place, converted, store_at, made_number, kind_in, updated, counted, count_at, update_at, Truth, holds, untold, truth_of, on_truth, truth_in, made_right, typed_bare, typed, plain, read_at, part_of, byte_at, ordered, signed, pointer_plus, on_pointers, on_move, on_plus, combined, operate, on_target, pointer_further, made_pointer}
use Rattle.dm_meaning.proofs.OptionLemmas.{none_is_some}
use Rattle.dm_meaning.proofs.ExtendLemmas.{nil_left, nil_right, when_false}

-- ---- what is read was set

-- no path leads to what isn't known, in an object that is there
IsKnown : Reached → Type 0
IsKnown (object_of type fixed) = Unit {0}
IsKnown outside = Unit {0}
IsKnown foreign = Unit {0}
IsKnown unknown = ⊥

known_if : (b : Bool) (type : CType) → IsKnown (if b then object_of type false else outside)
unfolding IsKnown
known_if true type = tt
known_if false type = tt

known_from : (r : Reached) (next : CType → Reached) → IsKnown r → ((type : CType) → IsKnown (next type)) → IsKnown (from_part r next)
unfolding IsKnown
known_from (object_of type fixed) next h k = k type
known_from outside next h k = tt
known_from foreign next h k = tt
known_from unknown next h k = absurd h

known_member : (o : Option Field) → IsKnown (reached_member o)
unfolding IsKnown
known_member (Some field) = tt
known_member None = tt

known_element : (layout : Layout) (type : CType) (n : ℕ) → IsKnown (element layout type n)
unfolding IsKnown
known_element layout (array type (Some known)) n = known_if (nat_lt n known) type
known_element layout (array type None) n = tt
known_element layout (struct at) n = known_member (slice_get (layout.fields at) n)
known_element layout void n = tt
known_element layout (integer kind) n = tt
known_element layout (pointer type) n = tt
known_element layout (function_type result parameters) n = tt
known_element layout (const type) n = tt

known_part : (layout : Layout) (fixed : Bool) (type : CType) (path : Path) → IsKnown (part_at layout fixed type path)
unfolding IsKnown
known_part layout fixed type [] = tt
known_part layout fixed type (past ∷ path) = tt
known_part layout fixed type (part n ∷ path) =
    known_from (element layout (bare type) n) (λ inner. part_at layout (fixed || is_const type) inner path) (known_element layout (bare type) n)
    (λ inner. known_part layout (fixed || is_const type) inner path)

absent_not_none : (memory : Memory) (name : Name) → absence_causes memory name ≡ [] → look memory name ≡ None → ⊥
absent_not_none memory (numbered n) e f = true≢false (ap (λ o. not (lives o)) (sym f) ∙ when_false Life (not (lives (look_up memory n))) e)
absent_not_none memory (literal_of bytes unit) e f = none_is_some (literal_block bytes) (sym f)
absent_not_none memory (elsewhere identifier) e f = absurd (cc)

known_reached : (layout : Layout) (memory : Memory) (at : At) (o : Option Block) → look memory at.name ≡ o → absence_causes memory at.name ≡ [] → IsKnown (reached layout memory at)
known_reached layout memory at None e absent = absurd (absent_not_none memory at.name absent e)
known_reached layout memory at (Some block) e absent = subst (λ o. IsKnown (reached_in layout at.path o)) (sym e) (known_part layout false block.kind at.path)

-- what is read without a cause was set
pub read_set : (layout : Layout) (memory : Memory) (locks : List At) (kind : CType) (at : At) → read_causes layout memory locks kind at ≡ [] → is_unset (contents_at memory at) ≡ false
unfolding IsKnown
read_set layout memory locks kind at e =
    let r = reached layout memory at in
    let conflict = when Conflict (overlaps_any at locks) in
    let bounds = when Bounds (is_outside r) in
    let absent = absence_causes memory at.name in
    let other = when OtherType (is_other kind r) in
    let unset_causes = when Unset (is_unset_object (contents_at memory at) r) in
    let access = nil_left (access_causes layout memory locks kind at) unset_causes e in
    let none_absent = nil_right (conflict ++ bounds) absent (nil_left (conflict ++ bounds ++ absent) other access) in
    by_reached r (known_reached layout memory at (look memory at.name) refl none_absent)
    (when_false Bounds (is_outside r) (nil_right conflict bounds (nil_left (conflict ++ bounds) absent (nil_left (conflict ++ bounds ++ absent) other access))))
    (when_false OtherType (is_other kind r) (nil_right (conflict ++ bounds ++ absent) other access))
    (when_false Unset (is_unset_object (contents_at memory at) r) (nil_right (access_causes layout memory locks kind at) unset_causes e))
  where
    by_reached : (r : Reached) → IsKnown r → is_outside r ≡ false → is_other kind r ≡ false → is_unset_object (contents_at memory at) r ≡ false → is_unset (contents_at memory at) ≡ false
    by_reached (object_of type fixed) k b o u = u
    by_reached outside k b o u = absurd (true≢false b)
    by_reached foreign k b o u = absurd (true≢false o)
    by_reached unknown k b o u = absurd k

-- ---- what a step of an operator gives

abbrev pub IsSetResult : Result → Type 0
IsSetResult result = (value : Value) × (result ≡ of_value value) × (is_unset value ≡ false)

abbrev pub DidSets : Did → Type 0
DidSets (gives world result locks) = IsSetResult result
DidSets (breaks cause) = Unit {0}
DidSets (ends_with status) = Unit {0}

bare_set : (kind : CType) (z : ℤ) → is_unset (typed_bare kind z) ≡ false
bare_set (integer kind) z = refl
bare_set void z = refl
bare_set (pointer type) z = refl
bare_set (array type known) z = refl
bare_set (struct n) z = refl
bare_set (function_type result parameters) z = refl
bare_set (const type) z = refl

pub typed_set : (kind : CType) (z : ℤ) → is_unset (typed kind z) ≡ false
typed_set kind z = bare_set (bare kind) z

pub typed_result : (kind : CType) (z : ℤ) → IsSetResult (of_value (typed kind z))
typed_result kind z = (typed kind z, refl, typed_set kind z)

pointer_result : (p : Pointer) → IsSetResult (of_value (pointer_value p))
pointer_result p = (pointer_value p, refl, refl)

pub unless_sets : (causes : List Cause) (did : Did) → (causes ≡ [] → DidSets did) → DidSets (unless causes did)
unless_sets [] did h = h refl
unless_sets (cause ∷ causes) did h = tt

unless_pointer : (causes : List Cause) (world : World) (p : Pointer) → DidSets (unless causes (gives world (of_value (pointer_value p)) []))
unless_pointer causes world p = unless_sets causes (gives world (of_value (pointer_value p)) []) (λ e. pointer_result p)

pub provided_sets : (b : Bool) (did : Did) → DidSets did → DidSets (provided b did)
provided_sets true did h = h
provided_sets false did h = tt

pub number_sets : (world : World) (kind : CType) (z : ℤ) → DidSets (number_alone world kind z)
number_sets world kind z = provided_sets (is_of_kind (typed kind z)) (plain world (typed kind z)) (typed_result kind z)

unless_typed : (causes : List Cause) (world : World) (kind : CType) (z : ℤ) → DidSets (unless causes (gives world (of_value (typed kind z)) []))
unless_typed causes world kind z = unless_sets causes (gives world (of_value (typed kind z)) []) (λ e. typed_result kind z)

pub one_sets : (operands : List Operand) (next : Operand → Did) → ((a : Operand) → DidSets (next a)) → DidSets (on_one operands next)
one_sets [] next h = tt
one_sets (a ∷ []) next h = h a
one_sets (a ∷ b ∷ rest) next h = tt

two_sets : (operands : List Operand) (next : Operand → Operand → Did) → ((a b : Operand) → DidSets (next a b)) → DidSets (on_two operands next)
two_sets [] next h = tt
two_sets (a ∷ []) next h = tt
two_sets (a ∷ b ∷ []) next h = h a b
two_sets (a ∷ b ∷ c ∷ rest) next h = tt

value_sets : (result : Result) (next : Value → Did) → ((value : Value) → DidSets (next value)) → DidSets (on_value result next)
value_sets (of_value value) next h = h value
value_sets (designates at) next h = tt

place_sets : (result : Result) (next : At → Did) → ((at : At) → DidSets (next at)) → DidSets (on_place result next)
place_sets (of_value value) next h = tt
place_sets (designates at) next h = h at

fault_typed : (outcome : Outcome ℤ Fault) (world : World) (kind : CType) → DidSets (faulted outcome (number_alone world kind))
fault_typed (Ok z) world kind = number_sets world kind z
fault_typed (Err fault) world kind = tt

truth_typed : (truth : Truth) (world : World) (kind : CType) → DidSets (on_truth truth (λ b. plain world (truth_in kind (not b))))
truth_typed (holds b) world kind = typed_result kind (operators.truth (not b))
truth_typed (untold cause) world kind = tt

-- a value that was set stays so
pub set_sets : (result : Result) (next : Value → Did) → ((value : Value) → is_unset value ≡ false → DidSets (next value)) → DidSets (on_set result next)
set_sets (of_value value) next h = by_set (is_unset value) refl
  where
    by_set : (b : Bool) → is_unset value ≡ b → DidSets (if b then ill else next value)
    by_set true e = tt
    by_set false e = h value e
set_sets (designates at) next h = tt

number_set : (kind : Kind) (outcome : Outcome ℤ Fault) → (made_number kind outcome).causes ≡ [] → is_unset (made_number kind outcome).value ≡ false
number_set kind (Ok z) e = refl
number_set kind (Err fault) e = absurd (cc)

right_set : (b : Bool) (kind : Kind) (outcome : Outcome ℤ Fault) → (made_right b (made_number kind outcome)).causes ≡ [] → is_unset (made_right b (made_number kind outcome)).value ≡ false
right_set true kind outcome e = number_set kind outcome e
right_set false kind outcome e = absurd (cc)

if_set : (b : Bool) (x y : Value) → is_unset x ≡ false → is_unset y ≡ false → is_unset (if b then x else y) ≡ false
if_set true x y h k = h
if_set false x y h k = k

-- what is converted to another type than void
pub converted_sets : (world : World) (kind : CType) (value : Value) → is_unset value ≡ false → DidSets (converted world kind value)
converted_sets world (integer kind) (integer_value other z) e = (_, refl, refl)
converted_sets world (integer kind) (pointer_value p) e =
    unless_sets (use_causes world.memory p) (plain world (integer_value kind (operators.truth (not (is_null p))))) (λ c. (integer_value kind (operators.truth (not (is_null p))), refl, refl))
converted_sets world (integer kind) (compound all) e = (_, refl, refl)
converted_sets world (integer kind) unset e = absurd (true≢false e)
converted_sets world (pointer target) (pointer_value p) e = unless_pointer (use_causes world.memory p) world p
converted_sets world (pointer target) (integer_value kind z) e = (_, refl, refl)
converted_sets world (pointer target) (compound all) e = (_, refl, refl)
converted_sets world (pointer target) unset e = absurd (true≢false e)
converted_sets world void value e = (value, refl, e)
converted_sets world (array type known) value e = (value, refl, e)
converted_sets world (struct n) value e = (value, refl, e)
converted_sets world (function_type result parameters) value e = (value, refl, e)
converted_sets world (const inner) value e = (value, refl, e)

-- ---- the machine's own functions

abbrev pub AnswerSets : Option Answer → Type 0
AnswerSets None = Unit {0}
AnswerSets (Some (answers value input output)) = is_unset value ≡ false
AnswerSets (Some (stops status)) = Unit {0}
AnswerSets (Some (refuses cause)) = Unit {0}

put_sets : (arguments : List Value) (input output : List ℕ) → AnswerSets (Some (put_character arguments input output))
put_sets (integer_value kind z ∷ []) input output = refl
put_sets other input output = tt

get_sets : (input output : List ℕ) → AnswerSets (Some (get_character input output))
get_sets [] output = refl
get_sets (byte ∷ input) output = refl

written_sets : (line : Outcome (List ℕ) Cause) (input output : List ℕ) → AnswerSets (Some (written_line line input output))
written_sets (Ok bytes) input output = refl
written_sets (Err cause) input output = tt

line_sets : (layout : Layout) (memory : Memory) (arguments : List Value) (input output : List ℕ) → AnswerSets (Some (put_line layout memory arguments input output))
line_sets layout memory (pointer_value null ∷ []) input output = tt
line_sets layout memory (pointer_value (to at) ∷ []) input output = written_sets (text_at layout memory (most_in layout (look memory at.name)) at) input output
line_sets layout memory other input output = tt

end_sets : (arguments : List Value) → AnswerSets (Some (end_program arguments))
end_sets (integer_value kind z ∷ []) = tt
end_sets other = tt

abbrev AllSet : List Primitive → Type 0
AllSet [] = Unit {0}
AllSet (first ∷ rest) = ((layout : Layout) (memory : Memory) (arguments : List Value) (input output : List ℕ) → AnswerSets (Some (first.meaning layout memory arguments input output))) × AllSet rest

all_set : AllSet primitives
all_set = (
  λ layout memory arguments input output. put_sets arguments input output,
  (
    λ layout memory arguments input output. get_sets input output,
    (line_sets, (λ layout memory arguments input output. end_sets arguments, tt)),
  ),
)

found_sets : (layout : Layout) (memory : Memory) (arguments : List Value) (input output : List ℕ) (name : List ℕ) (kind : CType) (all : List Primitive) → AllSet all
    → AnswerSets (option_map (λ primitive. primitive.meaning layout memory arguments input output) (primitive_in all name kind))
found_sets layout memory arguments input output name kind [] h = tt
found_sets layout memory arguments input output name kind (first ∷ rest) h =
    by_name (is_primitive name kind first) (found_sets layout memory arguments input output name kind rest h.1)
  where
    by_name : (b : Bool) → AnswerSets (option_map (λ primitive. primitive.meaning layout memory arguments input output) (primitive_in rest name kind))
        → AnswerSets (option_map (λ primitive. primitive.meaning layout memory arguments input output) (if b then Some first else primitive_in rest name kind))
    by_name true k = h.0 layout memory arguments input output
    by_name false k = k

-- What one of them answers was set.
pub prim_sets : (layout : Layout) (memory : Memory) (name : List ℕ) (kind : CType) (arguments : List Value) (input output : List ℕ) → AnswerSets (Prim name kind layout memory arguments input output)
prim_sets layout memory name kind arguments input output = found_sets layout memory arguments input output name kind primitives all_set

-- ---- nodes

-- the forms that give a value and don't convert it
abbrev pub is_set : Label → Bool
is_set (number z) = true
is_set (enumerator d) = true
is_set read = true
is_set decay = true
is_set address = true
is_set (unary sign) = true
is_set (binary op) = true
is_set store = true
is_set (update op works) = true
is_set (count plus before) = true
is_set (sizeof_kind type) = true
is_set label = false

module _ (scene : Scene) (world : World) (locks : List At) where
  signed_sets : (kind : CType) (sign : Sign) (value : Value) → DidSets (signed world kind sign value)
  signed_sets kind Not value = truth_typed (truth_of world.memory value) world kind
  signed_sets kind Plus (integer_value other z) = fault_typed (unary_value Plus other z) world kind
  signed_sets kind Plus (pointer_value p) = tt
  signed_sets kind Plus (compound all) = tt
  signed_sets kind Plus unset = tt
  signed_sets kind Minus (integer_value other z) = fault_typed (unary_value Minus other z) world kind
  signed_sets kind Minus (pointer_value p) = tt
  signed_sets kind Minus (compound all) = tt
  signed_sets kind Minus unset = tt
  signed_sets kind Complement (integer_value other z) = fault_typed (unary_value Complement other z) world kind
  signed_sets kind Complement (pointer_value p) = tt
  signed_sets kind Complement (compound all) = tt
  signed_sets kind Complement unset = tt

  target_sets : (kind : CType) (next : CType → Did) → ((target : CType) → DidSets (next target)) → DidSets (on_target kind next)
  target_sets (pointer target) next h = h target
  target_sets kind next h = tt

  plus_sets : (kind : CType) (p : Pointer) (n : ℤ) → DidSets (pointer_plus scene world kind p n)
  plus_sets kind p n = target_sets kind (λ target. pointer_further scene world target p n) (λ target. unless_pointer _ _ _)

  move_sets : (op : Op) (n : ℤ) (next : ℤ → Did) → ((z : ℤ) → DidSets (next z)) → DidSets (on_move op n next)
  move_sets Add n next h = h n
  move_sets Sub n next h = h _
  move_sets op n next h = tt

  on_plus_sets : (op : Op) (did : Did) → DidSets did → DidSets (on_plus op did)
  on_plus_sets Add did h = h
  on_plus_sets op did h = tt

  ordered_sets : (kind : CType) (op : Op) (a b : Pointer) → DidSets (ordered scene world kind op a b)
  ordered_sets kind op a b =
      let compared = operators.binary op Long (byte_at scene world a) (byte_at scene world b) in
      unless_sets (order_causes world.memory a b) (faulted compared (number_alone world kind)) (λ e. fault_typed compared world kind)

  pointers_set : (kind left : CType) (op : Op) (a b : Pointer) → DidSets (on_pointers scene world kind left op a b)
  pointers_set kind left Sub a b = target_sets left _ (λ target. unless_sets (distance_causes (layout scene.program) world.memory target a b) _ (λ e. number_sets world kind _))
  pointers_set kind left Less a b = ordered_sets kind Less a b
  pointers_set kind left Greater a b = ordered_sets kind Greater a b
  pointers_set kind left LessEq a b = ordered_sets kind LessEq a b
  pointers_set kind left GreaterEq a b = ordered_sets kind GreaterEq a b
  pointers_set kind left Equal a b = unless_typed _ _ kind _
  pointers_set kind left NotEqual a b = unless_typed _ _ kind _
  pointers_set kind left op a b = tt

  combined_sets : (kind left : CType) (op : Op) (a b : Value) → DidSets (combined scene world kind left op a b)
  combined_sets kind left op (integer_value k m) (integer_value j n) = provided_sets (is_right op k n) _ (fault_typed (operators.binary op k m n) world kind)
  combined_sets kind left op (pointer_value p) (integer_value j n) = move_sets op n _ (plus_sets kind p)
  combined_sets kind left op (integer_value k m) (pointer_value q) = on_plus_sets op _ (plus_sets kind q m)
  combined_sets kind left op (pointer_value p) (pointer_value q) = pointers_set kind left op p q
  combined_sets kind left op (integer_value k m) (compound all) = tt
  combined_sets kind left op (integer_value k m) unset = tt
  combined_sets kind left op (pointer_value p) (compound all) = tt
  combined_sets kind left op (pointer_value p) unset = tt
  combined_sets kind left op (compound all) b = tt
  combined_sets kind left op unset b = tt

  read_sets : (kind : CType) (at : At) → DidSets (read_at scene world locks kind at)
  read_sets kind at =
      unless_sets (read_causes (layout scene.program) world.memory locks kind at) (plain world (contents_at world.memory at))
      (λ e. (contents_at world.memory at, refl, read_set (layout scene.program) world.memory locks kind at e))

  store_sets : (kind : CType) (at : At) (value : Value) → is_unset value ≡ false → DidSets (store_at scene world locks kind at value)
  store_sets kind at value e =
      unless_sets (store_causes (layout scene.program) world.memory locks kind at) (gives (record world { memory = written world.memory at value }) (of_value value) (at ∷ [])) (λ c. (value, refl, e))

  -- what is made of a value that was set
  pointer_set : (kind : CType) (p : Pointer) (n : ℤ) → (made_pointer scene world kind p n).causes ≡ [] → is_unset (made_pointer scene world kind p n).value ≡ false
  pointer_set (pointer target) p n e = refl
  pointer_set void p n e = absurd (cc)
  pointer_set (integer k) p n e = absurd (cc)
  pointer_set (array type known) p n e = absurd (cc)
  pointer_set (struct m) p n e = absurd (cc)
  pointer_set (function_type result parameters) p n e = absurd (cc)
  pointer_set (const type) p n e = absurd (cc)

  updated_set : (kind : CType) (op : Op) (works : CType) (a b : Value) → is_unset a ≡ false → (updated scene world kind op works a b).causes ≡ [] → is_unset (updated scene world kind op works a b).value ≡ false
  updated_set kind op works (integer_value k m) (integer_value j n) s e = right_set (is_right op (kind_in works) n) k (updated_value op (kind_in works) k m n) e
  updated_set kind op works (pointer_value p) (integer_value j n) s e = pointer_set kind p _ e
  updated_set kind op works unset b s e = absurd (true≢false s)
  updated_set kind op works (compound all) b s e = absurd (cc)
  updated_set kind op works (integer_value k m) (pointer_value q) s e = absurd (cc)
  updated_set kind op works (integer_value k m) (compound all) s e = absurd (cc)
  updated_set kind op works (integer_value k m) unset s e = absurd (cc)
  updated_set kind op works (pointer_value p) (pointer_value q) s e = absurd (cc)
  updated_set kind op works (pointer_value p) (compound all) s e = absurd (cc)
  updated_set kind op works (pointer_value p) unset s e = absurd (cc)

  counted_set : (kind : CType) (plus : Bool) (a : Value) → is_unset a ≡ false → (counted scene world kind plus a).causes ≡ [] → is_unset (counted scene world kind plus a).value ≡ false
  counted_set kind plus (integer_value k m) s e = number_set k (counted_value plus k m) e
  counted_set kind plus (pointer_value p) s e = pointer_set kind p _ e
  counted_set kind plus unset s e = absurd (true≢false s)
  counted_set kind plus (compound all) s e = absurd (cc)

  -- the object's value was set, where nothing is undefined
  contents_set : (kind : CType) (at : At) (made : List Cause) → made ++ update_causes (layout scene.program) world.memory locks kind at ≡ [] → is_unset (contents_at world.memory at) ≡ false
  contents_set kind at made e =
      let reads = read_causes (layout scene.program) world.memory locks kind at in
      let stores = store_causes (layout scene.program) world.memory locks kind at in
      read_set (layout scene.program) world.memory locks kind at (nil_left reads stores (nil_right made (reads ++ stores) e))

  update_sets : (kind : CType) (op : Op) (works : CType) (at : At) (value : Value) → DidSets (update_at scene world locks kind op works at value)
  update_sets kind op works at value =
      let made = updated scene world kind op works (contents_at world.memory at) value in
      let updates = update_causes (layout scene.program) world.memory locks kind at in
      unless_sets (made.causes ++ updates) (gives (record world { memory = written world.memory at made.value }) (of_value made.value) (at ∷ []))
      (λ e. (made.value, refl, updated_set kind op works (contents_at world.memory at) value (contents_set kind at made.causes e) (nil_left made.causes updates e)))

  count_sets : (kind : CType) (plus before : Bool) (at : At) → DidSets (count_at scene world locks kind plus before at)
  count_sets kind plus before at =
      let contents = contents_at world.memory at in
      let made = counted scene world kind plus contents in
      let updates = update_causes (layout scene.program) world.memory locks kind at in
      unless_sets (made.causes ++ updates) (gives (record world { memory = written world.memory at made.value }) (of_value (if before then made.value else contents)) (at ∷ []))
      (λ e.
      let known = contents_set kind at made.causes e in
      (if before then made.value else contents, refl, if_set before made.value contents (counted_set kind plus contents known (nil_left made.causes updates e)) known))

  pub operate_sets : (label : Label) (kind : CType) (operands : List Operand) → is_set label ≡ true → DidSets (operate scene world locks label kind operands)
  operate_sets (number z) kind operands h = number_sets world kind z
  operate_sets (enumerator d) kind operands h = number_sets world kind _
  operate_sets read kind operands h = one_sets operands _ (λ a. place_sets a.result _ (read_sets kind))
  operate_sets decay kind operands h =
      one_sets operands _ (λ a. place_sets a.result _ (λ at. unless_pointer (entry_causes (layout scene.program) world.memory a.kind at) world (to (part_of at 0))))
  operate_sets address kind operands h = one_sets operands _ (λ a. place_sets a.result _ (λ at. pointer_result (to at)))
  operate_sets (unary sign) kind operands h = one_sets operands _ (λ a. value_sets a.result _ (signed_sets kind sign))
  operate_sets (binary op) kind operands h = two_sets operands _ (λ a b. value_sets a.result _ (λ x. value_sets b.result _ (combined_sets kind a.kind op x)))
  operate_sets (sizeof_kind type) kind operands h = number_sets world kind _
  operate_sets store kind operands h = two_sets operands _ (λ a b. place_sets a.result _ (λ at. set_sets b.result _ (store_sets kind at)))
  operate_sets (update op works) kind operands h = two_sets operands _ (λ a b. place_sets a.result _ (λ at. value_sets b.result _ (update_sets kind op works at)))
  operate_sets (count plus before) kind operands h = one_sets operands _ (λ a. place_sets a.result _ (count_sets kind plus before))
  operate_sets label kind operands h = absurd (cc)
