-- No step of an expression has the cause `novalue`, whatever its tree.
use Rattle.std.specs.Prelude.{◌≡◌, refl, ◌⊎◌, ℕ, zero, suc, Bool, true, false, not, ◌&&◌, ◌||◌, nat_le, IsTrue, List, [], ◌∷◌, ◌++◌, map, Option, Some, None, is_none, option_map, Result as Outcome, Ok, Err, ℤ, pos, negsuc, if◌then◌else◌}
use Rattle.std.proofs.Common.{sym, subst, inl, inr}
use Rattle.dm_token.specs.declared.place.Place.{Place}
use Rattle.dm_int.specs.declared.Fault.{Fault}
use Rattle.dm_int.specs.declared.Fault.TheVariants.{Overflow as TooGreat, Zero, Shift as BadShift}
use Rattle.dm_int.specs.declared.Kind.{Kind}
use Rattle.dm_int.specs.declared.Kind.TheVariants.{Char}
use Rattle.dm_int.specs.declared.Op.{Op}
use Rattle.dm_int.specs.declared.Op.TheVariants.{Add, Sub, Div, Rem, Shl, Shr, Less, Greater, LessEq, GreaterEq, Equal, NotEqual}
use Rattle.dm_int.specs.Operators as operators
use Rattle.dm_int.specs.Operators.{int_eq}
use Rattle.dm_type.specs.CTypes.{CType, void, integer, pointer, bare}
use Rattle.dm_tree.specs.declared.tree.Sign.{Sign}
use Rattle.dm_tree.specs.declared.tree.Sign.TheVariants.{Not}
use Rattle.dm_tree.specs.Evaluation.{is_right, unary_value, updated_value, counted_value}
use Rattle.dm_tree.specs.Trees.{Label, number, enumerator, literal, object, function, read, decay, convert, address, follow, member, unary, binary, both, either, choose, comma, call, store, update, count, sizeof_tree, sizeof_kind}
use Rattle.dm_tree.specs.Units.{Declaration}
use Rattle.dm_meaning.specs.declared.cause.Cause.{Cause}
use Rattle.dm_meaning.specs.declared.cause.Cause.TheVariants.{Division, Shift, Conflict, Null, Bounds, Pointer as Order, Life, Unset, OtherType, Const, NoValue}
use Rattle.dm_meaning.specs.Among.{IsAmong}
use Rattle.dm_meaning.specs.Values.{Name, numbered, literal_of, elsewhere, part, At, Pointer, null, to, Value, integer_value, pointer_value, parts, unset, part_value, overlaps_any}
use Rattle.dm_meaning.specs.Objects.{Layout}
use Rattle.dm_meaning.specs.Memory.{Memory, look, reached, contents_at, lives, may_be_written, or_unset}
use Rattle.dm_meaning.specs.Causes.{earlier, earliest, row, when, fault_cause, is_outside, is_other, is_fixed, is_unset, is_unset_object, absence_causes, access_causes, entry_causes, read_causes, store_causes, update_causes, is_null, use_causes, follow_causes, moved_pointer, moved_causes, pointer_distance, distance_causes, in_one_object, order_causes}
use Rattle.dm_meaning.specs.Primitives.{Answer, answers, stops, refuses, put_character, get_character, and_text, unless_cause, text_on, text_at, most_in, written_line, put_line, end_program, Primitive, primitives, is_primitive, primitive_in, Prim}
use Rattle.dm_meaning.specs.Programs.{Definition, layout, declaration_of, definition_of}
use Rattle.dm_meaning.specs.Operations.{Result, of_value, designates, Operand, World, Scene, Did, gives, breaks, ends_with, ill, decided, provided, unless, typed, is_of_kind, number_alone, faulted, on_one, on_two, on_value, on_set, on_place, object_named, enumerator_number, designated, read_at, followed, member_of, decayed, converted, convert_bare, Truth, holds, untold, told, truth_of, on_truth, signed, on_target, pointer_further, pointer_plus, pointer_minus, ordered, equated, on_pointers, on_move, on_plus, combined, store_at, Made, made_number, made_right, made_pointer, causes_anyway, kind_in, move_of, updated, counted, replace_at, count_at, update_at, operate}
use Rattle.dm_meaning.specs.Running.{Doing, evaluates, gives_truth, gives_value, Run, done, to_do, Runs, no_runs, more_runs, Open, first_open, others_open, open_parts, operands_in, locks_in_all, Hole, within, Holes, in_first, in_others}
use Rattle.dm_meaning.specs.Expressions.{Move, goes, calls, fails, exits, lifted, as_move, by_truth, on_operand, value_of, nth_run, both_chosen, either_chosen, operand_chosen, function_named, answered, undefined_called, called, call_step, form_step, node_step, own_or_inner, where_open, moves, moves_in}
use Rattle.dm_meaning.proofs.AmongLemmas.{among_either, among-map_from}

-- ---- causes

-- a cause that steps of expressions may have
abbrev is_own : Cause → Bool
is_own NoValue = false
is_own cause = true

abbrev IsOwn : Cause → Type 0
IsOwn cause = IsTrue (is_own cause)

abbrev AreOwn : List Cause → Type 0
AreOwn [] = Unit {0}
AreOwn (cause ∷ causes) = IsOwn cause × AreOwn causes

when_own : (cause : Cause) (b : Bool) → IsOwn cause → AreOwn (when cause b)
when_own cause true h = (h, tt)
when_own cause false h = tt

both_own : (xs ys : List Cause) → AreOwn xs → AreOwn ys → AreOwn (xs ++ ys)
both_own [] ys h g = g
both_own (x ∷ xs) ys h g = (h.0, both_own xs ys h.1 g)

abbrev IfOwn : Option Cause → Type 0
IfOwn None = Unit {0}
IfOwn (Some cause) = IsOwn cause

earliest_own : (causes : List Cause) → AreOwn causes → IfOwn (earliest causes)
earliest_own [] h = tt
earliest_own (first ∷ rest) h = by_rest (earliest rest) (earliest_own rest h.1)
  where
    by_row : (b : Bool) (other : Cause) → IsOwn other → IsOwn (if b then first else other)
    by_row true other g = h.0
    by_row false other g = g

    by_rest : (o : Option Cause) → IfOwn o → IsOwn (earlier first o)
    by_rest None g = h.0
    by_rest (Some other) g = by_row (nat_le (row first) (row other)) other g

fault_own : (fault : Fault) → IsOwn (fault_cause fault)
fault_own TooGreat = refl
fault_own Zero = refl
fault_own BadShift = refl

absence_own : (memory : Memory) (name : Name) → AreOwn (absence_causes memory name)
absence_own memory (elsewhere identifier) = (refl, tt)
absence_own memory (numbered n) = when_own Life (not (lives (look memory (numbered n)))) refl
absence_own memory (literal_of bytes unit) = when_own Life (not (lives (look memory (literal_of bytes unit)))) refl

use_own : (memory : Memory) (p : Pointer) → AreOwn (use_causes memory p)
use_own memory null = tt
use_own memory (to at) = absence_own memory at.name

uses_own : (memory : Memory) (p q : Pointer) → AreOwn (use_causes memory p ++ use_causes memory q)
uses_own memory p q = both_own (use_causes memory p) (use_causes memory q) (use_own memory p) (use_own memory q)

follow_own : (memory : Memory) (p : Pointer) → AreOwn (follow_causes memory p)
follow_own memory p = both_own (when Null (is_null p)) (use_causes memory p) (when_own Null (is_null p) refl) (use_own memory p)

module _ (laid : Layout) (memory : Memory) where
  access_own : (locks : List At) (access : CType) (at : At) → AreOwn (access_causes laid memory locks access at)
  access_own locks access at =
      let conflict = when Conflict (overlaps_any at locks) in
      let bounds = when Bounds (is_outside (reached laid memory at)) in
      let absent = absence_causes memory at.name in
      let other = when OtherType (is_other access (reached laid memory at)) in
      both_own (conflict ++ bounds ++ absent) other
      (both_own (conflict ++ bounds) absent (both_own conflict bounds (when_own Conflict (overlaps_any at locks) refl) (when_own Bounds (is_outside (reached laid memory at)) refl)) (absence_own memory at.name))
      (when_own OtherType (is_other access (reached laid memory at)) refl)

  entry_own : (access : CType) (at : At) → AreOwn (entry_causes laid memory access at)
  entry_own access at =
      both_own (absence_causes memory at.name) (when OtherType (is_other access (reached laid memory at))) (absence_own memory at.name)
      (when_own OtherType (is_other access (reached laid memory at)) refl)

  read_own : (locks : List At) (access : CType) (at : At) → AreOwn (read_causes laid memory locks access at)
  read_own locks access at =
      let b = is_unset_object (contents_at memory at) (reached laid memory at) in
      both_own (access_causes laid memory locks access at) (when Unset b) (access_own locks access at) (when_own Unset b refl)

  store_own : (locks : List At) (access : CType) (at : At) → AreOwn (store_causes laid memory locks access at)
  store_own locks access at =
      let b = is_fixed (reached laid memory at) || not (may_be_written (look memory at.name)) in
      both_own (access_causes laid memory locks access at) (when Const b) (access_own locks access at) (when_own Const b refl)

  update_own : (locks : List At) (access : CType) (at : At) → AreOwn (update_causes laid memory locks access at)
  update_own locks access at =
      both_own (read_causes laid memory locks access at) (store_causes laid memory locks access at) (read_own locks access at) (store_own locks access at)

  moved_own : (target : CType) (p : Pointer) (n : ℤ) → AreOwn (moved_causes laid memory target p n)
  moved_own target p n =
      let empty = is_null p && not (int_eq n (pos 0)) in
      let beyond = is_none (moved_pointer laid memory target p n) in
      both_own (when Null empty ++ when Bounds beyond) (use_causes memory p)
      (both_own (when Null empty) (when Bounds beyond) (when_own Null empty refl) (when_own Bounds beyond refl)) (use_own memory p)

  distance_own : (target : CType) (p q : Pointer) → AreOwn (distance_causes laid memory target p q)
  distance_own target p q =
      let empty = is_null p || is_null q in
      let others = is_none (pointer_distance laid memory target p q) in
      both_own (when Null empty ++ when Order others ++ use_causes memory p) (use_causes memory q)
      (both_own (when Null empty ++ when Order others) (use_causes memory p)
      (both_own (when Null empty) (when Order others) (when_own Null empty refl) (when_own Order others refl)) (use_own memory p)) (use_own memory q)

order_own : (memory : Memory) (p q : Pointer) → AreOwn (order_causes memory p q)
order_own memory p q =
    let first = when Order (not (in_one_object p q)) in
    both_own (first ++ use_causes memory p) (use_causes memory q)
    (both_own first (use_causes memory p) (when_own Order (not (in_one_object p q)) refl) (use_own memory p)) (use_own memory q)

anyway_own : (op : Op) (kind : Kind) (n : ℤ) → AreOwn (causes_anyway op kind n)
anyway_own Div kind n = when_own Division (int_eq n (pos 0)) refl
anyway_own Rem kind n = when_own Division (int_eq n (pos 0)) refl
anyway_own Shl kind n = when_own Shift (not (operators.is_count kind n)) refl
anyway_own Shr kind n = when_own Shift (not (operators.is_count kind n)) refl
anyway_own op kind n = tt

-- ---- what a step does

abbrev DidOwn : Did → Type 0
DidOwn (gives world result new) = Unit {0}
DidOwn (breaks cause) = IsOwn cause
DidOwn (ends_with status) = Unit {0}

decided_own : (o : Option Cause) (did : Did) → IfOwn o → DidOwn did → DidOwn (decided o did)
decided_own None did h g = g
decided_own (Some cause) did h g = h

unless_own : (causes : List Cause) (did : Did) → AreOwn causes → DidOwn did → DidOwn (unless causes did)
unless_own causes did h g = decided_own (earliest causes) did (earliest_own causes h) g

provided_own : (b : Bool) (did : Did) → DidOwn did → DidOwn (provided b did)
provided_own true did h = h
provided_own false did h = refl

alone_own : (world : World) (kind : CType) (z : ℤ) → DidOwn (number_alone world kind z)
alone_own world kind z = provided_own (is_of_kind (typed kind z)) _ tt

faulted_own : (outcome : Outcome ℤ Fault) (next : ℤ → Did) → ((z : ℤ) → DidOwn (next z)) → DidOwn (faulted outcome next)
faulted_own (Ok z) next h = h z
faulted_own (Err fault) next h = fault_own fault

one_own : (operands : List Operand) (next : Operand → Did) → ((a : Operand) → DidOwn (next a)) → DidOwn (on_one operands next)
one_own [] next h = refl
one_own (a ∷ []) next h = h a
one_own (a ∷ b ∷ rest) next h = refl

two_own : (operands : List Operand) (next : Operand → Operand → Did) → ((a b : Operand) → DidOwn (next a b)) → DidOwn (on_two operands next)
two_own [] next h = refl
two_own (a ∷ []) next h = refl
two_own (a ∷ b ∷ []) next h = h a b
two_own (a ∷ b ∷ c ∷ rest) next h = refl

value_own : (result : Result) (next : Value → Did) → ((value : Value) → DidOwn (next value)) → DidOwn (on_value result next)
value_own (of_value value) next h = h value
value_own (designates at) next h = refl

set_own : (result : Result) (next : Value → Did) → ((value : Value) → DidOwn (next value)) → DidOwn (on_set result next)
set_own (of_value value) next h = by_set (is_unset value)
  where
    by_set : (b : Bool) → DidOwn (if b then breaks OtherType else next value)
    by_set true = refl
    by_set false = h value
set_own (designates at) next h = refl

place_own : (result : Result) (next : At → Did) → ((at : At) → DidOwn (next at)) → DidOwn (on_place result next)
place_own (of_value value) next h = refl
place_own (designates at) next h = h at

-- ---- truth

abbrev TruthOwn : Truth → Type 0
TruthOwn (holds b) = Unit {0}
TruthOwn (untold cause) = IsOwn cause

told_own : (o : Option Cause) (b : Bool) → IfOwn o → TruthOwn (told o b)
told_own None b h = tt
told_own (Some cause) b h = h

pub truth_own : (memory : Memory) (value : Value) → TruthOwn (truth_of memory value)
truth_own memory (integer_value kind z) = tt
truth_own memory (pointer_value p) = told_own (earliest (use_causes memory p)) (not (is_null p)) (earliest_own (use_causes memory p) (use_own memory p))
truth_own memory (parts all) = refl
truth_own memory unset = refl

on_truth_own : (truth : Truth) (next : Bool → Did) → TruthOwn truth → ((b : Bool) → DidOwn (next b)) → DidOwn (on_truth truth next)
on_truth_own (holds b) next h g = g b
on_truth_own (untold cause) next h g = h

-- ---- nodes

module _ (scene : Scene) (world : World) where
  abbrev its : Layout
  its = layout scene.program

  designated_own : (o : Option ℕ) → DidOwn (designated world o)
  designated_own None = refl
  designated_own (Some n) = tt

  followed_own : (value : Value) → DidOwn (followed world value)
  followed_own (pointer_value (to at)) = unless_own (follow_causes world.memory (to at)) _ (follow_own world.memory (to at)) tt
  followed_own (pointer_value null) = unless_own (follow_causes world.memory null) ill (follow_own world.memory null) refl
  followed_own (integer_value kind z) = refl
  followed_own (parts all) = refl
  followed_own unset = refl

  member_own : (n : ℕ) (kind : CType) (result : Result) → DidOwn (member_of scene world n kind result)
  member_own n kind (of_value value) =
      let found = or_unset (part_value value (part n ∷ [])) in
      unless_own (when Unset (is_unset found)) _ (when_own Unset (is_unset found) refl) tt
  member_own n kind (designates at) = unless_own (entry_causes its world.memory kind at) _ (entry_own its world.memory kind at) tt

  converted_own : (kind : CType) (value : Value) → DidOwn (converted world kind value)
  converted_own (integer kind) (integer_value other z) = tt
  converted_own (integer kind) (pointer_value p) = unless_own (use_causes world.memory p) _ (use_own world.memory p) tt
  converted_own (pointer target) (pointer_value p) = unless_own (use_causes world.memory p) _ (use_own world.memory p) tt
  converted_own (pointer target) (integer_value kind z) = tt
  converted_own kind value = tt

  convert_own : (kind : CType) (result : Result) → DidOwn (convert_bare world kind result)
  convert_own void result = tt
  convert_own kind result = set_own result (converted world kind) (converted_own kind)

  signed_own : (kind : CType) (sign : Sign) (value : Value) → DidOwn (signed world kind sign value)
  signed_own kind Not value = on_truth_own (truth_of world.memory value) _ (truth_own world.memory value) (λ b. tt)
  signed_own kind sign (integer_value other z) = faulted_own (unary_value sign other z) (number_alone world kind) (alone_own world kind)
  signed_own kind sign value = refl

  further_own : (target : CType) (p : Pointer) (n : ℤ) → DidOwn (pointer_further scene world target p n)
  further_own target p n = unless_own (moved_causes its world.memory target p n) _ (moved_own its world.memory target p n) tt

  target_own : (kind : CType) (next : CType → Did) → ((target : CType) → DidOwn (next target)) → DidOwn (on_target kind next)
  target_own (pointer type) next h = h type
  target_own type next h = refl

  plus_own : (kind : CType) (p : Pointer) (n : ℤ) → DidOwn (pointer_plus scene world kind p n)
  plus_own kind p n = target_own kind _ (λ target. further_own target p n)

  minus_own : (kind target : CType) (p q : Pointer) → DidOwn (pointer_minus scene world kind target p q)
  minus_own kind target p q = unless_own (distance_causes its world.memory target p q) _ (distance_own its world.memory target p q) (alone_own world kind _)

  ordered_own : (kind : CType) (op : Op) (p q : Pointer) → DidOwn (ordered scene world kind op p q)
  ordered_own kind op p q = unless_own (order_causes world.memory p q) _ (order_own world.memory p q) (faulted_own _ (number_alone world kind) (alone_own world kind))

  equated_own : (kind : CType) (sense : Bool → Bool) (p q : Pointer) → DidOwn (equated scene world kind sense p q)
  equated_own kind sense p q = unless_own (use_causes world.memory p ++ use_causes world.memory q) _ (uses_own world.memory p q) tt

  pointers_own : (kind left : CType) (op : Op) (p q : Pointer) → DidOwn (on_pointers scene world kind left op p q)
  pointers_own kind left Sub p q = target_own left _ (λ target. minus_own kind target p q)
  pointers_own kind left Less p q = ordered_own kind Less p q
  pointers_own kind left Greater p q = ordered_own kind Greater p q
  pointers_own kind left LessEq p q = ordered_own kind LessEq p q
  pointers_own kind left GreaterEq p q = ordered_own kind GreaterEq p q
  pointers_own kind left Equal p q = equated_own kind (λ truth. truth) p q
  pointers_own kind left NotEqual p q = equated_own kind not p q
  pointers_own kind left op p q = refl

  move_own : (op : Op) (n : ℤ) (next : ℤ → Did) → ((z : ℤ) → DidOwn (next z)) → DidOwn (on_move op n next)
  move_own Add n next h = h _
  move_own Sub n next h = h _
  move_own op n next h = refl

  on_plus_own : (op : Op) (did : Did) → DidOwn did → DidOwn (on_plus op did)
  on_plus_own Add did h = h
  on_plus_own op did h = refl

  combined_own : (kind left : CType) (op : Op) (x y : Value) → DidOwn (combined scene world kind left op x y)
  combined_own kind left op (integer_value a m) (integer_value b n) =
      provided_own (is_right op a n) _ (faulted_own (operators.binary op a m n) (number_alone world kind) (alone_own world kind))
  combined_own kind left op (pointer_value p) (integer_value b n) = move_own op n (pointer_plus scene world kind p) (plus_own kind p)
  combined_own kind left op (integer_value a m) (pointer_value q) = on_plus_own op _ (plus_own kind q m)
  combined_own kind left op (pointer_value p) (pointer_value q) = pointers_own kind left op p q
  combined_own kind left op x y = refl

  -- ---- assignments

  number_own : (kind : Kind) (outcome : Outcome ℤ Fault) → AreOwn (made_number kind outcome).causes
  number_own kind (Ok z) = tt
  number_own kind (Err fault) = (fault_own fault, tt)

  right_own : (b : Bool) (made : Made) → AreOwn made.causes → AreOwn (made_right b made).causes
  right_own true made h = h
  right_own false made h = (refl, tt)

  pointer_own : (kind : CType) (p : Pointer) (n : ℤ) → AreOwn (made_pointer scene world kind p n).causes
  pointer_own (pointer target) p n = moved_own its world.memory target p n
  pointer_own kind p n = (refl, tt)

  updated_own : (kind : CType) (op : Op) (works : CType) (x y : Value) → AreOwn (updated scene world kind op works x y).causes
  updated_own kind op works (integer_value k m) (integer_value j n) =
      right_own (is_right op (kind_in works) n) _ (number_own k (updated_value op (kind_in works) k m n))
  updated_own kind op works (pointer_value p) (integer_value j n) = pointer_own kind p (move_of op n)
  updated_own kind op works unset (integer_value j n) = anyway_own op (kind_in works) n
  updated_own kind op works x y = (refl, tt)

  counted_own : (kind : CType) (plus : Bool) (x : Value) → AreOwn (counted scene world kind plus x).causes
  counted_own kind plus (integer_value k m) = number_own k (counted_value plus k m)
  counted_own kind plus (pointer_value p) = pointer_own kind p _
  counted_own kind plus unset = tt
  counted_own kind plus (parts all) = (refl, tt)

  module _ (locks : List At) where
    replace_own : (kind : CType) (at : At) (made : Made) (result : Value) → AreOwn made.causes → DidOwn (replace_at scene world locks kind at made result)
    replace_own kind at made result h =
        let causes = update_causes its world.memory locks kind at in
        unless_own (made.causes ++ causes) _ (both_own made.causes causes h (update_own its world.memory locks kind at)) tt

    operate_own : (label : Label) (kind : CType) (operands : List Operand) → DidOwn (operate scene world locks label kind operands)
    operate_own (number z) kind operands = alone_own world kind z
    operate_own (enumerator d) kind operands = alone_own world kind (enumerator_number scene.program d)
    operate_own (literal bytes unit) kind operands = tt
    operate_own (object d) kind operands = designated_own (object_named scene.objects d)
    operate_own (function d) kind operands = tt
    operate_own read kind operands =
        one_own operands _ (λ a. place_own a.result (read_at scene world locks kind) (λ at. unless_own (read_causes its world.memory locks kind at) _ (read_own its world.memory locks kind at) tt))
    operate_own decay kind operands =
        one_own operands _ (λ a. place_own a.result (decayed scene world a.kind) (λ at. unless_own (entry_causes its world.memory a.kind at) _ (entry_own its world.memory a.kind at) tt))
    operate_own convert kind operands = one_own operands _ (λ a. convert_own (bare kind) a.result)
    operate_own address kind operands = one_own operands _ (λ a. place_own a.result _ (λ at. tt))
    operate_own follow kind operands = one_own operands _ (λ a. value_own a.result (followed world) followed_own)
    operate_own (member n) kind operands = one_own operands _ (λ a. member_own n a.kind a.result)
    operate_own (unary sign) kind operands = one_own operands _ (λ a. value_own a.result (signed world kind sign) (signed_own kind sign))
    operate_own (binary op) kind operands =
        two_own operands _ (λ a b. value_own a.result _ (λ x. value_own b.result (combined scene world kind a.kind op x) (combined_own kind a.kind op x)))
    operate_own store kind operands =
        two_own operands _ (λ a b. place_own a.result _ (λ at. set_own b.result (store_at scene world locks kind at)
        (λ value. unless_own (store_causes its world.memory locks kind at) _ (store_own its world.memory locks kind at) tt)))
    operate_own (update op works) kind operands =
        two_own operands _ (λ a b. place_own a.result _ (λ at. value_own b.result (update_at scene world locks kind op works at)
        (λ value. replace_own kind at (updated scene world kind op works (contents_at world.memory at) value) _ (updated_own kind op works (contents_at world.memory at) value))))
    operate_own (count plus before) kind operands =
        one_own operands _ (λ a. place_own a.result (count_at scene world locks kind plus before)
        (λ at. replace_own kind at (counted scene world kind plus (contents_at world.memory at)) _ (counted_own kind plus (contents_at world.memory at))))
    operate_own (sizeof_kind type) kind operands = alone_own world kind _
    operate_own label kind operands = refl

-- ---- the machine's own functions

abbrev TextOwn : Outcome (List ℕ) Cause → Type 0
TextOwn (Ok bytes) = Unit {0}
TextOwn (Err cause) = IsOwn cause

and_text_own : (value : Value) (later : Outcome (List ℕ) Cause) → TextOwn later → TextOwn (and_text value later)
and_text_own (integer_value kind (pos zero)) later h = tt
and_text_own (integer_value kind (pos (suc n))) (Ok bytes) h = tt
and_text_own (integer_value kind (pos (suc n))) (Err cause) h = h
and_text_own (integer_value kind (negsuc n)) (Ok bytes) h = tt
and_text_own (integer_value kind (negsuc n)) (Err cause) h = h
and_text_own (pointer_value p) later h = refl
and_text_own (parts all) later h = refl
and_text_own unset later h = refl

unless_text_own : (o : Option Cause) (value : Value) (later : Outcome (List ℕ) Cause) → IfOwn o → TextOwn later → TextOwn (unless_cause o value later)
unless_text_own None value later h g = and_text_own value later g
unless_text_own (Some cause) value later h g = h

text_on_own : (p : Option Pointer) (next : At → Outcome (List ℕ) Cause) → ((at : At) → TextOwn (next at)) → TextOwn (text_on p next)
text_on_own None next h = refl
text_on_own (Some null) next h = refl
text_on_own (Some (to at)) next h = h at

text_own : (laid : Layout) (memory : Memory) (most : ℕ) (at : At) → TextOwn (text_at laid memory most at)
text_own laid memory zero at = refl
text_own laid memory (suc most) at =
    let causes = read_causes laid memory [] (integer Char) at in
    let further = moved_pointer laid memory (integer Char) (to at) (pos 1) in
    unless_text_own (earliest causes) (contents_at memory at) (text_on further (text_at laid memory most)) (earliest_own causes (read_own laid memory [] (integer Char) at))
    (text_on_own further (text_at laid memory most) (text_own laid memory most))

abbrev AnswerOwn : Answer → Type 0
AnswerOwn (answers value input output) = Unit {0}
AnswerOwn (stops status) = Unit {0}
AnswerOwn (refuses cause) = IsOwn cause

line_own : (text : Outcome (List ℕ) Cause) (input output : List ℕ) → TextOwn text → AnswerOwn (written_line text input output)
line_own (Ok bytes) input output h = tt
line_own (Err cause) input output h = h

module _ (laid : Layout) (memory : Memory) (input output : List ℕ) where
  put_own : (values : List Value) → AnswerOwn (put_character values input output)
  put_own [] = refl
  put_own (integer_value kind z ∷ []) = tt
  put_own (value ∷ []) = refl
  put_own (integer_value kind z ∷ second ∷ rest) = refl
  put_own (value ∷ second ∷ rest) = refl

  get_own : (left : List ℕ) → AnswerOwn (get_character left output)
  get_own [] = tt
  get_own (byte ∷ left) = tt

  puts_own : (values : List Value) → AnswerOwn (put_line laid memory values input output)
  puts_own [] = refl
  puts_own (pointer_value null ∷ []) = refl
  puts_own (pointer_value (to at) ∷ []) = line_own _ input output (text_own laid memory (most_in laid (look memory at.name)) at)
  puts_own (value ∷ []) = refl
  puts_own (pointer_value null ∷ second ∷ rest) = refl
  puts_own (pointer_value (to at) ∷ second ∷ rest) = refl
  puts_own (value ∷ second ∷ rest) = refl

  end_own : (values : List Value) → AnswerOwn (end_program values)
  end_own [] = refl
  end_own (integer_value kind z ∷ []) = tt
  end_own (value ∷ []) = refl
  end_own (integer_value kind z ∷ second ∷ rest) = refl
  end_own (value ∷ second ∷ rest) = refl

  abbrev MeaningOwn : Primitive → Type 0
  MeaningOwn one = (values : List Value) → AnswerOwn (one.meaning laid memory values input output)

  abbrev AllMean : List Primitive → Type 0
  AllMean [] = Unit {0}
  AllMean (one ∷ rest) = MeaningOwn one × AllMean rest

  abbrev AnyOwn : Option Answer → Type 0
  AnyOwn None = Unit {0}
  AnyOwn (Some answer) = AnswerOwn answer

  table_own : (table : List Primitive) → AllMean table → (name : List ℕ) (kind : CType) (values : List Value)
      → AnyOwn (option_map (λ (one : Primitive). one.meaning laid memory values input output) (primitive_in table name kind))
  table_own [] h name kind values = tt
  table_own (first ∷ rest) h name kind values = by_name (is_primitive name kind first) (table_own rest h.1 name kind values)
    where
      by_name : (b : Bool) → AnyOwn (option_map (λ (one : Primitive). one.meaning laid memory values input output) (primitive_in rest name kind))
          → AnyOwn (option_map (λ (one : Primitive). one.meaning laid memory values input output) (if b then Some first else primitive_in rest name kind))
      by_name true later = h.0 values
      by_name false later = later

  prim_own : (name : List ℕ) (kind : CType) (values : List Value) → AnyOwn (Prim name kind laid memory values input output)
  prim_own name kind values = table_own primitives (put_own, ((λ vs. get_own input), (puts_own, (end_own, tt)))) name kind values

-- ---- moves

abbrev MoveOwn : {T H : Type 0} → Move T H → Type 0
MoveOwn (goes world tree) = Unit {0}
MoveOwn (calls f arguments kind hole) = Unit {0}
MoveOwn (fails cause place) = IsOwn cause
MoveOwn (exits status) = Unit {0}

as_move_own : (kind : CType) (place : Place) (locks : List At) (did : Did) → DidOwn did → MoveOwn (as_move kind place locks did)
as_move_own kind place locks (gives world result new) h = tt
as_move_own kind place locks (breaks cause) h = h
as_move_own kind place locks (ends_with status) h = tt

by_truth_own : (world : World) (place : Place) (truth : Truth) (next : Bool → Run) → TruthOwn truth → MoveOwn (by_truth world place truth next)
by_truth_own world place (holds b) next h = tt
by_truth_own world place (untold cause) next h = h

on_operand_own : (place : Place) (operands : List Operand) (next : Operand → Move Run Hole) → ((a : Operand) → MoveOwn (next a)) → MoveOwn (on_operand place operands next)
on_operand_own place [] next h = refl
on_operand_own place (a ∷ []) next h = h a
on_operand_own place (a ∷ b ∷ rest) next h = refl

lifted_own : {T H U G : Type 0} (tree : T → U) (hole : H → G) (move : Move T H) → MoveOwn move → MoveOwn (lifted tree hole move)
lifted_own tree hole (goes world t) h = tt
lifted_own tree hole (calls f arguments kind a) h = tt
lifted_own tree hole (fails cause place) h = h
lifted_own tree hole (exits status) h = tt

module _ (scene : Scene) (world : World) (locks : List At) where
  answered_own : (kind : CType) (place : Place) (o : Option Answer) → AnyOwn (layout scene.program) world.memory world.input world.output o → MoveOwn (answered world kind place o)
  answered_own kind place None h = refl
  answered_own kind place (Some (answers value input output)) h = tt
  answered_own kind place (Some (stops status)) h = tt
  answered_own kind place (Some (refuses cause)) h = h

  undefined_own : (kind : CType) (place : Place) (values : List Value) (o : Option Declaration) → MoveOwn (undefined_called scene world kind place values o)
  undefined_own kind place values None = refl
  undefined_own kind place values (Some declaration) =
      answered_own kind place _ (prim_own (layout scene.program) world.memory world.input world.output declaration.name declaration.kind values)

  called_own : (kind : CType) (place : Place) (values : List Value) (d : ℕ) (o : Option Definition) → MoveOwn (called scene world kind place values d o)
  called_own kind place values d (Some definition) = tt
  called_own kind place values d None = undefined_own kind place values (declaration_of scene.program d)

  call_own : (kind : CType) (place : Place) (values : List Value) (o : Option ℕ) → MoveOwn (call_step scene world kind place values o)
  call_own kind place values None = refl
  call_own kind place values (Some d) = called_own kind place values d (definition_of scene.program d)

  tested_own : (place : Place) (operands : List Operand) (next : Bool → Run) → MoveOwn (on_operand place operands (λ a. by_truth world place (truth_of world.memory (value_of a.result)) next))
  tested_own place operands next = on_operand_own place operands _ (λ a. by_truth_own world place _ next (truth_own world.memory (value_of a.result)))

  form_own : (label : Label) (kind : CType) (place : Place) (runs : Runs) (operands : List Operand) → MoveOwn (form_step scene world locks label kind place runs operands)
  form_own both kind place runs operands = tested_own place operands (both_chosen kind place runs)
  form_own either kind place runs operands = tested_own place operands (either_chosen kind place runs)
  form_own choose kind place runs operands = tested_own place operands (operand_chosen kind place runs)
  form_own comma kind place runs operands = tt
  form_own call kind place runs operands = call_own kind place (map (λ (a : Operand). value_of a.result) operands) (function_named (nth_run 0 runs))
  form_own sizeof_tree kind place runs operands = as_move_own kind place [] _ (alone_own world kind _)
  form_own label kind place runs operands = as_move_own kind place (locks_in_all runs) (operate scene world locks label kind operands) (operate_own scene world locks label kind operands)

  node_own : (doing : Doing) (kind : CType) (place : Place) (runs : Runs) (operands : List Operand) → MoveOwn (node_step scene world locks doing kind place runs operands)
  node_own (evaluates label) kind place runs operands = form_own label kind place runs operands
  node_own gives_truth kind place runs operands = tested_own place operands _
  node_own gives_value kind place runs operands = on_operand_own place operands _ (λ a. tt)

  abbrev AllOwn : {T H : Type 0} → List (Move T H) → Type 0
  AllOwn {T} {H} steps = (move : Move T H) → IsAmong move steps → MoveOwn move

  all_lifted : {T H U G : Type 0} (tree : T → U) (hole : H → G) (steps : List (Move T H)) → AllOwn steps → AllOwn (map (lifted tree hole) steps)
  all_lifted tree hole steps h move e =
      let from = among-map_from (lifted tree hole) move steps e in
      subst MoveOwn (sym from.2) (lifted_own tree hole from.0 (h from.0 from.1))

  own_or_inner_own : (o : Option (List Operand)) (own : List Operand → Move Run Hole) (inner : List (Move Run Hole)) → ((operands : List Operand) → MoveOwn (own operands)) → AllOwn inner
      → AllOwn (own_or_inner o own inner)
  own_or_inner_own (Some operands) own inner h k move (inl e) = subst MoveOwn (sym e) (h operands)
  own_or_inner_own (Some operands) own inner h k move (inr e) = absurd e
  own_or_inner_own None own inner h k move e = k move e

  where_open_own : (b : Bool) (steps : List (Move Runs Holes)) → AllOwn steps → AllOwn (where_open b steps)
  where_open_own true steps h move e = h move e
  where_open_own false steps h move e = absurd e

  joined_own : (xs ys : List (Move Runs Holes)) → AllOwn xs → AllOwn ys → AllOwn (xs ++ ys)
  joined_own xs ys h k move e = pick (among_either move xs ys e)
    where
      pick : IsAmong move xs ⊎ IsAmong move ys → MoveOwn move
      pick (inl a) = h move a
      pick (inr b) = k move b

  mutual
    -- no step of a tree under evaluation has the cause `novalue`
    moves_own : (run : Run) → AllOwn (moves scene world locks run)
    moves_own (done kind result own) move e = absurd e
    moves_own (to_do doing kind place runs) move e =
        own_or_inner_own (operands_in (open_parts doing) runs) (node_step scene world locks doing kind place runs) _ (node_own doing kind place runs)
        (all_lifted (to_do doing kind place) (within doing kind place) (moves_in scene world locks (open_parts doing) runs) (moves_in_own (open_parts doing) runs)) move e

    moves_in_own : (opens : Open) (runs : Runs) → AllOwn (moves_in scene world locks opens runs)
    moves_in_own opens no_runs move e = absurd e
    moves_in_own opens (more_runs first rest) move e =
        joined_own _ _
        (where_open_own (first_open opens) _ (all_lifted (λ run. more_runs run rest) (λ hole. in_first hole rest) (moves scene world locks first) (moves_own first)))
        (all_lifted (more_runs first) (in_others first) (moves_in scene world locks (others_open opens) rest) (moves_in_own (others_open opens) rest)) move e

  pub moves_have_values : (run : Run) (cause : Cause) (place : Place) → IsAmong (fails cause place) (moves scene world locks run) → cause ≡ NoValue → ⊥
  moves_have_values run cause place e same = apart (subst IsOwn same (moves_own run (fails cause place) e))
    where
      apart : IsOwn NoValue → ⊥
      apart h = absurd (cc)

-- where the truth of a value can't be told, the cause is another one
pub truth_apart_from : (memory : Memory) (value : Value) (cause : Cause) → truth_of memory value ≡ untold cause → cause ≡ NoValue → ⊥
truth_apart_from memory value cause e same = apart (subst IsOwn same (subst TruthOwn e (truth_own memory value)))
  where
    apart : IsOwn NoValue → ⊥
    apart h = absurd (cc)
