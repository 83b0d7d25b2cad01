-- A step of a node in a world with more objects, beside fewer locks, is the same step, unless it is undefined in the smaller world.
use Rattle.std.specs.Prelude.{◌≡◌, refl, ℕ, ◌==◌, Bool, true, false, not, ◌&&◌, ◌||◌, List, [], ◌∷◌, ◌++◌, Option, Some, None, option_map, is_none, Result as Outcome, Ok, Err, ℤ, pos, neg_ℤ, if◌then◌else◌}
use Rattle.std.proofs.Common.{arith, ap, sym, ◌∙◌, subst, inl, inr}
use Rattle.dm_int.specs.declared.Fault.{Fault}
use Rattle.dm_int.specs.declared.Kind.TheVariants.{Long}
use Rattle.dm_int.specs.declared.Op.{Op}
use Rattle.dm_int.specs.declared.Op.TheVariants.{Add, Sub, Mul, Div, Rem, Shl, Shr, Less, Greater, LessEq, GreaterEq, Equal, NotEqual, And, Xor, Or}
use Rattle.dm_int.specs.Operators as operators
use Rattle.dm_type.specs.CTypes.{CType, void, integer, pointer, array, struct, function as function_type, const, bare}
use Rattle.dm_tree.specs.declared.tree.Sign.{Sign}
use Rattle.dm_tree.specs.declared.tree.Sign.TheVariants.{Plus, Minus, Complement, Not}
use Rattle.dm_tree.specs.Trees.{Label, number, enumerator, literal, object, function, read, decay, convert, address, follow, member, unary, binary, store, update, count, sizeof_kind}
use Rattle.dm_tree.specs.Evaluation.{is_true, unary_value, is_right}
use Rattle.dm_meaning.specs.declared.cause.Cause.{Cause}
use Rattle.dm_meaning.specs.declared.cause.Cause.TheVariants.{Conflict, Null, Bounds, Pointer as Order, Life, Unset, OtherType, Const}
use Rattle.dm_meaning.specs.Among.{IsAmong}
use Rattle.dm_meaning.specs.Values.{Name, numbered, literal_of, elsewhere, part, Path, At, Pointer, null, to, Value, integer_value, pointer_value, parts as compound, unset, overlaps, overlaps_any, with_part, same_name, part_value}
use Rattle.dm_meaning.specs.Objects.{Layout}
use Rattle.dm_meaning.specs.Memory.{Memory, Block, look_up, look, changed_block, written, reached_in, value_in, or_unset, contents_at, lives, may_be_written}
use Rattle.dm_meaning.specs.Programs.{layout}
use Rattle.dm_meaning.specs.Causes.{earliest, when, is_outside, is_other, is_fixed, is_unset, is_unset_object, absence_causes, access_causes, entry_causes, read_causes, store_causes, update_causes, is_null, use_causes, follow_causes, path_moved, pointer_along, moved_pointer, moved_causes, distance_in, pointer_distance, distance_causes, in_one_object, order_causes}
use Rattle.dm_meaning.specs.Operations.{Result, of_value, designates, Operand, World, Scene, Did, gives, unless, plain, typed, faulted, on_one, on_two, on_value, on_set, ill, on_place, object_named, designated, part_of, read_at, followed, member_of, decayed, truth_in, converted, convert_bare, told, truth_of, on_truth, signed, or_null, pointer_plus, or_zero, pointer_minus, byte_in_block, byte_at, equal_pointers, ordered, equated, on_pointers, on_move, on_plus, combined, store_at, Made, made_pointer, updated, counted, move_of, replace_at, operate, provided, is_of_kind, number_alone, on_target, pointer_further}
use Rattle.dm_meaning.proofs.OptionLemmas.{mapped_some}
use Rattle.dm_meaning.specs.Extending.{HasAll, Extends, AreAmong, SameUnlessUndefined}

-- ---- causes that aren't there

pub nil_left : {A : Type 0} (xs ys : List A) → xs ++ ys ≡ [] → xs ≡ []
nil_left [] ys e = refl
nil_left (x ∷ xs) ys e = absurd (cc)

pub nil_right : {A : Type 0} (xs ys : List A) → xs ++ ys ≡ [] → ys ≡ []
nil_right [] ys e = e
nil_right (x ∷ xs) ys e = absurd (cc)

pub when_false : (cause : Cause) (b : Bool) → when cause b ≡ [] → b ≡ false
when_false cause true e = absurd (cc)
when_false cause false e = refl

or_left : (a b : Bool) → (a || b) ≡ false → a ≡ false
or_left true b e = e
or_left false b e = refl

or_right : (a b : Bool) → (a || b) ≡ false → b ≡ false
or_right true b e = absurd (cc)
or_right false b e = e

-- a place that overlaps none of the locks overlaps none of fewer
none_of : (at : At) (locks : List At) → overlaps_any at locks ≡ false → (lock : At) → IsAmong lock locks → overlaps at lock ≡ false
none_of at [] e lock h = absurd h
none_of at (l ∷ ls) e lock (inl k) = ap (overlaps at) k ∙ or_left (overlaps at l) (overlaps_any at ls) e
none_of at (l ∷ ls) e lock (inr k) = none_of at ls (or_right (overlaps at l) (overlaps_any at ls) e) lock k

all_none : (at : At) (locks : List At) → ((lock : At) → IsAmong lock locks → overlaps at lock ≡ false) → overlaps_any at locks ≡ false
all_none at [] h = refl
all_none at (l ∷ ls) h = ap (λ b. b || overlaps_any at ls) (h l (inl refl)) ∙ all_none at ls (λ lock k. h lock (inr k))

fewer_none : (at : At) (locks fewer : List At) → AreAmong fewer locks → overlaps_any at locks ≡ false → overlaps_any at fewer ≡ false
fewer_none at locks fewer among e = all_none at fewer (λ lock h. none_of at locks e lock (among lock h))

-- ---- steps that are undefined where there are causes

unless_same : (causes others : List Cause) (did other : Did) → (causes ≡ [] → (others ≡ []) × SameUnlessUndefined did other) → SameUnlessUndefined (unless causes did) (unless others other)
unless_same [] others did other h = subst (λ cs. SameUnlessUndefined did (unless cs other)) (sym (h refl).0) (h refl).1
unless_same (cause ∷ causes) others did other h = tt

faulted_same : (r : Outcome ℤ Fault) (next other : ℤ → Did) → ((z : ℤ) → SameUnlessUndefined (next z) (other z)) → SameUnlessUndefined (faulted r next) (faulted r other)
faulted_same (Ok z) next other h = h z
faulted_same (Err fault) next other h = tt

one_same : (operands : List Operand) (next other : Operand → Did) → ((a : Operand) → SameUnlessUndefined (next a) (other a)) → SameUnlessUndefined (on_one operands next) (on_one operands other)
one_same [] next other h = tt
one_same (a ∷ []) next other h = h a
one_same (a ∷ b ∷ rest) next other h = tt

two_same : (operands : List Operand) (next other : Operand → Operand → Did) → ((a b : Operand) → SameUnlessUndefined (next a b) (other a b)) → SameUnlessUndefined (on_two operands next) (on_two operands other)
two_same [] next other h = tt
two_same (a ∷ []) next other h = tt
two_same (a ∷ b ∷ []) next other h = h a b
two_same (a ∷ b ∷ c ∷ rest) next other h = tt

value_same : (result : Result) (next other : Value → Did) → ((v : Value) → SameUnlessUndefined (next v) (other v)) → SameUnlessUndefined (on_value result next) (on_value result other)
value_same (of_value v) next other h = h v
value_same (designates at) next other h = tt

same_unless_ill : (b : Bool) (did other : Did) → SameUnlessUndefined did other → SameUnlessUndefined (if b then ill else did) (if b then ill else other)
same_unless_ill true did other h = tt
same_unless_ill false did other h = h

set_same : (result : Result) (next other : Value → Did) → ((v : Value) → SameUnlessUndefined (next v) (other v)) → SameUnlessUndefined (on_set result next) (on_set result other)
set_same (of_value v) next other h = same_unless_ill (is_unset v) (next v) (other v) (h v)
set_same (designates at) next other h = tt

place_same : (result : Result) (next other : At → Did) → ((at : At) → SameUnlessUndefined (next at) (other at)) → SameUnlessUndefined (on_place result next) (on_place result other)
place_same (of_value v) next other h = tt
place_same (designates at) next other h = h at

-- ---- memory

pub same_object : (memory more : Memory) → HasAll more memory → (name : Name) → absence_causes memory name ≡ [] → look more name ≡ look memory name
same_object memory more has (numbered n) e = present (look_up memory n) refl (when_false Life (not (lives (look_up memory n))) e)
  where
    present : (o : Option Block) → look_up memory n ≡ o → not (lives (look_up memory n)) ≡ false → look_up more n ≡ look_up memory n
    present None k l = absurd (cc (ap (λ x. not (lives x)) k))
    present (Some block) k l = has n block k ∙ sym k
same_object memory more has (literal_of bytes unit) e = refl
same_object memory more has (elsewhere identifier) e = absurd (cc)

pub same_absence : (memory more : Memory) (name : Name) → look more name ≡ look memory name → absence_causes more name ≡ absence_causes memory name
same_absence memory more (numbered n) e = ap (λ o. when Life (not (lives o))) e
same_absence memory more (literal_of bytes unit) e = refl
same_absence memory more (elsewhere identifier) e = refl

-- what an access asks of an object
abbrev asks : Layout → List At → CType → At → Option Block → List Cause → List Cause
asks layout locks kind at block absent =
    when Conflict (overlaps_any at locks) ++ when Bounds (is_outside (reached_in layout at.path block)) ++ absent ++ when OtherType (is_other kind (reached_in layout at.path block))

pub access_absence : (layout : Layout) (memory : Memory) (locks : List At) (kind : CType) (at : At) → access_causes layout memory locks kind at ≡ [] → absence_causes memory at.name ≡ []
access_absence layout memory locks kind at e =
    let reached = reached_in layout at.path (look memory at.name) in
    let first = when Conflict (overlaps_any at locks) ++ when Bounds (is_outside reached) in
    let absent = absence_causes memory at.name in
    nil_right first absent (nil_left (first ++ absent) (when OtherType (is_other kind reached)) e)

access_conflict : (layout : Layout) (memory : Memory) (locks : List At) (kind : CType) (at : At) → access_causes layout memory locks kind at ≡ [] → overlaps_any at locks ≡ false
access_conflict layout memory locks kind at e =
    let reached = reached_in layout at.path (look memory at.name) in
    let conflict = when Conflict (overlaps_any at locks) in
    let bounds = when Bounds (is_outside reached) in
    let absent = absence_causes memory at.name in
    when_false Conflict (overlaps_any at locks)
    (nil_left conflict bounds (nil_left (conflict ++ bounds) absent (nil_left (conflict ++ bounds ++ absent) (when OtherType (is_other kind reached)) e)))

access_same : (layout : Layout) (memory more : Memory) (locks fewer : List At) (kind : CType) (at : At) → HasAll more memory → AreAmong fewer locks
    → access_causes layout memory locks kind at ≡ [] → access_causes layout more fewer kind at ≡ []
access_same layout memory more locks fewer kind at has among e =
    let absent = access_absence layout memory locks kind at e in
    let same = same_object memory more has at.name absent in
    let free = access_conflict layout memory locks kind at e in
    ap (λ o. asks layout fewer kind at o (absence_causes more at.name)) same
    ∙ ap (asks layout fewer kind at (look memory at.name)) (same_absence memory more at.name same)
    ∙ ap (λ b. when Conflict b ++ when Bounds (is_outside (reached_in layout at.path (look memory at.name))) ++ absence_causes memory at.name ++ when OtherType (is_other kind (reached_in layout at.path (look memory at.name)))) (fewer_none at locks fewer among free ∙ sym free)
    ∙ e

entry_causes_same : (layout : Layout) (memory more : Memory) (kind : CType) (at : At) → HasAll more memory
    → entry_causes layout memory kind at ≡ [] → entry_causes layout more kind at ≡ []
entry_causes_same layout memory more kind at has e =
    let other = when OtherType (is_other kind (reached_in layout at.path (look memory at.name))) in
    let same = same_object memory more has at.name (nil_left (absence_causes memory at.name) other e) in
    ap (λ o. absence_causes more at.name ++ when OtherType (is_other kind (reached_in layout at.path o))) same
    ∙ ap (λ l. l ++ other) (same_absence memory more at.name same)
    ∙ e

pub same_contents : (memory more : Memory) (at : At) → look more at.name ≡ look memory at.name → contents_at more at ≡ contents_at memory at
same_contents memory more at e = ap (λ o. or_unset (value_in at.path o)) e

pub read_same : (layout : Layout) (memory more : Memory) (locks fewer : List At) (kind : CType) (at : At) → HasAll more memory → AreAmong fewer locks
    → read_causes layout memory locks kind at ≡ [] → (read_causes layout more fewer kind at ≡ []) × (look more at.name ≡ look memory at.name)
read_same layout memory more locks fewer kind at has among e =
    let unset_causes = when Unset (is_unset_object (contents_at memory at) (reached_in layout at.path (look memory at.name))) in
    let access = nil_left (access_causes layout memory locks kind at) unset_causes e in
    let same = same_object memory more has at.name (access_absence layout memory locks kind at access) in (
      ap (λ l. l ++ when Unset (is_unset_object (contents_at more at) (reached_in layout at.path (look more at.name)))) (access_same layout memory more locks fewer kind at has among access)
          ∙ ap (λ o. when Unset (is_unset_object (or_unset (value_in at.path o)) (reached_in layout at.path o))) same
          ∙ nil_right (access_causes layout memory locks kind at) unset_causes e,
      same,
    )

pub store_same : (layout : Layout) (memory more : Memory) (locks fewer : List At) (kind : CType) (at : At) → HasAll more memory → AreAmong fewer locks
    → store_causes layout memory locks kind at ≡ [] → store_causes layout more fewer kind at ≡ []
store_same layout memory more locks fewer kind at has among e =
    let const_causes = when Const (is_fixed (reached_in layout at.path (look memory at.name)) || not (may_be_written (look memory at.name))) in
    let access = nil_left (access_causes layout memory locks kind at) const_causes e in
    let same = same_object memory more has at.name (access_absence layout memory locks kind at access) in
    ap (λ l. l ++ when Const (is_fixed (reached_in layout at.path (look more at.name)) || not (may_be_written (look more at.name)))) (access_same layout memory more locks fewer kind at has among access)
    ∙ ap (λ o. when Const (is_fixed (reached_in layout at.path o) || not (may_be_written o))) same
    ∙ nil_right (access_causes layout memory locks kind at) const_causes e

-- an object after a change of one
pub look_changed : (n : ℕ) (change : Block → Block) (memory : Memory) (m : ℕ) → look_up (changed_block n change memory) m ≡ option_map (λ block. if m == n then change block else block) (look_up memory m)
look_changed n change [] m = refl
look_changed n change (entry ∷ entries) m = by_case (entry.0 == m) refl (look_changed n change entries m)
  where
    equal_of : (a b : ℕ) → (a == b) ≡ true → a ≡ b
    equal_of a b e = grind arith

    by_case : (b : Bool) → (entry.0 == m) ≡ b
        → look_up (changed_block n change entries) m ≡ option_map (λ block. if m == n then change block else block) (look_up entries m)
        → (if entry.0 == m then Some (if entry.0 == n then change entry.1 else entry.1) else look_up (changed_block n change entries) m)
        ≡ option_map (λ block. if m == n then change block else block) (if entry.0 == m then Some entry.1 else look_up entries m)
    by_case true e rest =
        ap (λ b. if b then Some (if entry.0 == n then change entry.1 else entry.1) else look_up (changed_block n change entries) m) e
        ∙ ap (λ k. Some (if k == n then change entry.1 else entry.1)) (equal_of entry.0 m e)
        ∙ sym (ap (λ b. option_map (λ block. if m == n then change block else block) (if b then Some entry.1 else look_up entries m)) e)
    by_case false e rest =
        ap (λ b. if b then Some (if entry.0 == n then change entry.1 else entry.1) else look_up (changed_block n change entries) m) e
        ∙ rest
        ∙ sym (ap (λ b. option_map (λ block. if m == n then change block else block) (if b then Some entry.1 else look_up entries m)) e)

pub has_changed : (n : ℕ) (change : Block → Block) (memory more : Memory) → HasAll more memory → HasAll (changed_block n change more) (changed_block n change memory)
has_changed n change memory more has m block e =
    let found = mapped_some (λ b. if m == n then change b else b) (look_up memory m) block (sym (look_changed n change memory m) ∙ e) in
    look_changed n change more m ∙ ap (option_map (λ b. if m == n then change b else b)) (has m found.0 found.1) ∙ ap Some found.2

pub has_written : (name : Name) (path : Path) (value : Value) (memory more : Memory) → HasAll more memory
    → HasAll (written more (record { name = name; path = path }) value) (written memory (record { name = name; path = path }) value)
has_written (numbered n) path value memory more has = has_changed n (λ block. record block { contents = with_part path value block.contents }) memory more has
has_written (literal_of bytes unit) path value memory more has = has
has_written (elsewhere identifier) path value memory more has = has

-- ---- the steps of nodes

module _ (scene : Scene) (world more : World) (extends : Extends more world) (locks fewer : List At) (among : AreAmong fewer locks) where
  plain_same : (value : Value) → SameUnlessUndefined (plain world value) (plain more value)
  plain_same value = (extends, refl, refl)

  provided_same : (b : Bool) (did other : Did) → SameUnlessUndefined did other → SameUnlessUndefined (provided b did) (provided b other)
  provided_same true did other h = h
  provided_same false did other h = tt

  number_same : (kind : CType) (z : ℤ) → SameUnlessUndefined (number_alone world kind z) (number_alone more kind z)
  number_same kind z = provided_same (is_of_kind (typed kind z)) (plain world (typed kind z)) (plain more (typed kind z)) (plain_same (typed kind z))

  gives_same : (result : Result) (new : List At) → SameUnlessUndefined (gives world result new) (gives more result new)
  gives_same result new = (extends, refl, refl)

  -- values that depend on memory are the same where they are
  plain_equal : (value other : Value) → value ≡ other → SameUnlessUndefined (plain world value) (plain more other)
  plain_equal value other e = (extends, ap of_value e, refl)

  use_same : (p : Pointer) → use_causes world.memory p ≡ [] → use_causes more.memory p ≡ []
  use_same null e = refl
  use_same (to at) e = same_absence world.memory more.memory at.name (same_object world.memory more.memory extends.0 at.name e) ∙ e

  looks_same : (at : At) → use_causes world.memory (to at) ≡ [] → look more.memory at.name ≡ look world.memory at.name
  looks_same at e = same_object world.memory more.memory extends.0 at.name e

  read_at_same : (kind : CType) (at : At) → SameUnlessUndefined (read_at scene world locks kind at) (read_at scene more fewer kind at)
  read_at_same kind at =
      unless_same (read_causes (layout scene.program) world.memory locks kind at) (read_causes (layout scene.program) more.memory fewer kind at) (plain world (contents_at world.memory at)) (plain more (contents_at more.memory at)) (λ e.
      let same = read_same (layout scene.program) world.memory more.memory locks fewer kind at extends.0 among e in
      (same.0, plain_equal _ _ (sym (same_contents world.memory more.memory at same.1))))

  followed_same : (value : Value) → SameUnlessUndefined (followed world value) (followed more value)
  followed_same (pointer_value null) = tt
  followed_same (pointer_value (to at)) =
      unless_same (follow_causes world.memory (to at)) (follow_causes more.memory (to at)) (gives world (designates at) []) (gives more (designates at) []) (λ e. (use_same (to at) e, gives_same (designates at) []))
  followed_same (integer_value kind z) = tt
  followed_same (compound all) = tt
  followed_same unset = tt

  member_same : (n : ℕ) (kind : CType) (result : Result) → SameUnlessUndefined (member_of scene world n kind result) (member_of scene more n kind result)
  member_same n kind (of_value value) =
      let inner = or_unset (part_value value (part n ∷ [])) in
      unless_same (when Unset (is_unset inner)) (when Unset (is_unset inner)) (plain world inner) (plain more inner) (λ e. (e, plain_same inner))
  member_same n kind (designates at) =
      let result = designates (part_of at n) in
      unless_same (entry_causes (layout scene.program) world.memory kind at) (entry_causes (layout scene.program) more.memory kind at) (gives world result []) (gives more result [])
      (λ e. (entry_causes_same (layout scene.program) world.memory more.memory kind at extends.0 e, gives_same result []))

  decayed_same : (kind : CType) (at : At) → SameUnlessUndefined (decayed scene world kind at) (decayed scene more kind at)
  decayed_same kind at =
      let value = pointer_value (to (part_of at 0)) in
      unless_same (entry_causes (layout scene.program) world.memory kind at) (entry_causes (layout scene.program) more.memory kind at) (plain world value) (plain more value)
      (λ e. (entry_causes_same (layout scene.program) world.memory more.memory kind at extends.0 e, plain_same value))

  converted_same : (kind : CType) (value : Value) → SameUnlessUndefined (converted world kind value) (converted more kind value)
  converted_same (integer kind) (integer_value other z) = plain_same _
  converted_same (integer kind) (pointer_value p) =
      let value = integer_value kind (operators.truth (not (is_null p))) in
      unless_same (use_causes world.memory p) (use_causes more.memory p) (plain world value) (plain more value) (λ e. (use_same p e, plain_same value))
  converted_same (integer kind) (compound all) = plain_same _
  converted_same (integer kind) unset = plain_same _
  converted_same (pointer target) (pointer_value p) =
      unless_same (use_causes world.memory p) (use_causes more.memory p) (plain world (pointer_value p)) (plain more (pointer_value p)) (λ e. (use_same p e, plain_same (pointer_value p)))
  converted_same (pointer target) (integer_value kind z) = plain_same _
  converted_same (pointer target) (compound all) = plain_same _
  converted_same (pointer target) unset = plain_same _
  converted_same void value = plain_same _
  converted_same (array element known) value = plain_same _
  converted_same (struct n) value = plain_same _
  converted_same (function_type result parameters) value = plain_same _
  converted_same (const type) value = plain_same _

  convert_same : (kind : CType) (result : Result) → SameUnlessUndefined (convert_bare world kind result) (convert_bare more kind result)
  convert_same void result = plain_same _
  convert_same (integer kind) result = set_same result _ _ (converted_same (integer kind))
  convert_same (pointer target) result = set_same result _ _ (converted_same (pointer target))
  convert_same (array element known) result = set_same result _ _ (converted_same (array element known))
  convert_same (struct n) result = set_same result _ _ (converted_same (struct n))
  convert_same (function_type other parameters) result = set_same result _ _ (converted_same (function_type other parameters))
  convert_same (const type) result = set_same result _ _ (converted_same (const type))

  -- a truth that is told stays, whatever it decides
  told_same : (causes others : List Cause) (truth : Bool) (next other : Bool → Did) → (causes ≡ [] → others ≡ []) → ((b : Bool) → SameUnlessUndefined (next b) (other b))
      → SameUnlessUndefined (on_truth (told (earliest causes) truth) next) (on_truth (told (earliest others) truth) other)
  told_same [] others truth next other h k = subst (λ cs. SameUnlessUndefined (next truth) (on_truth (told (earliest cs) truth) other)) (sym (h refl)) (k truth)
  told_same (cause ∷ causes) others truth next other h k = tt

  truth_same : (value : Value) (next other : Bool → Did) → ((b : Bool) → SameUnlessUndefined (next b) (other b)) → SameUnlessUndefined (on_truth (truth_of world.memory value) next) (on_truth (truth_of more.memory value) other)
  truth_same (integer_value kind z) next other h = h (is_true z)
  truth_same (pointer_value p) next other h = told_same (use_causes world.memory p) (use_causes more.memory p) (not (is_null p)) next other (use_same p) h
  truth_same (compound all) next other h = tt
  truth_same unset next other h = tt

  signed_same : (kind : CType) (sign : Sign) (value : Value) → SameUnlessUndefined (signed world kind sign value) (signed more kind sign value)
  signed_same kind Not value = truth_same value (λ b. plain world (truth_in kind (not b))) (λ b. plain more (truth_in kind (not b))) (λ b. plain_same (truth_in kind (not b)))
  signed_same kind Plus (integer_value other z) = faulted_same (unary_value Plus other z) (number_alone world kind) (number_alone more kind) (number_same kind)
  signed_same kind Minus (integer_value other z) = faulted_same (unary_value Minus other z) (number_alone world kind) (number_alone more kind) (number_same kind)
  signed_same kind Complement (integer_value other z) = faulted_same (unary_value Complement other z) (number_alone world kind) (number_alone more kind) (number_same kind)
  signed_same kind Plus (pointer_value p) = tt
  signed_same kind Minus (pointer_value p) = tt
  signed_same kind Complement (pointer_value p) = tt
  signed_same kind Plus (compound all) = tt
  signed_same kind Minus (compound all) = tt
  signed_same kind Complement (compound all) = tt
  signed_same kind Plus unset = tt
  signed_same kind Minus unset = tt
  signed_same kind Complement unset = tt

  -- ---- pointers

  moved_same : (target : CType) (p : Pointer) (n : ℤ) → use_causes world.memory p ≡ [] → moved_pointer (layout scene.program) more.memory target p n ≡ moved_pointer (layout scene.program) world.memory target p n
  moved_same target null n e = refl
  moved_same target (to at) n e = ap (λ o. pointer_along at.name (path_moved (layout scene.program) o target at.path n)) (looks_same at e)

  moved_causes_same : (target : CType) (p : Pointer) (n : ℤ) → moved_causes (layout scene.program) world.memory target p n ≡ []
      → (moved_causes (layout scene.program) more.memory target p n ≡ []) × (moved_pointer (layout scene.program) more.memory target p n ≡ moved_pointer (layout scene.program) world.memory target p n)
  moved_causes_same target p n e =
      let nulls = when Null (is_null p && not (operators.int_eq n (pos 0))) in
      let outside = when Bounds (is_none (moved_pointer (layout scene.program) world.memory target p n)) in
      let used = nil_right (nulls ++ outside) (use_causes world.memory p) e in
      let same = moved_same target p n used in (
        ap (λ o. when Null (is_null p && not (operators.int_eq n (pos 0))) ++ when Bounds (is_none o) ++ use_causes more.memory p) same
            ∙ ap (λ u. when Null (is_null p && not (operators.int_eq n (pos 0))) ++ when Bounds (is_none (moved_pointer (layout scene.program) world.memory target p n)) ++ u) (use_same p used ∙ sym used)
            ∙ e,
        same,
      )

  further_same : (target : CType) (p : Pointer) (n : ℤ) → SameUnlessUndefined (pointer_further scene world target p n) (pointer_further scene more target p n)
  further_same target p n =
      unless_same (moved_causes (layout scene.program) world.memory target p n) (moved_causes (layout scene.program) more.memory target p n)
      (plain world (pointer_value (or_null (moved_pointer (layout scene.program) world.memory target p n)))) (plain more (pointer_value (or_null (moved_pointer (layout scene.program) more.memory target p n)))) (λ e.
      let same = moved_causes_same target p n e in
      (same.0, plain_equal _ _ (sym (ap (λ o. pointer_value (or_null o)) same.1))))

  target_same : (kind : CType) (next other : CType → Did) → ((target : CType) → SameUnlessUndefined (next target) (other target)) → SameUnlessUndefined (on_target kind next) (on_target kind other)
  target_same (pointer target) next other h = h target
  target_same kind next other h = tt

  plus_same : (kind : CType) (p : Pointer) (n : ℤ) → SameUnlessUndefined (pointer_plus scene world kind p n) (pointer_plus scene more kind p n)
  plus_same kind p n = target_same kind (λ target. pointer_further scene world target p n) (λ target. pointer_further scene more target p n) (λ target. further_same target p n)

  distance_same : (target : CType) (a b : Pointer) → use_causes world.memory a ≡ [] → pointer_distance (layout scene.program) more.memory target a b ≡ pointer_distance (layout scene.program) world.memory target a b
  distance_same target null b e = refl
  distance_same target (to a) null e = refl
  distance_same target (to a) (to b) e = ap (λ o. if same_name a.name b.name then distance_in (layout scene.program) target a.path b.path o else None) (looks_same a e)

  minus_same : (kind target : CType) (a b : Pointer) → SameUnlessUndefined (pointer_minus scene world kind target a b) (pointer_minus scene more kind target a b)
  minus_same kind target a b =
      unless_same (distance_causes (layout scene.program) world.memory target a b) (distance_causes (layout scene.program) more.memory target a b)
      (number_alone world kind (or_zero (pointer_distance (layout scene.program) world.memory target a b))) (number_alone more kind (or_zero (pointer_distance (layout scene.program) more.memory target a b))) (λ e.
      let nulls = when Null (is_null a || is_null b) in
      let apart = when Order (is_none (pointer_distance (layout scene.program) world.memory target a b)) in
      let used_b = nil_right (nulls ++ apart ++ use_causes world.memory a) (use_causes world.memory b) e in
      let used_a = nil_right (nulls ++ apart) (use_causes world.memory a) (nil_left (nulls ++ apart ++ use_causes world.memory a) (use_causes world.memory b) e) in
      let same = distance_same target a b used_a in (
        ap (λ o. when Null (is_null a || is_null b) ++ when Order (is_none o) ++ use_causes more.memory a ++ use_causes more.memory b) same
            ∙ ap (λ u. when Null (is_null a || is_null b) ++ when Order (is_none (pointer_distance (layout scene.program) world.memory target a b)) ++ u ++ use_causes more.memory b) (use_same a used_a ∙ sym used_a)
            ∙ ap (λ u. when Null (is_null a || is_null b) ++ when Order (is_none (pointer_distance (layout scene.program) world.memory target a b)) ++ use_causes world.memory a ++ u) (use_same b used_b ∙ sym used_b)
            ∙ e,
        subst (λ o. SameUnlessUndefined (number_alone world kind (or_zero (pointer_distance (layout scene.program) world.memory target a b))) (number_alone more kind (or_zero o))) (sym same) (number_same kind _),
      ))

  byte_same : (p : Pointer) → use_causes world.memory p ≡ [] → byte_at scene more p ≡ byte_at scene world p
  byte_same null e = refl
  byte_same (to at) e = ap (λ o. pos (byte_in_block (layout scene.program) at.path o)) (looks_same at e)

  ordered_same : (kind : CType) (op : Op) (a b : Pointer) → SameUnlessUndefined (ordered scene world kind op a b) (ordered scene more kind op a b)
  ordered_same kind op a b =
      unless_same (order_causes world.memory a b) (order_causes more.memory a b)
      (faulted (operators.binary op Long (byte_at scene world a) (byte_at scene world b)) (number_alone world kind))
      (faulted (operators.binary op Long (byte_at scene more a) (byte_at scene more b)) (number_alone more kind)) (λ e.
      let first = when Order (not (in_one_object a b)) in
      let used_b = nil_right (first ++ use_causes world.memory a) (use_causes world.memory b) e in
      let used_a = nil_right first (use_causes world.memory a) (nil_left (first ++ use_causes world.memory a) (use_causes world.memory b) e) in (
        ap (λ u. when Order (not (in_one_object a b)) ++ u ++ use_causes more.memory b) (use_same a used_a ∙ sym used_a)
            ∙ ap (λ u. when Order (not (in_one_object a b)) ++ use_causes world.memory a ++ u) (use_same b used_b ∙ sym used_b)
            ∙ e,
        subst (λ r. SameUnlessUndefined (faulted (operators.binary op Long (byte_at scene world a) (byte_at scene world b)) (number_alone world kind)) (faulted r (number_alone more kind)))
            (sym (ap (λ x. operators.binary op Long x (byte_at scene more b)) (byte_same a used_a) ∙ ap (λ y. operators.binary op Long (byte_at scene world a) y) (byte_same b used_b)))
            (faulted_same (operators.binary op Long (byte_at scene world a) (byte_at scene world b)) (number_alone world kind) (number_alone more kind) (number_same kind)),
      ))

  equal_same : (a b : Pointer) → use_causes world.memory a ≡ [] → use_causes world.memory b ≡ [] → equal_pointers scene more a b ≡ equal_pointers scene world a b
  equal_same null null e f = refl
  equal_same null (to b) e f = refl
  equal_same (to a) null e f = refl
  equal_same (to a) (to b) e f =
      ap (λ x. same_name a.name b.name && operators.int_eq x (byte_at scene more (to b))) (byte_same (to a) e)
      ∙ ap (λ y. same_name a.name b.name && operators.int_eq (byte_at scene world (to a)) y) (byte_same (to b) f)

  equated_same : (kind : CType) (sense : Bool → Bool) (a b : Pointer) → SameUnlessUndefined (equated scene world kind sense a b) (equated scene more kind sense a b)
  equated_same kind sense a b =
      unless_same (use_causes world.memory a ++ use_causes world.memory b) (use_causes more.memory a ++ use_causes more.memory b)
      (plain world (truth_in kind (sense (equal_pointers scene world a b)))) (plain more (truth_in kind (sense (equal_pointers scene more a b)))) (λ e.
      let used_a = nil_left (use_causes world.memory a) (use_causes world.memory b) e in
      let used_b = nil_right (use_causes world.memory a) (use_causes world.memory b) e in (
        ap (λ u. u ++ use_causes more.memory b) (use_same a used_a) ∙ use_same b used_b,
        plain_equal _ _ (sym (ap (λ b'. truth_in kind (sense b')) (equal_same a b used_a used_b))),
      ))

  pointers_same : (kind left : CType) (op : Op) (a b : Pointer) → SameUnlessUndefined (on_pointers scene world kind left op a b) (on_pointers scene more kind left op a b)
  pointers_same kind left Sub a b = target_same left _ _ (λ target. minus_same kind target a b)
  pointers_same kind left Less a b = ordered_same kind Less a b
  pointers_same kind left Greater a b = ordered_same kind Greater a b
  pointers_same kind left LessEq a b = ordered_same kind LessEq a b
  pointers_same kind left GreaterEq a b = ordered_same kind GreaterEq a b
  pointers_same kind left Equal a b = equated_same kind (λ truth. truth) a b
  pointers_same kind left NotEqual a b = equated_same kind not a b
  pointers_same kind left Add a b = tt
  pointers_same kind left Mul a b = tt
  pointers_same kind left Div a b = tt
  pointers_same kind left Rem a b = tt
  pointers_same kind left Shl a b = tt
  pointers_same kind left Shr a b = tt
  pointers_same kind left And a b = tt
  pointers_same kind left Xor a b = tt
  pointers_same kind left Or a b = tt

  move_same : (op : Op) (n : ℤ) (next other : ℤ → Did) → ((z : ℤ) → SameUnlessUndefined (next z) (other z)) → SameUnlessUndefined (on_move op n next) (on_move op n other)
  move_same Add n next other h = h n
  move_same Sub n next other h = h (neg_ℤ n)
  move_same op n next other h = tt

  on_plus_same : (op : Op) (did other : Did) → SameUnlessUndefined did other → SameUnlessUndefined (on_plus op did) (on_plus op other)
  on_plus_same Add did other h = h
  on_plus_same op did other h = tt

  combined_same : (kind left : CType) (op : Op) (a b : Value) → SameUnlessUndefined (combined scene world kind left op a b) (combined scene more kind left op a b)
  combined_same kind left op (integer_value j m) (integer_value k n) = provided_same (is_right op j n) _ _ (faulted_same (operators.binary op j m n) (number_alone world kind) (number_alone more kind) (number_same kind))
  combined_same kind left op (pointer_value p) (integer_value k n) = move_same op n (pointer_plus scene world kind p) (pointer_plus scene more kind p) (plus_same kind p)
  combined_same kind left op (integer_value j m) (pointer_value q) = on_plus_same op (pointer_plus scene world kind q m) (pointer_plus scene more kind q m) (plus_same kind q m)
  combined_same kind left op (pointer_value p) (pointer_value q) = pointers_same kind left op p q
  combined_same kind left op (integer_value j m) (compound all) = tt
  combined_same kind left op (integer_value j m) unset = tt
  combined_same kind left op (pointer_value p) (compound all) = tt
  combined_same kind left op (pointer_value p) unset = tt
  combined_same kind left op (compound all) b = tt
  combined_same kind left op unset b = tt

  -- ---- stores

  stored_same : (at : At) (value other : Value) (result : Result) → value ≡ other
      → SameUnlessUndefined (gives (record world { memory = written world.memory at value }) result (at ∷ [])) (gives (record more { memory = written more.memory at other }) result (at ∷ []))
  stored_same at value other result e =
      subst (λ v. SameUnlessUndefined (gives (record world { memory = written world.memory at value }) result (at ∷ [])) (gives (record more { memory = written more.memory at v }) result (at ∷ []))) e
      ((has_written at.name at.path value world.memory more.memory extends.0, extends.1, extends.2), refl, refl)

  store_at_same : (kind : CType) (at : At) (value : Value) → SameUnlessUndefined (store_at scene world locks kind at value) (store_at scene more fewer kind at value)
  store_at_same kind at value =
      unless_same (store_causes (layout scene.program) world.memory locks kind at) (store_causes (layout scene.program) more.memory fewer kind at)
      (gives (record world { memory = written world.memory at value }) (of_value value) (at ∷ [])) (gives (record more { memory = written more.memory at value }) (of_value value) (at ∷ []))
      (λ e. (store_same (layout scene.program) world.memory more.memory locks fewer kind at extends.0 among e, stored_same at value value (of_value value) refl))

  -- what an operator makes of an object's value, where nothing is undefined
  abbrev SameMade : Made → Made → Type 0
  SameMade made other = made.causes ≡ [] → (other.causes ≡ []) × (made.value ≡ other.value)

  made_pointer_same : (kind : CType) (p : Pointer) (n : ℤ) → SameMade (made_pointer scene world kind p n) (made_pointer scene more kind p n)
  made_pointer_same (pointer target) p n e =
      let same = moved_causes_same target p n e in
      (same.0, sym (ap (λ o. pointer_value (or_null o)) same.1))
  made_pointer_same kind p n e = (e, refl)

  updated_same : (kind : CType) (op : Op) (works : CType) (a b : Value) → SameMade (updated scene world kind op works a b) (updated scene more kind op works a b)
  updated_same kind op works (integer_value k m) (integer_value j n) = λ e. (e, refl)
  updated_same kind op works (pointer_value p) (integer_value j n) = made_pointer_same kind p (move_of op n)
  updated_same kind op works unset (integer_value j n) = λ e. (e, refl)
  updated_same kind op works (compound all) b = λ e. absurd (cc)
  updated_same kind op works (integer_value k m) (pointer_value q) = λ e. absurd (cc)
  updated_same kind op works (integer_value k m) (compound all) = λ e. absurd (cc)
  updated_same kind op works (integer_value k m) unset = λ e. absurd (cc)
  updated_same kind op works (pointer_value p) (pointer_value q) = λ e. absurd (cc)
  updated_same kind op works (pointer_value p) (compound all) = λ e. absurd (cc)
  updated_same kind op works (pointer_value p) unset = λ e. absurd (cc)
  updated_same kind op works unset (pointer_value q) = λ e. absurd (cc)
  updated_same kind op works unset (compound all) = λ e. absurd (cc)
  updated_same kind op works unset unset = λ e. absurd (cc)

  counted_same : (kind : CType) (plus : Bool) (a : Value) → SameMade (counted scene world kind plus a) (counted scene more kind plus a)
  counted_same kind plus (integer_value k m) = λ e. (e, refl)
  counted_same kind plus (pointer_value p) = made_pointer_same kind p (if plus then pos 1 else neg_ℤ (pos 1))
  counted_same kind plus unset = λ e. (e, refl)
  counted_same kind plus (compound all) = λ e. absurd (cc)

  -- an object is replaced by what is made of its contents
  replace_same : (kind : CType) (at : At) (make : World → Value → Made) → ((value : Value) → SameMade (make world value) (make more value))
      → (pick : Value → Value → Value)
      → SameUnlessUndefined
      (replace_at scene world locks kind at (make world (contents_at world.memory at)) (pick (make world (contents_at world.memory at)).value (contents_at world.memory at)))
      (replace_at scene more fewer kind at (make more (contents_at more.memory at)) (pick (make more (contents_at more.memory at)).value (contents_at more.memory at)))
  replace_same kind at make same pick =
      unless_same ((make world (contents_at world.memory at)).causes ++ update_causes (layout scene.program) world.memory locks kind at) ((make more (contents_at more.memory at)).causes ++ update_causes (layout scene.program) more.memory fewer kind at)
      (gives (record world { memory = written world.memory at (make world (contents_at world.memory at)).value }) (of_value (pick (make world (contents_at world.memory at)).value (contents_at world.memory at))) (at ∷ []))
      (gives (record more { memory = written more.memory at (make more (contents_at more.memory at)).value }) (of_value (pick (make more (contents_at more.memory at)).value (contents_at more.memory at))) (at ∷ []))
      (λ e.
      let made_here = nil_left (make world (contents_at world.memory at)).causes (update_causes (layout scene.program) world.memory locks kind at) e in
      let accesses = nil_right (make world (contents_at world.memory at)).causes (update_causes (layout scene.program) world.memory locks kind at) e in
      let readings = read_causes (layout scene.program) world.memory locks kind at in
      let storings = store_causes (layout scene.program) world.memory locks kind at in
      let reads = read_same (layout scene.program) world.memory more.memory locks fewer kind at extends.0 among (nil_left readings storings accesses) in
      let stores = store_same (layout scene.program) world.memory more.memory locks fewer kind at extends.0 among (nil_right readings storings accesses) in
      let contents = same_contents world.memory more.memory at reads.1 in
      let made = same (contents_at world.memory at) made_here in
      let value : (make world (contents_at world.memory at)).value ≡ (make more (contents_at more.memory at)).value = made.1 ∙ ap (λ c. (make more c).value) (sym contents) in (
        ap (λ c. (make more c).causes ++ update_causes (layout scene.program) more.memory fewer kind at) contents
            ∙ ap (λ l. l ++ update_causes (layout scene.program) more.memory fewer kind at) made.0
            ∙ ap (λ l. l ++ store_causes (layout scene.program) more.memory fewer kind at) reads.0
            ∙ stores,
        subst (λ r. SameUnlessUndefined (gives (record world { memory = written world.memory at (make world (contents_at world.memory at)).value }) (of_value (pick (make world (contents_at world.memory at)).value (contents_at world.memory at))) (at ∷ []))
            (gives (record more { memory = written more.memory at (make more (contents_at more.memory at)).value }) (of_value r) (at ∷ [])))
            (ap (λ v. pick v (contents_at world.memory at)) value ∙ ap (pick (make more (contents_at more.memory at)).value) (sym contents))
            (stored_same at (make world (contents_at world.memory at)).value (make more (contents_at more.memory at)).value (of_value (pick (make world (contents_at world.memory at)).value (contents_at world.memory at))) value),
      ))

  designated_same : (o : Option ℕ) → SameUnlessUndefined (designated world o) (designated more o)
  designated_same None = tt
  designated_same (Some n) = gives_same _ _

  -- The step of a node whose operands are evaluated is the same in both worlds, unless it is undefined in the smaller one.
  pub operate_same : (label : Label) (kind : CType) (operands : List Operand) → SameUnlessUndefined (operate scene world locks label kind operands) (operate scene more fewer label kind operands)
  operate_same (number z) kind operands = number_same kind z
  operate_same (enumerator d) kind operands = number_same kind _
  operate_same (literal bytes unit) kind operands = gives_same _ _
  operate_same (object d) kind operands = designated_same (object_named scene.objects d)
  operate_same (function d) kind operands = plain_same _
  operate_same read kind operands = one_same operands _ _ (λ a. place_same a.result _ _ (read_at_same kind))
  operate_same decay kind operands = one_same operands _ _ (λ a. place_same a.result _ _ (decayed_same a.kind))
  operate_same convert kind operands = one_same operands _ _ (λ a. convert_same (bare kind) a.result)
  operate_same address kind operands = one_same operands _ _ (λ a. place_same a.result _ _ (λ at. plain_same _))
  operate_same follow kind operands = one_same operands _ _ (λ a. value_same a.result _ _ followed_same)
  operate_same (member n) kind operands = one_same operands _ _ (λ a. member_same n a.kind a.result)
  operate_same (unary sign) kind operands = one_same operands _ _ (λ a. value_same a.result _ _ (signed_same kind sign))
  operate_same (binary op) kind operands = two_same operands _ _ (λ a b. value_same a.result _ _ (λ x. value_same b.result _ _ (combined_same kind a.kind op x)))
  operate_same store kind operands = two_same operands _ _ (λ a b. place_same a.result _ _ (λ at. set_same b.result _ _ (store_at_same kind at)))
  operate_same (update op works) kind operands =
      two_same operands _ _ (λ a b. place_same a.result _ _ (λ at. value_same b.result _ _ (λ v.
      replace_same kind at (λ w c. updated scene w kind op works c v) (λ c. updated_same kind op works c v) (λ made old. made))))
  operate_same (count plus before) kind operands =
      one_same operands _ _ (λ a. place_same a.result _ _ (λ at.
      replace_same kind at (λ w c. counted scene w kind plus c) (λ c. counted_same kind plus c) (λ made old. if before then made else old)))
  operate_same (sizeof_kind type) kind operands = number_same kind _
  operate_same label kind operands = tt
