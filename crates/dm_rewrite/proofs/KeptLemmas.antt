-- The step of a node that stores nothing, in another memory in which the objects that it uses have the same types and are alive, and what it
-- reads is the same.
use Rattle.std.specs.Prelude.{◌≡◌, refl, ℕ, Bool, true, false, not, ◌&&◌, ◌||◌, List, [], ◌∷◌, ◌++◌, Option, Some, None, is_none, Result as Outcome, Ok, Err, ℤ, pos, neg_ℤ, if◌then◌else◌}
use Rattle.std.proofs.Common.{true≢false, inl, ap, sym, ◌∙◌, subst}
use Rattle.dm_int.specs.declared.Fault.{Fault}
use Rattle.dm_int.specs.declared.Kind.TheVariants.{Long}
use Rattle.dm_int.specs.declared.Op.{Op}
use Rattle.dm_int.specs.declared.Op.TheVariants.{Add, Sub, Mul, Div, Rem, Shl, Shr, Less, Greater, LessEq, GreaterEq, Equal, NotEqual, And, Xor, Or}
use Rattle.dm_int.specs.Operators as operators
use Rattle.dm_type.specs.CTypes.{CType, void, integer, pointer, array, struct, function as function_type, const, bare}
use Rattle.dm_tree.specs.declared.tree.Sign.{Sign}
use Rattle.dm_tree.specs.declared.tree.Sign.TheVariants.{Plus, Minus, Complement, Not}
use Rattle.dm_tree.specs.Trees.{Label, number, enumerator, literal, object, function, read, decay, convert, address, follow, member, unary, binary, store, update, count, sizeof_kind}
use Rattle.dm_tree.specs.Evaluation.{is_true, unary_value, is_right}
use Rattle.dm_meaning.specs.declared.cause.Cause.{Cause}
use Rattle.dm_meaning.specs.declared.cause.Cause.TheVariants.{Conflict, Null, Bounds, Pointer as Order, Life, Unset, OtherType}
use Rattle.dm_meaning.specs.Values.{Name, numbered, literal_of, elsewhere, part, At, Pointer, null, to, Value, integer_value, pointer_value, parts as compound, unset, same_name, part_value}
use Rattle.dm_meaning.specs.Objects.{Layout}
use Rattle.dm_meaning.specs.Memory.{Memory, Block, look_up, look, reached_in, or_unset, contents_at, lives}
use Rattle.dm_meaning.specs.Programs.{layout}
use Rattle.dm_meaning.specs.Causes.{earliest, when, is_outside, is_other, is_unset, is_unset_object, absence_causes, access_causes, entry_causes, read_causes, is_null, use_causes, follow_causes, path_moved, pointer_along, moved_pointer, moved_causes, distance_in, pointer_distance, distance_causes, in_one_object, order_causes}
use Rattle.dm_meaning.specs.Operations.{gives, breaks, ends_with, Result, of_value, designates, Operand, World, Scene, Did, gives, unless, plain, typed, faulted, on_one, on_two, on_value, on_set, ill, on_place, object_named, designated, part_of, read_at, followed, member_of, decayed, truth_in, converted, convert_bare, told, truth_of, on_truth, signed, or_null, pointer_plus, or_zero, pointer_minus, byte_in_block, byte_at, equal_pointers, ordered, equated, on_pointers, on_move, on_plus, combined, operate, provided, is_of_kind, number_alone, on_target, pointer_further}
use Rattle.dm_rewrite.specs.Computed.{is_pure_label, place_of, read_here}
use Rattle.dm_rewrite.specs.KeptMemory.{emptied_block, emptied, HasSameObjects, KeepsPlaces}
use Rattle.dm_meaning.proofs.ExtendLemmas.{nil_left, nil_right, access_absence}

-- what a step gives, unless it is undefined in the first world, it gives in the second
abbrev pub KeptDid : Did → Did → Type 0
KeptDid (breaks cause) other = Unit {0}
KeptDid (gives after result new) (gives later other others) = (result ≡ other) × (new ≡ others)
KeptDid (gives after result new) (breaks cause) = ⊥
KeptDid (gives after result new) (ends_with status) = ⊥
KeptDid (ends_with status) other = Unit {0}

-- ---- steps that are undefined where there are causes

unless_same : (causes others : List Cause) (did other : Did) → (causes ≡ [] → (others ≡ []) × KeptDid did other) → KeptDid (unless causes did) (unless others other)
unless_same [] others did other h = subst (λ cs. KeptDid did (unless cs other)) (sym (h refl).0) (h refl).1
unless_same (cause ∷ causes) others did other h = tt

faulted_same : (r : Outcome ℤ Fault) (next other : ℤ → Did) → ((z : ℤ) → KeptDid (next z) (other z)) → KeptDid (faulted r next) (faulted r other)
faulted_same (Ok z) next other h = h z
faulted_same (Err fault) next other h = tt

one_same : (operands : List Operand) (next other : Operand → Did) → ((a : Operand) → KeptDid (next a) (other a)) → KeptDid (on_one operands next) (on_one operands other)
one_same [] next other h = tt
one_same (a ∷ []) next other h = h a
one_same (a ∷ b ∷ rest) next other h = tt

two_same : (operands : List Operand) (next other : Operand → Operand → Did) → ((a b : Operand) → KeptDid (next a b) (other a b))
    → KeptDid (on_two operands next) (on_two operands other)
two_same [] next other h = tt
two_same (a ∷ []) next other h = tt
two_same (a ∷ b ∷ []) next other h = h a b
two_same (a ∷ b ∷ c ∷ rest) next other h = tt

value_same : (result : Result) (next other : Value → Did) → ((v : Value) → KeptDid (next v) (other v)) → KeptDid (on_value result next) (on_value result other)
value_same (of_value v) next other h = h v
value_same (designates at) next other h = tt

same_unless_ill : (b : Bool) (did other : Did) → KeptDid did other → KeptDid (if b then ill else did) (if b then ill else other)
same_unless_ill true did other h = tt
same_unless_ill false did other h = h

set_same : (result : Result) (next other : Value → Did) → ((v : Value) → KeptDid (next v) (other v)) → KeptDid (on_set result next) (on_set result other)
set_same (of_value v) next other h = same_unless_ill (is_unset v) (next v) (other v) (h v)
set_same (designates at) next other h = tt

place_same : (result : Result) (next other : At → Did) → ((at : At) → KeptDid (next at) (other at)) → KeptDid (on_place result next) (on_place result other)
place_same (of_value v) next other h = tt
place_same (designates at) next other h = h at

-- ---- memory

-- what doesn't depend on what objects hold
by_emptied : {A : Type 0} (F : Option Block → A) → F None ≡ F None → ((block : Block) → F (Some block) ≡ F (Some (emptied_block block))) → (a b : Option Block)
    → emptied a ≡ emptied b → F a ≡ F b
by_emptied F n s a b e = through a ∙ ap F e ∙ sym (through b)
  where
    through : (o : Option Block) → F o ≡ F (emptied o)
    through None = n
    through (Some block) = s block

pub same_absence : (memory more : Memory) (name : Name) → emptied (look more name) ≡ emptied (look memory name) → absence_causes more name ≡ absence_causes memory name
same_absence memory more (numbered n) e = by_emptied (λ o. when Life (not (lives o))) refl (λ block. refl) (look_up more n) (look_up memory n) e
same_absence memory more (literal_of bytes unit) e = refl
same_absence memory more (elsewhere identifier) e = refl

abbrev asks : Layout → CType → At → Option Block → List Cause → List Cause
asks layout kind at block absent =
    when Conflict false ++ when Bounds (is_outside (reached_in layout at.path block)) ++ absent ++ when OtherType (is_other kind (reached_in layout at.path block))

access_same : (layout : Layout) (memory more : Memory) (kind : CType) (at : At) → HasSameObjects memory more → access_causes layout memory [] kind at ≡ []
    → access_causes layout more [] kind at ≡ []
access_same layout memory more kind at same_objects e =
    let same = same_objects at.name (access_absence layout memory [] kind at e) in
    by_emptied (λ o. asks layout kind at o (absence_causes more at.name)) refl (λ block. refl) (look more at.name) (look memory at.name) same
    ∙ ap (asks layout kind at (look memory at.name)) (same_absence memory more at.name same)
    ∙ e

entry_causes_same : (layout : Layout) (memory more : Memory) (kind : CType) (at : At) → HasSameObjects memory more → entry_causes layout memory kind at ≡ []
    → entry_causes layout more kind at ≡ []
entry_causes_same layout memory more kind at same_objects e =
    let other = when OtherType (is_other kind (reached_in layout at.path (look memory at.name))) in
    let same = same_objects at.name (nil_left (absence_causes memory at.name) other e) in
    by_emptied (λ o. absence_causes more at.name ++ when OtherType (is_other kind (reached_in layout at.path o))) refl (λ block. refl) (look more at.name)
    (look memory at.name) same
    ∙ ap (λ l. l ++ other) (same_absence memory more at.name same)
    ∙ e

read_same : (layout : Layout) (memory more : Memory) (kind : CType) (at : At) → HasSameObjects memory more → contents_at more at ≡ contents_at memory at
    → read_causes layout memory [] kind at ≡ [] → read_causes layout more [] kind at ≡ []
read_same layout memory more kind at same_objects kept e =
    let unset_causes = when Unset (is_unset_object (contents_at memory at) (reached_in layout at.path (look memory at.name))) in
    let access = nil_left (access_causes layout memory [] kind at) unset_causes e in
    let same = same_objects at.name (access_absence layout memory [] kind at access) in
    ap (λ l. l ++ when Unset (is_unset_object (contents_at more at) (reached_in layout at.path (look more at.name)))) (access_same layout memory more kind at same_objects access)
    ∙ ap (λ value. when Unset (is_unset_object value (reached_in layout at.path (look more at.name)))) kept
    ∙ by_emptied (λ o. when Unset (is_unset_object (contents_at memory at) (reached_in layout at.path o))) refl (λ block. refl) (look more at.name) (look memory at.name) same
    ∙ nil_right (access_causes layout memory [] kind at) unset_causes e

module _ (scene : Scene) (world more : World) (same_objects : HasSameObjects world.memory more.memory) where
  plain_same : (value : Value) → KeptDid (plain world value) (plain more value)
  plain_same value = (refl, refl)

  provided_same : (b : Bool) (did other : Did) → KeptDid did other → KeptDid (provided b did) (provided b other)
  provided_same true did other h = h
  provided_same false did other h = tt

  pub number_same : (kind : CType) (z : ℤ) → KeptDid (number_alone world kind z) (number_alone more kind z)
  number_same kind z = provided_same (is_of_kind (typed kind z)) (plain world (typed kind z)) (plain more (typed kind z)) (plain_same (typed kind z))

  gives_same : (result : Result) (new : List At) → KeptDid (gives world result new) (gives more result new)
  gives_same result new = (refl, refl)

  -- values that depend on memory are the same where they are
  plain_equal : (value other : Value) → value ≡ other → KeptDid (plain world value) (plain more other)
  plain_equal value other e = (ap of_value e, refl)

  pub use_same : (p : Pointer) → use_causes world.memory p ≡ [] → use_causes more.memory p ≡ []
  use_same null e = refl
  use_same (to at) e = same_absence world.memory more.memory at.name (same_objects at.name e) ∙ e

  looks_same : (at : At) → use_causes world.memory (to at) ≡ [] → emptied (look more.memory at.name) ≡ emptied (look world.memory at.name)
  looks_same at e = same_objects at.name e

  read_at_same : (kind : CType) (at : At) → (absence_causes world.memory at.name ≡ [] → contents_at more.memory at ≡ contents_at world.memory at)
      → KeptDid (read_at scene world [] kind at) (read_at scene more [] kind at)
  read_at_same kind at kept =
      unless_same (read_causes (layout scene.program) world.memory [] kind at) (read_causes (layout scene.program) more.memory [] kind at)
      (plain world (contents_at world.memory at)) (plain more (contents_at more.memory at)) (λ e.
      let same =
      kept (access_absence (layout scene.program) world.memory [] kind at
      (nil_left (access_causes (layout scene.program) world.memory [] kind at) (when Unset (is_unset_object (contents_at world.memory at) (reached_in (layout scene.program) at.path (look world.memory at.name)))) e)) in
      (read_same (layout scene.program) world.memory more.memory kind at same_objects same e, plain_equal _ _ (sym same)))

  followed_same : (value : Value) → KeptDid (followed world value) (followed more value)
  followed_same (pointer_value null) = tt
  followed_same (pointer_value (to at)) =
      unless_same (follow_causes world.memory (to at)) (follow_causes more.memory (to at)) (gives world (designates at) []) (gives more (designates at) [])
      (λ e. (use_same (to at) e, gives_same (designates at) []))
  followed_same (integer_value kind z) = tt
  followed_same (compound all) = tt
  followed_same unset = tt

  member_same : (n : ℕ) (kind : CType) (result : Result) → KeptDid (member_of scene world n kind result) (member_of scene more n kind result)
  member_same n kind (of_value value) =
      let inner = or_unset (part_value value (part n ∷ [])) in
      unless_same (when Unset (is_unset inner)) (when Unset (is_unset inner)) (plain world inner) (plain more inner) (λ e. (e, plain_same inner))
  member_same n kind (designates at) =
      let result = designates (part_of at n) in
      unless_same (entry_causes (layout scene.program) world.memory kind at) (entry_causes (layout scene.program) more.memory kind at) (gives world result [])
      (gives more result [])
      (λ e. (entry_causes_same (layout scene.program) world.memory more.memory kind at same_objects e, gives_same result []))

  decayed_same : (kind : CType) (at : At) → KeptDid (decayed scene world kind at) (decayed scene more kind at)
  decayed_same kind at =
      let value = pointer_value (to (part_of at 0)) in
      unless_same (entry_causes (layout scene.program) world.memory kind at) (entry_causes (layout scene.program) more.memory kind at) (plain world value)
      (plain more value) (λ e. (entry_causes_same (layout scene.program) world.memory more.memory kind at same_objects e, plain_same value))

  converted_same : (kind : CType) (value : Value) → KeptDid (converted world kind value) (converted more kind value)
  converted_same (integer kind) (integer_value other z) = plain_same _
  converted_same (integer kind) (pointer_value p) =
      let value = integer_value kind (operators.truth (not (is_null p))) in
      unless_same (use_causes world.memory p) (use_causes more.memory p) (plain world value) (plain more value) (λ e. (use_same p e, plain_same value))
  converted_same (integer kind) (compound all) = plain_same _
  converted_same (integer kind) unset = plain_same _
  converted_same (pointer target) (pointer_value p) =
      unless_same (use_causes world.memory p) (use_causes more.memory p) (plain world (pointer_value p)) (plain more (pointer_value p))
      (λ e. (use_same p e, plain_same (pointer_value p)))
  converted_same (pointer target) (integer_value kind z) = plain_same _
  converted_same (pointer target) (compound all) = plain_same _
  converted_same (pointer target) unset = plain_same _
  converted_same void value = plain_same _
  converted_same (array element known) value = plain_same _
  converted_same (struct n) value = plain_same _
  converted_same (function_type result parameters) value = plain_same _
  converted_same (const type) value = plain_same _

  convert_same : (kind : CType) (result : Result) → KeptDid (convert_bare world kind result) (convert_bare more kind result)
  convert_same void result = plain_same _
  convert_same (integer kind) result = set_same result _ _ (converted_same (integer kind))
  convert_same (pointer target) result = set_same result _ _ (converted_same (pointer target))
  convert_same (array element known) result = set_same result _ _ (converted_same (array element known))
  convert_same (struct n) result = set_same result _ _ (converted_same (struct n))
  convert_same (function_type other parameters) result = set_same result _ _ (converted_same (function_type other parameters))
  convert_same (const type) result = set_same result _ _ (converted_same (const type))

  -- a truth that is told stays, whatever it decides
  told_same : (causes others : List Cause) (truth : Bool) (next other : Bool → Did) → (causes ≡ [] → others ≡ []) → ((b : Bool) → KeptDid (next b) (other b))
      → KeptDid (on_truth (told (earliest causes) truth) next) (on_truth (told (earliest others) truth) other)
  told_same [] others truth next other h k = subst (λ cs. KeptDid (next truth) (on_truth (told (earliest cs) truth) other)) (sym (h refl)) (k truth)
  told_same (cause ∷ causes) others truth next other h k = tt

  truth_same : (value : Value) (next other : Bool → Did) → ((b : Bool) → KeptDid (next b) (other b))
      → KeptDid (on_truth (truth_of world.memory value) next) (on_truth (truth_of more.memory value) other)
  truth_same (integer_value kind z) next other h = h (is_true z)
  truth_same (pointer_value p) next other h = told_same (use_causes world.memory p) (use_causes more.memory p) (not (is_null p)) next other (use_same p) h
  truth_same (compound all) next other h = tt
  truth_same unset next other h = tt

  signed_same : (kind : CType) (sign : Sign) (value : Value) → KeptDid (signed world kind sign value) (signed more kind sign value)
  signed_same kind Not value =
      truth_same value (λ b. plain world (truth_in kind (not b))) (λ b. plain more (truth_in kind (not b))) (λ b. plain_same (truth_in kind (not b)))
  signed_same kind Plus (integer_value other z) = faulted_same (unary_value Plus other z) (number_alone world kind) (number_alone more kind) (number_same kind)
  signed_same kind Minus (integer_value other z) = faulted_same (unary_value Minus other z) (number_alone world kind) (number_alone more kind) (number_same kind)
  signed_same kind Complement (integer_value other z) =
      faulted_same (unary_value Complement other z) (number_alone world kind) (number_alone more kind) (number_same kind)
  signed_same kind Plus (pointer_value p) = tt
  signed_same kind Minus (pointer_value p) = tt
  signed_same kind Complement (pointer_value p) = tt
  signed_same kind Plus (compound all) = tt
  signed_same kind Minus (compound all) = tt
  signed_same kind Complement (compound all) = tt
  signed_same kind Plus unset = tt
  signed_same kind Minus unset = tt
  signed_same kind Complement unset = tt

  -- ---- pointers

  moved_same : (target : CType) (p : Pointer) (n : ℤ) → use_causes world.memory p ≡ []
      → moved_pointer (layout scene.program) more.memory target p n ≡ moved_pointer (layout scene.program) world.memory target p n
  moved_same target null n e = refl
  moved_same target (to at) n e =
      by_emptied (λ o. pointer_along at.name (path_moved (layout scene.program) o target at.path n)) refl (λ block. refl) (look more.memory at.name)
      (look world.memory at.name) (looks_same at e)

  moved_causes_same : (target : CType) (p : Pointer) (n : ℤ) → moved_causes (layout scene.program) world.memory target p n ≡ []
      → (moved_causes (layout scene.program) more.memory target p n ≡ []) ×
      (moved_pointer (layout scene.program) more.memory target p n ≡ moved_pointer (layout scene.program) world.memory target p n)
  moved_causes_same target p n e =
      let nulls = when Null (is_null p && not (operators.int_eq n (pos 0))) in
      let outside = when Bounds (is_none (moved_pointer (layout scene.program) world.memory target p n)) in
      let used = nil_right (nulls ++ outside) (use_causes world.memory p) e in
      let same = moved_same target p n used in (
        ap (λ o. when Null (is_null p && not (operators.int_eq n (pos 0))) ++ when Bounds (is_none o) ++ use_causes more.memory p) same
            ∙ ap
            (λ u. when Null (is_null p && not (operators.int_eq n (pos 0))) ++ when Bounds (is_none (moved_pointer (layout scene.program) world.memory target p n)) ++ u)
            (use_same p used ∙ sym used)
            ∙ e,
        same,
      )

  further_same : (target : CType) (p : Pointer) (n : ℤ) → KeptDid (pointer_further scene world target p n) (pointer_further scene more target p n)
  further_same target p n =
      unless_same (moved_causes (layout scene.program) world.memory target p n) (moved_causes (layout scene.program) more.memory target p n)
      (plain world (pointer_value (or_null (moved_pointer (layout scene.program) world.memory target p n))))
      (plain more (pointer_value (or_null (moved_pointer (layout scene.program) more.memory target p n)))) (λ e.
      let same = moved_causes_same target p n e in
      (same.0, plain_equal _ _ (sym (ap (λ o. pointer_value (or_null o)) same.1))))

  target_same : (kind : CType) (next other : CType → Did) → ((target : CType) → KeptDid (next target) (other target))
      → KeptDid (on_target kind next) (on_target kind other)
  target_same (pointer target) next other h = h target
  target_same kind next other h = tt

  plus_same : (kind : CType) (p : Pointer) (n : ℤ) → KeptDid (pointer_plus scene world kind p n) (pointer_plus scene more kind p n)
  plus_same kind p n =
      target_same kind (λ target. pointer_further scene world target p n) (λ target. pointer_further scene more target p n) (λ target. further_same target p n)

  distance_same : (target : CType) (a b : Pointer) → use_causes world.memory a ≡ []
      → pointer_distance (layout scene.program) more.memory target a b ≡ pointer_distance (layout scene.program) world.memory target a b
  distance_same target null b e = refl
  distance_same target (to a) null e = refl
  distance_same target (to a) (to b) e =
      by_emptied (λ o. if same_name a.name b.name then distance_in (layout scene.program) target a.path b.path o else None) refl (λ block. refl)
      (look more.memory a.name) (look world.memory a.name) (looks_same a e)

  minus_same : (kind target : CType) (a b : Pointer) → KeptDid (pointer_minus scene world kind target a b) (pointer_minus scene more kind target a b)
  minus_same kind target a b =
      unless_same (distance_causes (layout scene.program) world.memory target a b) (distance_causes (layout scene.program) more.memory target a b)
      (number_alone world kind (or_zero (pointer_distance (layout scene.program) world.memory target a b)))
      (number_alone more kind (or_zero (pointer_distance (layout scene.program) more.memory target a b))) (λ e.
      let nulls = when Null (is_null a || is_null b) in
      let apart = when Order (is_none (pointer_distance (layout scene.program) world.memory target a b)) in
      let used_b = nil_right (nulls ++ apart ++ use_causes world.memory a) (use_causes world.memory b) e in
      let used_a = nil_right (nulls ++ apart) (use_causes world.memory a) (nil_left (nulls ++ apart ++ use_causes world.memory a) (use_causes world.memory b) e) in
      let same = distance_same target a b used_a in (
        ap (λ o. when Null (is_null a || is_null b) ++ when Order (is_none o) ++ use_causes more.memory a ++ use_causes more.memory b) same
            ∙ ap
            (λ u. when Null (is_null a || is_null b) ++ when Order (is_none (pointer_distance (layout scene.program) world.memory target a b)) ++ u ++ use_causes more.memory b)
            (use_same a used_a ∙ sym used_a)
            ∙ ap
            (λ u. when Null (is_null a || is_null b) ++ when Order (is_none (pointer_distance (layout scene.program) world.memory target a b)) ++ use_causes world.memory a ++ u)
            (use_same b used_b ∙ sym used_b)
            ∙ e,
        subst (λ o. KeptDid (number_alone world kind (or_zero (pointer_distance (layout scene.program) world.memory target a b))) (number_alone more kind (or_zero o)))
            (sym same) (number_same kind _),
      ))

  byte_same : (p : Pointer) → use_causes world.memory p ≡ [] → byte_at scene more p ≡ byte_at scene world p
  byte_same null e = refl
  byte_same (to at) e =
      by_emptied (λ o. pos (byte_in_block (layout scene.program) at.path o)) refl (λ block. refl) (look more.memory at.name) (look world.memory at.name) (looks_same at e)

  ordered_same : (kind : CType) (op : Op) (a b : Pointer) → KeptDid (ordered scene world kind op a b) (ordered scene more kind op a b)
  ordered_same kind op a b =
      unless_same (order_causes world.memory a b) (order_causes more.memory a b)
      (faulted (operators.binary op Long (byte_at scene world a) (byte_at scene world b)) (number_alone world kind))
      (faulted (operators.binary op Long (byte_at scene more a) (byte_at scene more b)) (number_alone more kind)) (λ e.
      let first = when Order (not (in_one_object a b)) in
      let used_b = nil_right (first ++ use_causes world.memory a) (use_causes world.memory b) e in
      let used_a = nil_right first (use_causes world.memory a) (nil_left (first ++ use_causes world.memory a) (use_causes world.memory b) e) in (
        ap (λ u. when Order (not (in_one_object a b)) ++ u ++ use_causes more.memory b) (use_same a used_a ∙ sym used_a)
            ∙ ap (λ u. when Order (not (in_one_object a b)) ++ use_causes world.memory a ++ u) (use_same b used_b ∙ sym used_b)
            ∙ e,
        subst (λ r. KeptDid (faulted (operators.binary op Long (byte_at scene world a) (byte_at scene world b)) (number_alone world kind)) (faulted r (number_alone more kind)))
            (sym (ap (λ x. operators.binary op Long x (byte_at scene more b)) (byte_same a used_a) ∙ ap (λ y. operators.binary op Long (byte_at scene world a) y) (byte_same b used_b)))
            (faulted_same (operators.binary op Long (byte_at scene world a) (byte_at scene world b)) (number_alone world kind) (number_alone more kind) (number_same kind)),
      ))

  equal_same : (a b : Pointer) → use_causes world.memory a ≡ [] → use_causes world.memory b ≡ [] → equal_pointers scene more a b ≡ equal_pointers scene world a b
  equal_same null null e f = refl
  equal_same null (to b) e f = refl
  equal_same (to a) null e f = refl
  equal_same (to a) (to b) e f =
      ap (λ x. same_name a.name b.name && operators.int_eq x (byte_at scene more (to b))) (byte_same (to a) e)
      ∙ ap (λ y. same_name a.name b.name && operators.int_eq (byte_at scene world (to a)) y) (byte_same (to b) f)

  equated_same : (kind : CType) (sense : Bool → Bool) (a b : Pointer) → KeptDid (equated scene world kind sense a b) (equated scene more kind sense a b)
  equated_same kind sense a b =
      unless_same (use_causes world.memory a ++ use_causes world.memory b) (use_causes more.memory a ++ use_causes more.memory b)
      (plain world (truth_in kind (sense (equal_pointers scene world a b)))) (plain more (truth_in kind (sense (equal_pointers scene more a b)))) (λ e.
      let used_a = nil_left (use_causes world.memory a) (use_causes world.memory b) e in
      let used_b = nil_right (use_causes world.memory a) (use_causes world.memory b) e in (
        ap (λ u. u ++ use_causes more.memory b) (use_same a used_a) ∙ use_same b used_b,
        plain_equal _ _ (sym (ap (λ b'. truth_in kind (sense b')) (equal_same a b used_a used_b))),
      ))

  pointers_same : (kind left : CType) (op : Op) (a b : Pointer) → KeptDid (on_pointers scene world kind left op a b) (on_pointers scene more kind left op a b)
  pointers_same kind left Sub a b = target_same left _ _ (λ target. minus_same kind target a b)
  pointers_same kind left Less a b = ordered_same kind Less a b
  pointers_same kind left Greater a b = ordered_same kind Greater a b
  pointers_same kind left LessEq a b = ordered_same kind LessEq a b
  pointers_same kind left GreaterEq a b = ordered_same kind GreaterEq a b
  pointers_same kind left Equal a b = equated_same kind (λ truth. truth) a b
  pointers_same kind left NotEqual a b = equated_same kind not a b
  pointers_same kind left Add a b = tt
  pointers_same kind left Mul a b = tt
  pointers_same kind left Div a b = tt
  pointers_same kind left Rem a b = tt
  pointers_same kind left Shl a b = tt
  pointers_same kind left Shr a b = tt
  pointers_same kind left And a b = tt
  pointers_same kind left Xor a b = tt
  pointers_same kind left Or a b = tt

  move_same : (op : Op) (n : ℤ) (next other : ℤ → Did) → ((z : ℤ) → KeptDid (next z) (other z)) → KeptDid (on_move op n next) (on_move op n other)
  move_same Add n next other h = h n
  move_same Sub n next other h = h (neg_ℤ n)
  move_same op n next other h = tt

  on_plus_same : (op : Op) (did other : Did) → KeptDid did other → KeptDid (on_plus op did) (on_plus op other)
  on_plus_same Add did other h = h
  on_plus_same op did other h = tt

  combined_same : (kind left : CType) (op : Op) (a b : Value) → KeptDid (combined scene world kind left op a b) (combined scene more kind left op a b)
  combined_same kind left op (integer_value j m) (integer_value k n) =
      provided_same (is_right op j n) _ _ (faulted_same (operators.binary op j m n) (number_alone world kind) (number_alone more kind) (number_same kind))
  combined_same kind left op (pointer_value p) (integer_value k n) = move_same op n (pointer_plus scene world kind p) (pointer_plus scene more kind p) (plus_same kind p)
  combined_same kind left op (integer_value j m) (pointer_value q) =
      on_plus_same op (pointer_plus scene world kind q m) (pointer_plus scene more kind q m) (plus_same kind q m)
  combined_same kind left op (pointer_value p) (pointer_value q) = pointers_same kind left op p q
  combined_same kind left op (integer_value j m) (compound all) = tt
  combined_same kind left op (integer_value j m) unset = tt
  combined_same kind left op (pointer_value p) (compound all) = tt
  combined_same kind left op (pointer_value p) unset = tt
  combined_same kind left op (compound all) b = tt
  combined_same kind left op unset b = tt

  designated_same : (o : Option ℕ) → KeptDid (designated world o) (designated more o)
  designated_same None = tt
  designated_same (Some n) = gives_same _ _

  -- The step of a node that stores nothing is the same in both worlds, where what it reads is the same, unless it is undefined in the first.
  pub operate_kept : (label : Label) (kind : CType) (operands : List Operand) → is_pure_label label ≡ true
      → KeepsPlaces world.memory more.memory (read_here label operands)
      → KeptDid (operate scene world [] label kind operands) (operate scene more [] label kind operands)
  operate_kept (number z) kind operands pure kept = number_same kind z
  operate_kept (enumerator d) kind operands pure kept = number_same kind _
  operate_kept (literal bytes unit) kind operands pure kept = gives_same _ _
  operate_kept (object d) kind operands pure kept = designated_same (object_named scene.objects d)
  operate_kept (function d) kind operands pure kept = plain_same _
  operate_kept read kind [] pure kept = tt
  operate_kept read kind (a ∷ b ∷ rest) pure kept = tt
  operate_kept read kind (a ∷ []) pure kept = by_result a.result kept
    where
      by_result : (result : Result) → KeepsPlaces world.memory more.memory (place_of result)
          → KeptDid (on_place result (read_at scene world [] kind)) (on_place result (read_at scene more [] kind))
      by_result (of_value value) k = tt
      by_result (designates at) k = read_at_same kind at (k at (inl refl))
  operate_kept decay kind operands pure kept = one_same operands _ _ (λ a. place_same a.result _ _ (decayed_same a.kind))
  operate_kept convert kind operands pure kept = one_same operands _ _ (λ a. convert_same (bare kind) a.result)
  operate_kept address kind operands pure kept = one_same operands _ _ (λ a. place_same a.result _ _ (λ at. plain_same _))
  operate_kept follow kind operands pure kept = one_same operands _ _ (λ a. value_same a.result _ _ followed_same)
  operate_kept (member n) kind operands pure kept = one_same operands _ _ (λ a. member_same n a.kind a.result)
  operate_kept (unary sign) kind operands pure kept = one_same operands _ _ (λ a. value_same a.result _ _ (signed_same kind sign))
  operate_kept (binary op) kind operands pure kept =
      two_same operands _ _ (λ a b. value_same a.result _ _ (λ x. value_same b.result _ _ (combined_same kind a.kind op x)))
  operate_kept (sizeof_kind type) kind operands pure kept = number_same kind _
  operate_kept store kind operands pure kept = absurd (true≢false (sym pure))
  operate_kept (update op works) kind operands pure kept = absurd (true≢false (sym pure))
  operate_kept (count plus before) kind operands pure kept = absurd (true≢false (sym pure))
  operate_kept label kind operands pure kept = tt
