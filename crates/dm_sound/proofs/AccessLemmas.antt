-- Accesses to typed memory: what is read is of the access's type, and what is stored keeps each object typed.
use Rattle.std.specs.Prelude.{◌≡◌, refl, ◌⊎◌, ℕ, suc, ◌==◌, Bool, true, false, not, ◌&&◌, ◌||◌, IsTrue, List, [], ◌∷◌, ◌++◌, map, length, replicate, Option, Some, None, is_none, slice_get, ℤ, pos, nat_le, nat_lt, if◌then◌else◌}
use Rattle.std.proofs.Common.{ap, sym, ◌∙◌, subst, inl, inr, true≢false}
use Rattle.dm_int.specs.declared.Kind.TheVariants.{Char}
use Rattle.dm_int.specs.Operators.{int_eq}
use Rattle.dm_int.specs.Ranges.{in_range-convert}
use Rattle.dm_type.specs.CTypes.{CType, integer, array, struct, bare, is_const}
use Rattle.dm_meaning.specs.declared.cause.Cause.{Cause}
use Rattle.dm_meaning.specs.declared.cause.Cause.TheVariants.{Conflict, Null, Bounds, Pointer as Order, Life, Unset, OtherType, Const, External}
use Rattle.dm_meaning.specs.Among.{IsAmong}
use Rattle.dm_meaning.specs.Values.{Name, numbered, literal_of, elsewhere, part, past, Path, At, overlaps_any, Pointer, null, to, Value, unset, values, with_part}
use Rattle.dm_meaning.specs.Objects.{Layout, Field, Reached, object_of, outside, foreign, unknown, reached_member, element, from_part, part_at, agree_without_const, is_array}
use Rattle.dm_meaning.specs.Memory.{Memory, Block, look_up, look, literal_block, character, changed_block, written, reached, reached_in, value_in, or_unset, contents_at, lives, may_be_written}
use Rattle.dm_meaning.specs.Causes.{row, earlier, earliest, when, is_outside, is_other, is_fixed, is_unset_object, absence_causes, access_causes, entry_causes, read_causes, store_causes, update_causes, is_null, use_causes, follow_causes, moved_pointer, moved_causes, pointer_distance, distance_causes, order_causes, in_one_object}
use Rattle.dm_meaning.proofs.AmongLemmas.{among_either}
use Rattle.dm_meaning.proofs.OptionLemmas.{none_is_some, some_is_some, mapped_some}
use Rattle.dm_meaning.proofs.ExtendLemmas.{nil_left, nil_right, when_false, look_changed, access_absence}
use Rattle.dm_meaning.proofs.GrowLemmas.{equal_of}
use Rattle.dm_sound.specs.TypedValues.{own_type, HasType, HaveTypes, AreTyped}
use Rattle.dm_sound.proofs.ValueLemmas.{has_agreeing, has_agreed, value_there, stored_has, nothing_outside}

-- ---- objects

characters_have : (layout : Layout) (bytes : List ℕ) → HaveTypes layout (replicate (suc (length bytes)) (integer Char)) (values (map character bytes ++ character 0 ∷ []))
characters_have layout [] = ((refl, in_range-convert Char (pos 0)), tt)
characters_have layout (byte ∷ bytes) = ((refl, in_range-convert Char (pos byte)), characters_have layout bytes)

pub typed_look : (layout : Layout) (memory : Memory) → AreTyped layout memory → (name : Name) (block : Block) → look memory name ≡ Some block → HasType layout block.kind block.contents
typed_look layout memory typed (numbered n) block e = typed n block e
typed_look layout memory typed (literal_of bytes unit) block e =
    subst (λ (b : Block). HasType layout b.kind b.contents) (some_is_some (literal_block bytes) block e) (refl, characters_have layout bytes)
typed_look layout memory typed (elsewhere identifier) block e = absurd (none_is_some block e)

unknown_is : (type : CType) (f : Bool) → unknown ≡ object_of type f → ⊥
unknown_is type f e = cc

-- the value of a place that leads to an object
there_in : (layout : Layout) (path : Path) (o : Option Block) → ((block : Block) → o ≡ Some block → HasType layout block.kind block.contents) → (type : CType) (f : Bool)
    → reached_in layout path o ≡ object_of type f → HasType layout type (or_unset (value_in path o))
there_in layout path None typed type f e = absurd (unknown_is type f e)
there_in layout path (Some block) typed type f e =
    let found = value_there layout false block.kind path type f e block.contents (typed block refl) in
    subst (λ (o : Option Value). HasType layout type (or_unset o)) (sym found.1) found.2

pub contents_there : (layout : Layout) (memory : Memory) → AreTyped layout memory → (at : At) (type : CType) (f : Bool) → reached layout memory at ≡ object_of type f → HasType layout type (contents_at memory at)
contents_there layout memory typed at type f e = there_in layout at.path (look memory at.name) (typed_look layout memory typed at.name) type f e

-- a place outside an array has no value
outside_in : (layout : Layout) (path : Path) (o : Option Block) → ((block : Block) → o ≡ Some block → HasType layout block.kind block.contents)
    → reached_in layout path o ≡ outside → or_unset (value_in path o) ≡ unset
outside_in layout path None typed e = refl
outside_in layout path (Some block) typed e = ap or_unset (nothing_outside layout false block.kind path e block.contents (typed block refl))

-- no path leads to what isn't known, in an object that is there
IsKnown : Reached → Type 0
IsKnown (object_of type fixed) = Unit {0}
IsKnown outside = Unit {0}
IsKnown foreign = Unit {0}
IsKnown unknown = ⊥

known_if : (b : Bool) (type : CType) → IsKnown (if b then object_of type false else outside)
unfolding IsKnown
known_if true type = tt
known_if false type = tt

known_member : (o : Option Field) → IsKnown (reached_member o)
unfolding IsKnown
known_member (Some field) = tt
known_member None = tt

known_element : (layout : Layout) (type : CType) (n : ℕ) → IsKnown (element layout type n)
unfolding IsKnown
known_element layout (array type (Some count)) n = known_if (nat_lt n count) type
known_element layout (struct at) n = known_member (slice_get (layout.fields at) n)
known_element layout type n = tt

known_from : (r : Reached) (following : CType → Reached) → IsKnown r → ((type : CType) → IsKnown (following type)) → IsKnown (from_part r following)
unfolding IsKnown
known_from (object_of type fixed) following h k = k type
known_from outside following h k = tt
known_from foreign following h k = tt
known_from unknown following h k = absurd h

known_part : (layout : Layout) (fixed : Bool) (type : CType) (path : Path) → IsKnown (part_at layout fixed type path)
unfolding IsKnown
known_part layout fixed type [] = tt
known_part layout fixed type (past ∷ path) = tt
known_part layout fixed type (part n ∷ path) =
    known_from (element layout (bare type) n) (λ inner. part_at layout (fixed || is_const type) inner path) (known_element layout (bare type) n)
    (λ inner. known_part layout (fixed || is_const type) inner path)

unknown_none : (layout : Layout) (path : Path) (o : Option Block) → reached_in layout path o ≡ unknown → or_unset (value_in path o) ≡ unset
unfolding IsKnown
unknown_none layout path None e = refl
unknown_none layout path (Some block) e = absurd (subst IsKnown e (known_part layout false block.kind path))

not_false : (b : Bool) → not b ≡ false → b ≡ true
not_false true e = refl
not_false false e = absurd (true≢false e)

-- Where no object of another type is at a place, it has a value of the access's type, or none that was set.
pub contents_fit : (layout : Layout) (memory : Memory) → AreTyped layout memory → (at : At) (access : CType) → IsTrue (not (is_array (own_type access))) → is_other access (reached layout memory at) ≡ false
    → HasType layout access (contents_at memory at) ⊎ (contents_at memory at ≡ unset)
contents_fit layout memory typed at access w e = by_reached (reached layout memory at) refl e
  where
    by_reached : (r : Reached) → reached layout memory at ≡ r → is_other access r ≡ false → HasType layout access (contents_at memory at) ⊎ (contents_at memory at ≡ unset)
    by_reached (object_of type f) k o =
        inl (has_agreeing layout type access (not_false (agree_without_const type access) o) w (contents_at memory at) (contents_there layout memory typed at type f k))
    by_reached outside k o = inr (outside_in layout at.path (look memory at.name) (typed_look layout memory typed at.name) k)
    by_reached foreign k o = absurd (true≢false o)
    by_reached unknown k o = inr (unknown_none layout at.path (look memory at.name) k)

-- ---- stores

abbrev stored : Path → Value → Block → Block
stored path value one = record one { contents = with_part path value one.contents }

changed_typed : (layout : Layout) (path : Path) (value : Value) (b : Bool) (one block : Block) → HasType layout one.kind one.contents → (b ≡ true → HasType layout one.kind (with_part path value one.contents))
    → (if b then stored path value one else one) ≡ block → HasType layout block.kind block.contents
changed_typed layout path value true one block h k e = subst (λ (x : Block). HasType layout x.kind x.contents) e (k refl)
changed_typed layout path value false one block h k e = subst (λ (x : Block). HasType layout x.kind x.contents) e h

typed_changed : (layout : Layout) (memory : Memory) → AreTyped layout memory → (n : ℕ) (path : Path) (type : CType) (f : Bool) → reached_in layout path (look_up memory n) ≡ object_of type f → (value : Value) → HasType layout type value
    → (m : ℕ) (block : Block) → look_up (changed_block n (stored path value) memory) m ≡ Some block → HasType layout block.kind block.contents
typed_changed layout memory typed n path type f e value h m block g =
    let from = mapped_some (λ (one : Block). if m == n then stored path value one else one) (look_up memory m) block (sym (look_changed n (stored path value) memory m) ∙ g) in
    changed_typed layout path value (m == n) from.0 block (typed m from.0 from.1)
    (λ c. stored_has layout false from.0.kind path type f (ap (reached_in layout path) (sym from.1 ∙ ap (look_up memory) (equal_of m n c)) ∙ e) value h from.0.contents (typed m from.0 from.1)) from.2

-- each object is of its type when a value of a part's type is stored there
pub typed_written : (layout : Layout) (memory : Memory) → AreTyped layout memory → (at : At) (type : CType) (f : Bool) → reached layout memory at ≡ object_of type f → (value : Value) → HasType layout type value
    → AreTyped layout (written memory at value)
typed_written layout memory typed at type f e value h = by_name at.name e
  where
    by_name : (name : Name) → reached_in layout at.path (look memory name) ≡ object_of type f → AreTyped layout (written memory (record { name = name; path = at.path }) value)
    by_name (literal_of bytes unit) k = typed
    by_name (elsewhere identifier) k = typed
    by_name (numbered n) k = typed_changed layout memory typed n at.path type f k value h

-- ---- causes

cause_differs : {A : Type 0} (x : A) (xs : List A) → x ∷ xs ≡ [] → ⊥
cause_differs x xs e = cc

-- the first cause in the table's order is among the causes
pub earliest_among : (causes : List Cause) (cause : Cause) → earliest causes ≡ Some cause → IsAmong cause causes
earliest_among [] cause e = absurd (none_is_some cause e)
earliest_among (first ∷ rest) cause e = by_rest (earliest rest) (some_is_some (earlier first (earliest rest)) cause e) (λ f. earliest_among rest cause f)
  where
    by_row : (b : Bool) (other : Cause) → (if b then first else other) ≡ cause → (Some other ≡ Some cause → IsAmong cause rest) → (cause ≡ first) ⊎ IsAmong cause rest
    by_row true other f later = inl (sym f)
    by_row false other f later = inr (later (ap Some f))

    by_rest : (o : Option Cause) → earlier first o ≡ cause → (o ≡ Some cause → IsAmong cause rest) → (cause ≡ first) ⊎ IsAmong cause rest
    by_rest None f later = inl (sym f)
    by_rest (Some other) f later = by_row (nat_le (row first) (row other)) other f later

among_when : (cause : Cause) (b : Bool) (other : Cause) → IsAmong other (when cause b) → (other ≡ cause) × (b ≡ true)
among_when cause true other (inl e) = (e, refl)
among_when cause true other (inr e) = absurd e
among_when cause false other e = absurd e

-- no object is absent for its type
absence_apart : (memory : Memory) (name : Name) → IsAmong OtherType (absence_causes memory name) → ⊥
absence_apart memory (numbered n) h = life_apart (among_when Life (not (lives (look_up memory n))) OtherType h).0
  where
    life_apart : OtherType ≡ Life → ⊥
    life_apart e = cc
absence_apart memory (literal_of bytes unit) h = h
absence_apart memory (elsewhere identifier) (inl e) = external_apart e
  where
    external_apart : OtherType ≡ External → ⊥
    external_apart f = cc
absence_apart memory (elsewhere identifier) (inr e) = e

pub use_apart : (memory : Memory) (p : Pointer) → IsAmong OtherType (use_causes memory p) → ⊥
use_apart memory null h = h
use_apart memory (to at) h = absence_apart memory at.name h

-- none of these is another type's cause
abbrev IsOwn : Cause → Type 0
IsOwn cause = OtherType ≡ cause → ⊥

own_conflict : IsOwn Conflict
own_conflict e = cc

own_bounds : IsOwn Bounds
own_bounds e = cc

own_null : IsOwn Null
own_null e = cc

own_order : IsOwn Order
own_order e = cc

own_unset : IsOwn Unset
own_unset e = cc

own_const : IsOwn Const
own_const e = cc

when_apart : (cause : Cause) (b : Bool) → IsOwn cause → IsAmong OtherType (when cause b) → ⊥
when_apart cause b own h = own (among_when cause b OtherType h).0

both_apart : (xs ys : List Cause) → (IsAmong OtherType xs → ⊥) → (IsAmong OtherType ys → ⊥) → IsAmong OtherType (xs ++ ys) → ⊥
both_apart xs ys h k e = pick (among_either OtherType xs ys e)
  where
    pick : IsAmong OtherType xs ⊎ IsAmong OtherType ys → ⊥
    pick (inl a) = h a
    pick (inr b) = k b

either_among : (xs ys : List Cause) (P : Type 0) → (IsAmong OtherType xs → P) → (IsAmong OtherType ys → P) → IsAmong OtherType (xs ++ ys) → P
either_among xs ys P h k e = pick (among_either OtherType xs ys e)
  where
    pick : IsAmong OtherType xs ⊎ IsAmong OtherType ys → P
    pick (inl a) = h a
    pick (inr b) = k b

pub follow_apart : (memory : Memory) (p : Pointer) → IsAmong OtherType (follow_causes memory p) → ⊥
follow_apart memory p h = both_apart (when Null (is_null p)) (use_causes memory p) (when_apart Null (is_null p) own_null) (use_apart memory p) h

pub unset_apart : (b : Bool) → IsAmong OtherType (when Unset b) → ⊥
unset_apart b h = when_apart Unset b own_unset h

pub uses_apart : (memory : Memory) (p q : Pointer) → IsAmong OtherType (use_causes memory p ++ use_causes memory q) → ⊥
uses_apart memory p q h = both_apart (use_causes memory p) (use_causes memory q) (use_apart memory p) (use_apart memory q) h

pub order_apart : (memory : Memory) (p q : Pointer) → IsAmong OtherType (order_causes memory p q) → ⊥
order_apart memory p q h =
    let first = when Order (not (in_one_object p q)) in
    both_apart (first ++ use_causes memory p) (use_causes memory q)
    (both_apart first (use_causes memory p) (when_apart Order (not (in_one_object p q)) own_order) (use_apart memory p)) (use_apart memory q) h

pub moved_apart : (layout : Layout) (memory : Memory) (target : CType) (p : Pointer) (n : ℤ) → IsAmong OtherType (moved_causes layout memory target p n) → ⊥
moved_apart layout memory target p n h =
    let empty = is_null p && not (int_eq n (pos 0)) in
    let beyond = is_none (moved_pointer layout memory target p n) in
    both_apart (when Null empty ++ when Bounds beyond) (use_causes memory p)
    (both_apart (when Null empty) (when Bounds beyond) (when_apart Null empty own_null) (when_apart Bounds beyond own_bounds)) (use_apart memory p) h

pub distance_apart : (layout : Layout) (memory : Memory) (target : CType) (p q : Pointer) → IsAmong OtherType (distance_causes layout memory target p q) → ⊥
distance_apart layout memory target p q h =
    let empty = is_null p || is_null q in
    let others = is_none (pointer_distance layout memory target p q) in
    both_apart (when Null empty ++ when Order others ++ use_causes memory p) (use_causes memory q)
    (both_apart (when Null empty ++ when Order others) (use_causes memory p)
    (both_apart (when Null empty) (when Order others) (when_apart Null empty own_null) (when_apart Order others own_order)) (use_apart memory p)) (use_apart memory q) h

-- where a distance has no cause it is there
pub distance_there : (layout : Layout) (memory : Memory) (target : CType) (p q : Pointer) → distance_causes layout memory target p q ≡ [] → is_none (pointer_distance layout memory target p q) ≡ false
distance_there layout memory target p q e =
    let empty = is_null p || is_null q in
    let others = is_none (pointer_distance layout memory target p q) in
    when_false Order others (nil_right (when Null empty) (when Order others) (nil_left (when Null empty ++ when Order others) (use_causes memory p)
    (nil_left (when Null empty ++ when Order others ++ use_causes memory p) (use_causes memory q) e)))

-- an access is of another type only where an object of another type is
pub access_other : (layout : Layout) (memory : Memory) (locks : List At) (access : CType) (at : At) → IsAmong OtherType (access_causes layout memory locks access at) → is_other access (reached layout memory at) ≡ true
access_other layout memory locks access at h =
    let r = reached layout memory at in
    let conflict = when Conflict (overlaps_any at locks) in
    let bounds = when Bounds (is_outside r) in
    let absent = absence_causes memory at.name in
    either_among (conflict ++ bounds ++ absent) (when OtherType (is_other access r)) (is_other access r ≡ true)
    (λ e. absurd (both_apart (conflict ++ bounds) absent (both_apart conflict bounds (when_apart Conflict (overlaps_any at locks) own_conflict) (when_apart Bounds (is_outside r) own_bounds)) (absence_apart memory at.name) e))
    (λ e. (among_when OtherType (is_other access r) OtherType e).1) h

pub entry_other : (layout : Layout) (memory : Memory) (access : CType) (at : At) → IsAmong OtherType (entry_causes layout memory access at) → is_other access (reached layout memory at) ≡ true
entry_other layout memory access at h =
    let r = reached layout memory at in
    either_among (absence_causes memory at.name) (when OtherType (is_other access r)) (is_other access r ≡ true)
    (λ e. absurd (absence_apart memory at.name e)) (λ e. (among_when OtherType (is_other access r) OtherType e).1) h

pub read_other : (layout : Layout) (memory : Memory) (locks : List At) (access : CType) (at : At) → IsAmong OtherType (read_causes layout memory locks access at) → is_other access (reached layout memory at) ≡ true
read_other layout memory locks access at h =
    let b = is_unset_object (contents_at memory at) (reached layout memory at) in
    either_among (access_causes layout memory locks access at) (when Unset b) (is_other access (reached layout memory at) ≡ true)
    (access_other layout memory locks access at) (λ e. absurd (when_apart Unset b own_unset e)) h

pub store_other : (layout : Layout) (memory : Memory) (locks : List At) (access : CType) (at : At) → IsAmong OtherType (store_causes layout memory locks access at) → is_other access (reached layout memory at) ≡ true
store_other layout memory locks access at h =
    let b = is_fixed (reached layout memory at) || not (may_be_written (look memory at.name)) in
    either_among (access_causes layout memory locks access at) (when Const b) (is_other access (reached layout memory at) ≡ true)
    (access_other layout memory locks access at) (λ e. absurd (when_apart Const b own_const e)) h

pub update_other : (layout : Layout) (memory : Memory) (locks : List At) (access : CType) (at : At) → IsAmong OtherType (update_causes layout memory locks access at) → is_other access (reached layout memory at) ≡ true
update_other layout memory locks access at h =
    either_among (read_causes layout memory locks access at) (store_causes layout memory locks access at) (is_other access (reached layout memory at) ≡ true)
    (read_other layout memory locks access at) (store_other layout memory locks access at) h

-- ---- where there is no cause

absent_not_none : (memory : Memory) (name : Name) → absence_causes memory name ≡ [] → look memory name ≡ None → ⊥
absent_not_none memory (numbered n) e f = true≢false (ap (λ o. not (lives o)) (sym f) ∙ when_false Life (not (lives (look_up memory n))) e)
absent_not_none memory (literal_of bytes unit) e f = none_is_some (literal_block bytes) (sym f)
absent_not_none memory (elsewhere identifier) e f = absurd (cause_differs External [] e)

-- an object that agrees with the access is at a place
pub record IsThere (layout : Layout) (memory : Memory) (access : CType) (at : At) : Type 0 where
  pub type : CType
  pub fixed : Bool
  pub leads : reached layout memory at ≡ object_of type fixed
  pub agrees : agree_without_const type access ≡ true

known_in : (layout : Layout) (path : Path) (o : Option Block) → (o ≡ None → ⊥) → reached_in layout path o ≡ unknown → ⊥
unfolding IsKnown
known_in layout path None h e = h refl
known_in layout path (Some block) h e = subst IsKnown e (known_part layout false block.kind path)

pub access_there : (layout : Layout) (memory : Memory) (locks : List At) (access : CType) (at : At) → access_causes layout memory locks access at ≡ [] → IsThere layout memory access at
access_there layout memory locks access at e =
    let r = reached layout memory at in
    let conflict = when Conflict (overlaps_any at locks) in
    let bounds = when Bounds (is_outside r) in
    let absent = absence_causes memory at.name in
    let other = when OtherType (is_other access r) in
    by_reached r refl
    (when_false Bounds (is_outside r) (nil_right conflict bounds (nil_left (conflict ++ bounds) absent (nil_left (conflict ++ bounds ++ absent) other e))))
    (when_false OtherType (is_other access r) (nil_right (conflict ++ bounds ++ absent) other e))
  where
    by_reached : (r : Reached) → reached layout memory at ≡ r → is_outside r ≡ false → is_other access r ≡ false → IsThere layout memory access at
    by_reached (object_of type f) k b o = record { type = type; fixed = f; leads = k; agrees = not_false (agree_without_const type access) o }
    by_reached outside k b o = absurd (true≢false b)
    by_reached foreign k b o = absurd (true≢false o)
    by_reached unknown k b o = absurd (known_in layout at.path (look memory at.name) (absent_not_none memory at.name (access_absence layout memory locks access at e)) k)

pub access_same : (layout : Layout) (memory : Memory) (locks : List At) (access : CType) (at : At) → access_causes layout memory locks access at ≡ [] → is_other access (reached layout memory at) ≡ false
access_same layout memory locks access at e =
    let r = reached layout memory at in
    when_false OtherType (is_other access r) (nil_right (when Conflict (overlaps_any at locks) ++ when Bounds (is_outside r) ++ absence_causes memory at.name) (when OtherType (is_other access r)) e)

-- what is read has the access's type
pub read_typed : (layout : Layout) (memory : Memory) → AreTyped layout memory → (locks : List At) (access : CType) (at : At) → IsTrue (not (is_array (own_type access))) → access_causes layout memory locks access at ≡ []
    → HasType layout access (contents_at memory at)
read_typed layout memory typed locks access at w e =
    let there = access_there layout memory locks access at e in
    has_agreeing layout there.type access there.agrees w (contents_at memory at) (contents_there layout memory typed at there.type there.fixed there.leads)

-- and what is stored leaves each object typed
pub store_typed : (layout : Layout) (memory : Memory) → AreTyped layout memory → (locks : List At) (access : CType) (at : At) → IsTrue (not (is_array (own_type access))) → access_causes layout memory locks access at ≡ []
    → (value : Value) → HasType layout access value → AreTyped layout (written memory at value)
store_typed layout memory typed locks access at w e value h =
    let there = access_there layout memory locks access at e in
    typed_written layout memory typed at there.type there.fixed there.leads value (has_agreed layout there.type access there.agrees w value h)
