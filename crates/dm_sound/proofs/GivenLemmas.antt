-- Values that expressions give, by their types.
use Rattle.std.specs.Prelude.{◌≡◌, refl, ◌⊎◌, ℕ, ◌≤◌, Bool, true, false, not, ◌||◌, IsTrue, IsSome, Option, Some, None, is_some, ℤ, pos, int_le, ◌≤ℤ◌, nat_le, if◌then◌else◌}
use Rattle.std.proofs.Common.{arith, ap, sym, ◌∙◌, subst, inl, inr, true≢false}
use Rattle.std.proofs.lemmas.Bool.{false≢true}
use Rattle.std.proofs.lemmas.Int.{ints}
use Rattle.dm_token.specs.Limits.{most_type_bytes}
use Rattle.dm_int.specs.declared.Kind.{Kind}
use Rattle.dm_int.specs.declared.Kind.TheVariants.{Bool as CBool, Char, SChar, UChar, Short, UShort, Int, UInt, Long, ULong, LLong, ULLong}
use Rattle.dm_int.specs.Kinds.{InRange, is_in_range, least, greatest, size}
use Rattle.dm_type.specs.declared.layout.Layout.{Layout as Extent}
use Rattle.dm_type.specs.declared.shape.Content.{Content}
use Rattle.dm_type.specs.CTypes.{CType, void, integer, pointer, array, struct, function, const, bare, is_const}
use Rattle.dm_type.specs.Layouts.{if_fits, repeated, layout_of, size_of}
use Rattle.dm_type.specs.Tables.{Table, content_of}
use Rattle.dm_tree.specs.Constants.{integer_kind}
use Rattle.dm_tree.specs.Scenes.{is_pointer, is_scalar, is_function, target}
use Rattle.dm_meaning.specs.Values.{Pointer, Value, integer_value, pointer_value, parts, unset}
use Rattle.dm_meaning.specs.Objects.{Layout, is_array}
use Rattle.dm_meaning.specs.Causes.{is_unset}
use Rattle.dm_meaning.specs.Units.{is_pointer as points}
use Rattle.dm_meaning.proofs.OptionLemmas.{none_is_some, some_is_some, bound_some, mapped_some, and_left, and_right}
use Rattle.dm_sound.specs.TypedValues.{own_type, has_parts, has_values, HasType, IsGiven}
use Rattle.dm_sound.specs.TypedTrees.{IsProper, IsSoundTable}
use Rattle.dm_sound.proofs.ValueLemmas.{own_integer, AreLike}

-- ---- integers

pub in_range_test : (kind : Kind) (z : ℤ) → InRange kind z → is_in_range kind z ≡ true
in_range_test kind z h = grind arith

pub range_of : (kind : Kind) (z : ℤ) → is_in_range kind z ≡ true → InRange kind z
range_of kind z e =
    let low = and_left (int_le (least kind) z) (int_le z (greatest kind)) e in
    let high = and_right (int_le (least kind) z) (int_le z (greatest kind)) e in
    (at_most (least kind) z low, at_most z (greatest kind) high)
  where
    at_most : (a b : ℤ) → int_le a b ≡ true → a ≤ℤ b
    at_most a b f = grind (arith, ints)

pub given_number : (layout : Layout) (type : CType) (kind : Kind) (z : ℤ) → integer_kind type ≡ Some kind → InRange kind z → IsGiven layout type (integer_value kind z)
given_number layout type kind z e h = record {
  typed = (own_integer type kind e, h);
  set = λ k. refl;
  whole = ap (λ (t : CType). not (is_array t)) (own_integer type kind e);
}

same_integer : (k j : Kind) → integer k ≡ integer j → k ≡ j
same_integer k j e = cc

-- an expression of an integer type gives a number of its kind
pub record IsNumber (kind : Kind) (value : Value) : Type 0 where
  pub z : ℤ
  pub is : value ≡ integer_value kind z
  pub range : InRange kind z

-- one of a pointer type a pointer
pub record IsAddress (value : Value) : Type 0 where
  pub p : Pointer
  pub is : value ≡ pointer_value p

pub has_number : (layout : Layout) (type : CType) (kind : Kind) → own_type type ≡ integer kind → (value : Value) → HasType layout type value → IsNumber kind value ⊎ (value ≡ unset)
has_number layout type kind o (integer_value other z) h =
    let same = same_integer other kind (sym h.0 ∙ o) in
    inl (record { z = z; is = ap (λ (k : Kind). integer_value k z) same; range = subst (λ (k : Kind). InRange k z) same h.1 })
has_number layout type kind o (pointer_value p) h = absurd (false≢true (ap points (sym o) ∙ h))
has_number layout type kind o (parts all) h = absurd (false≢true (ap has_parts (sym o) ∙ h.0))
has_number layout type kind o unset h = inr refl

pub has_address : (layout : Layout) (type inner : CType) → own_type type ≡ pointer inner → (value : Value) → HasType layout type value → IsAddress value ⊎ (value ≡ unset)
has_address layout type inner o (integer_value other z) h = absurd (false≢true (ap points (sym h.0) ∙ ap points o))
has_address layout type inner o (pointer_value p) h = inl (record { p = p; is = refl })
has_address layout type inner o (parts all) h = absurd (false≢true (ap has_parts (sym o) ∙ h.0))
has_address layout type inner o unset h = inr refl

unset_set : (value : Value) → value ≡ unset → is_unset value ≡ false → ⊥
unset_set value e f = true≢false (ap is_unset (sym e) ∙ f)

pub number_given : (layout : Layout) (type : CType) (kind : Kind) → integer_kind type ≡ Some kind → (value : Value) → IsGiven layout type value → IsNumber kind value
number_given layout type kind e value given = pick (has_number layout type kind (own_integer type kind e) value given.typed)
  where
    pick : IsNumber kind value ⊎ (value ≡ unset) → IsNumber kind value
    pick (inl h) = h
    pick (inr h) = absurd (unset_set value h (given.set (ap has_values (own_integer type kind e))))

pub own_target : (type inner : CType) → target type ≡ Some inner → own_type type ≡ pointer inner
own_target (pointer other) inner e = ap pointer (some_is_some other inner e)
own_target (const (pointer other)) inner e = ap pointer (some_is_some other inner e)
own_target (const type) inner e = absurd (none_is_some inner e)
own_target type inner e = absurd (none_is_some inner e)

pub given_address : (layout : Layout) (inner : CType) (p : Pointer) → IsGiven layout (pointer inner) (pointer_value p)
given_address layout inner p = record { typed = refl; set = λ k. refl; whole = refl }

pub address_given : (layout : Layout) (type inner : CType) → target type ≡ Some inner → (value : Value) → IsGiven layout type value → IsAddress value
address_given layout type inner e value given = pick (has_address layout type inner (own_target type inner e) value given.typed)
  where
    pick : IsAddress value ⊎ (value ≡ unset) → IsAddress value
    pick (inl h) = h
    pick (inr h) = absurd (unset_set value h (given.set (ap has_values (own_target type inner e))))

some_of : {A : Type 0} (o : Option A) → is_some o ≡ true → (a : A) × (o ≡ Some a)
some_of None e = absurd (false≢true e)
some_of (Some a) e = (a, refl)

-- a scalar is a number or a pointer
pub scalar_given : (layout : Layout) (type : CType) → IsTrue (is_scalar type) → (value : Value) → IsGiven layout type value → ((kind : Kind) × (integer_kind type ≡ Some kind) × IsNumber kind value) ⊎ ((inner : CType) × (target type ≡ Some inner) × IsAddress value)
scalar_given layout type e value given = by_kind (integer_kind type) refl
  where
    by_kind : (o : Option Kind) → integer_kind type ≡ o → ((kind : Kind) × (integer_kind type ≡ Some kind) × IsNumber kind value) ⊎ ((inner : CType) × (target type ≡ Some inner) × IsAddress value)
    by_kind (Some kind) k = inl (kind, k, number_given layout type kind k value given)
    by_kind None k =
        let t = some_of (target type) (ap (λ (o : Option Kind). is_some o || is_pointer type) (sym k) ∙ e) in
        inr (t.0, t.1, address_given layout type t.0 t.1 value given)

pub void_given : (layout : Layout) → IsGiven layout void unset
void_given layout = record { typed = refl; set = λ k. absurd (false≢true k); whole = refl }

-- ---- complete types

pub complete_values : (table : Table) (type : CType) → IsSome (size_of table type) → IsTrue (has_values (own_type type))
complete_values table void e = absurd (false≢true e)
complete_values table (function result parameters) e = absurd (false≢true e)
complete_values table (const type) e = complete_values table type e
complete_values table type e = refl

fitting : (extent : Extent) (o : Option Extent) (one : Extent) → o ≡ if_fits extent → o ≡ Some one → one.size ≤ most_type_bytes
fitting extent o one e f = by_test (nat_le extent.size most_type_bytes) refl (sym e ∙ f)
  where
    at_most : (a b : ℕ) → nat_le a b ≡ true → a ≤ b
    at_most a b g = grind arith

    by_test : (b : Bool) → nat_le extent.size most_type_bytes ≡ b → (if b then Some extent else None) ≡ Some one → one.size ≤ most_type_bytes
    by_test true g h = subst (λ (x : Extent). x.size ≤ most_type_bytes) (some_is_some extent one h) (at_most extent.size most_type_bytes g)
    by_test false g h = absurd (none_is_some one h)

kind_size : (kind : Kind) → size kind ≤ 8
kind_size CBool = omega arith
kind_size Char = omega arith
kind_size SChar = omega arith
kind_size UChar = omega arith
kind_size Short = omega arith
kind_size UShort = omega arith
kind_size Int = omega arith
kind_size UInt = omega arith
kind_size Long = omega arith
kind_size ULong = omega arith
kind_size LLong = omega arith
kind_size ULLong = omega arith

eight : 8 ≤ most_type_bytes
eight = omega arith

-- no type is larger than the greatest
size_within : (table : Table) → IsSoundTable table → (type : CType) (one : Extent) → layout_of table type ≡ Some one → one.size ≤ most_type_bytes
size_within table sound void one e = absurd (none_is_some one e)
size_within table sound (integer kind) one e =
    let s = ap (λ (x : Extent). x.size) (some_is_some _ one e) in let k = kind_size kind in subst (λ n. n ≤ most_type_bytes) s (omega (arith, k, eight))
size_within table sound (pointer type) one e = let s = ap (λ (x : Extent). x.size) (some_is_some _ one e) in subst (λ n. n ≤ most_type_bytes) s eight
size_within table sound (array type None) one e = absurd (none_is_some one e)
size_within table sound (array type (Some count)) one e =
    let inner = bound_some (λ (extent : Extent). if_fits (repeated count extent)) (layout_of table type) one e in
    fitting (repeated count inner.0) (if_fits (repeated count inner.0)) one refl inner.2
size_within table sound (struct number) one e =
    let content = bound_some (λ (content : Content). content.layout) (content_of table number) one e in
    sound.sizes number content.0 one content.1 content.2
size_within table sound (function result parameters) one e = absurd (none_is_some one e)
size_within table sound (const type) one e = size_within table sound type one e

size_range : (n : ℕ) → n ≤ most_type_bytes → InRange ULong (pos n)
size_range n h = (omega (arith, ints), omega (arith, ints))

-- so a size is a value of its kind
pub size_number : (table : Table) → IsSoundTable table → (type : CType) → IsSome (size_of table type) → (n : ℕ) × (size_of table type ≡ Some n) × InRange ULong (pos n)
size_number table sound type e =
    let some = some_of (size_of table type) e in
    let from = mapped_some (λ (extent : Extent). extent.size) (layout_of table type) some.0 some.1 in
    (some.0, some.1, size_range some.0 (subst (λ n. n ≤ most_type_bytes) from.2 (size_within table sound type from.0 from.1)))

-- ---- proper types

pub proper_bare : (type : CType) → IsProper type → is_const (bare type) ≡ false
proper_bare (const (const type)) h = absurd (false≢true h.0)
proper_bare (const type) h = refl
proper_bare type h = refl

-- what is read is no array
pub proper_whole : (type : CType) → IsProper type → IsTrue (not (is_array type)) → IsTrue (not (is_array (own_type (bare type))))
proper_whole (const (const type)) h w = absurd (false≢true h.0)
proper_whole (const (array type n)) h w = absurd (false≢true h.0)
proper_whole (const type) h w = refl
proper_whole type h w = w

-- types whose values are the same have some together
pub like_values : (x y : CType) → AreLike x y → IsTrue (has_values x) → IsTrue (has_values y)
like_values x y (inl e) h = subst (λ (t : CType). IsTrue (has_values t)) e h
like_values x y (inr (inl (p, q))) h = pointer_values y q
  where
    pointer_values : (t : CType) → IsTrue (points t) → IsTrue (has_values t)
    pointer_values (pointer t) k = refl
    pointer_values t k = absurd (false≢true k)
like_values x y (inr (inr (p, q))) h = absurd (function_values x p h)
  where
    function_values : (t : CType) → IsTrue (is_function t) → IsTrue (has_values t) → ⊥
    function_values (function t ts) k g = false≢true g
    function_values t k g = false≢true k

pub scalar_values : (type : CType) → IsTrue (is_scalar type) → IsTrue (has_values (own_type type))
scalar_values (integer kind) h = refl
scalar_values (pointer type) h = refl
scalar_values (const (integer kind)) h = refl
scalar_values (const (pointer type)) h = refl
scalar_values (const type) h = absurd (false≢true h)
scalar_values type h = absurd (false≢true h)
