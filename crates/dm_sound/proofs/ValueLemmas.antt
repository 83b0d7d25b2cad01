-- Values of types: what a part of one holds, and what is one when a part is stored.
use Rattle.std.specs.Prelude.{◌≡◌, refl, ◌⊎◌, ℕ, zero, suc, ◌<◌, nat_lt, ◌==◌, Bool, true, false, not, ◌||◌, IsTrue, List, [], ◌∷◌, map, replicate, Option, Some, None, option_map, option_and_then, slice_get, if◌then◌else◌}
use Rattle.std.proofs.Common.{arith, ap, sym, ◌∙◌, subst, inl, inr, true≢false}
use Rattle.std.proofs.lemmas.Bool.{false≢true}
use Rattle.dm_int.specs.declared.Kind.{Kind}
use Rattle.dm_int.specs.Kinds.{kinds, number_of}
use Rattle.dm_int.specs.Ranges.{kinds-number_of}
use Rattle.dm_type.specs.Alike.{are_compatible}
use Rattle.dm_type.specs.CTypes.{CType, void, integer, pointer, array, struct, function, const, bare, is_const}
use Rattle.dm_tree.specs.Composites.{covers}
use Rattle.dm_tree.specs.Constants.{integer_kind}
use Rattle.dm_tree.specs.Scenes.{is_function}
use Rattle.dm_meaning.specs.Values.{Path, part, past, Value, Values, integer_value, pointer_value, parts, unset, no_values, more_values, value_list, values, parts_in, part_value, changed_value, with_part}
use Rattle.dm_meaning.specs.Objects.{Layout, Field, Reached, object_of, outside, foreign, unknown, reached_member, element, from_part, part_at, unqualified, agree_without_const, is_array}
use Rattle.dm_meaning.specs.Units.{is_pointer}
use Rattle.dm_meaning.proofs.OptionLemmas.{none_is_some, some_is_some}
use Rattle.dm_sound.specs.TypedValues.{own_type, part_types, has_parts, HasType, HaveTypes}

-- ---- types without their own const

pub own_bare : (type : CType) → own_type (bare type) ≡ own_type type
own_bare (const type) = refl
own_bare type = refl

pub own_not_const : (type : CType) → is_const (own_type type) ≡ false
own_not_const (const type) = own_not_const type
own_not_const type = refl

pub own_plain : (type : CType) → is_const type ≡ false → own_type type ≡ type
own_plain (const type) e = absurd (true≢false e)
own_plain type e = refl

own_unqualified : (type : CType) → unqualified (own_type type) ≡ unqualified type
own_unqualified (const type) = own_unqualified type
own_unqualified type = refl

pub own_integer : (type : CType) (kind : Kind) → integer_kind type ≡ Some kind → own_type type ≡ integer kind
own_integer (integer other) kind e = ap integer (some_is_some other kind e)
own_integer (const (integer other)) kind e = ap integer (some_is_some other kind e)
own_integer (const type) kind e = absurd (none_is_some kind e)
own_integer type kind e = absurd (none_is_some kind e)

-- the value is one of each type that is the same without its own const
pub has_own : (layout : Layout) (a b : CType) → own_type a ≡ own_type b → (value : Value) → HasType layout a value → HasType layout b value
has_own layout a b e (integer_value kind z) h = (sym e ∙ h.0, h.1)
has_own layout a b e (pointer_value p) h = subst (λ (t : CType). IsTrue (is_pointer t)) e h
has_own layout a b e (parts all) h = (subst (λ (t : CType). IsTrue (has_parts t)) e h.0, subst (λ (t : CType). HaveTypes layout (part_types layout t) all) e h.1)
has_own layout a b e unset h = subst (λ (t : CType). part_types layout t ≡ []) e h

-- ---- compatible types

pub number_same : (k j : Kind) → (number_of k == number_of j) ≡ true → k ≡ j
number_same k j e = some_is_some k j (sym (kinds-number_of k) ∙ ap (λ n. slice_get kinds n) (equal_of (number_of k) (number_of j) e) ∙ kinds-number_of j)
  where
    equal_of : (a b : ℕ) → (a == b) ≡ true → a ≡ b
    equal_of a b f = grind arith

struct_same : (m n : ℕ) → (m == n) ≡ true → struct m ≡ struct n
struct_same m n e = ap struct (equal_of m n e)
  where
    equal_of : (a b : ℕ) → (a == b) ≡ true → a ≡ b
    equal_of a b f = grind arith

-- types whose values are the same
abbrev pub AreLike : CType → CType → Type 0
AreLike x y = (x ≡ y) ⊎ ((IsTrue (is_pointer x) × IsTrue (is_pointer y)) ⊎ (IsTrue (is_function x) × IsTrue (is_function y)))

alike_plain : (x y : CType) → are_compatible (unqualified x) (unqualified y) ≡ true → is_const x ≡ false → is_const y ≡ false → IsTrue (not (is_array y)) → AreLike x y
alike_plain void void e f g w = inl refl
alike_plain (integer k) (integer j) e f g w = inl (ap integer (number_same k j e))
alike_plain (pointer a) (pointer b) e f g w = inr (inl (refl, refl))
alike_plain (struct m) (struct n) e f g w = inl (struct_same m n e)
alike_plain (function a these) (function b those) e f g w = inr (inr (refl, refl))
alike_plain (const x) y e f g w = absurd (true≢false f)
alike_plain x (const y) e f g w = absurd (true≢false g)
alike_plain x (array y n) e f g w = absurd (false≢true w)
alike_plain x y e f g w = absurd (false≢true e)

pub alike_own : (a b : CType) → agree_without_const a b ≡ true → IsTrue (not (is_array (own_type b))) → AreLike (own_type a) (own_type b)
alike_own a b e w =
    alike_plain (own_type a) (own_type b) (ap (λ (t : CType). are_compatible t (unqualified (own_type b))) (own_unqualified a) ∙ ap (λ (t : CType). are_compatible (unqualified a) t) (own_unqualified b) ∙ e)
    (own_not_const a) (own_not_const b) w

pointer_parts : (layout : Layout) (t : CType) → IsTrue (is_pointer t) → (part_types layout t ≡ []) × (has_parts t ≡ false)
pointer_parts layout (pointer t) h = (refl, refl)
pointer_parts layout t h = absurd (false≢true h)

function_parts : (layout : Layout) (t : CType) → IsTrue (is_function t) → (part_types layout t ≡ []) × (has_parts t ≡ false) × (is_pointer t ≡ false)
function_parts layout (function t ts) h = (refl, refl, refl)
function_parts layout t h = absurd (false≢true h)

not_integer_pointer : (t : CType) (kind : Kind) → t ≡ integer kind → IsTrue (is_pointer t) → ⊥
not_integer_pointer t kind e h = false≢true (ap is_pointer (sym e) ∙ h)

not_integer_function : (t : CType) (kind : Kind) → t ≡ integer kind → IsTrue (is_function t) → ⊥
not_integer_function t kind e h = false≢true (ap is_function (sym e) ∙ h)

pub has_like : (layout : Layout) (a b : CType) → AreLike (own_type a) (own_type b) → (value : Value) → HasType layout a value → HasType layout b value
has_like layout a b (inl e) value h = has_own layout a b e value h
has_like layout a b (inr (inl (p, q))) (integer_value kind z) h = absurd (not_integer_pointer (own_type a) kind h.0 p)
has_like layout a b (inr (inl (p, q))) (pointer_value one) h = q
has_like layout a b (inr (inl (p, q))) (parts all) h = absurd (false≢true (sym (pointer_parts layout (own_type a) p).1 ∙ h.0))
has_like layout a b (inr (inl (p, q))) unset h = (pointer_parts layout (own_type b) q).0
has_like layout a b (inr (inr (p, q))) (integer_value kind z) h = absurd (not_integer_function (own_type a) kind h.0 p)
has_like layout a b (inr (inr (p, q))) (pointer_value one) h = absurd (false≢true (sym (function_parts layout (own_type a) p).2 ∙ h))
has_like layout a b (inr (inr (p, q))) (parts all) h = absurd (false≢true (sym (function_parts layout (own_type a) p).1 ∙ h.0))
has_like layout a b (inr (inr (p, q))) unset h = (function_parts layout (own_type b) q).0

-- a value of a type is one of a compatible type that is no array
pub has_agreeing : (layout : Layout) (a b : CType) → agree_without_const a b ≡ true → IsTrue (not (is_array (own_type b))) → (value : Value) → HasType layout a value → HasType layout b value
has_agreeing layout a b e w value h = has_like layout a b (alike_own a b e w) value h

-- the other way round
pub back_like : (x y : CType) → AreLike x y → AreLike y x
back_like x y (inl e) = inl (sym e)
back_like x y (inr (inl (p, q))) = inr (inl (q, p))
back_like x y (inr (inr (p, q))) = inr (inr (q, p))

pub has_agreed : (layout : Layout) (a b : CType) → agree_without_const a b ≡ true → IsTrue (not (is_array (own_type b))) → (value : Value) → HasType layout b value → HasType layout a value
has_agreed layout a b e w value h = has_like layout b a (back_like (own_type a) (own_type b) (alike_own a b e w)) value h

-- types that are compatible, or of which one says all that the other says
pub compatible_like : (a b : CType) → are_compatible a b ≡ true → IsTrue (not (is_array (own_type b))) → AreLike (own_type a) (own_type b)
compatible_like (const a) (const b) e w = compatible_like a b e w
compatible_like void void e w = inl refl
compatible_like (integer k) (integer j) e w = inl (ap integer (number_same k j e))
compatible_like (pointer a) (pointer b) e w = inr (inl (refl, refl))
compatible_like (struct m) (struct n) e w = inl (struct_same m n e)
compatible_like (function a these) (function b those) e w = inr (inr (refl, refl))
compatible_like a (array b n) e w = absurd (false≢true w)
compatible_like a b e w = absurd (false≢true e)

pub covered_like : (a b : CType) → covers a b ≡ true → IsTrue (not (is_array (own_type b))) → AreLike (own_type a) (own_type b)
covered_like (const a) (const b) e w = covered_like a b e w
covered_like void void e w = inl refl
covered_like (integer k) (integer j) e w = inl (ap integer (number_same k j e))
covered_like (pointer a) (pointer b) e w = inr (inl (refl, refl))
covered_like (struct m) (struct n) e w = inl (struct_same m n e)
covered_like (function a these) (function b those) e w = inr (inr (refl, refl))
covered_like a (array b n) e w = absurd (false≢true w)
covered_like a b e w = absurd (false≢true e)

array_pointer : (x : CType) → IsTrue (is_pointer x) → IsTrue (not (is_array x))
array_pointer (array x n) h = absurd (false≢true h)
array_pointer x h = refl

array_function : (x : CType) → IsTrue (is_function x) → IsTrue (not (is_array x))
array_function (array x n) h = absurd (false≢true h)
array_function x h = refl

-- like a type that is no array is no array
pub like_whole : (x y : CType) → AreLike x y → IsTrue (not (is_array y)) → IsTrue (not (is_array x))
like_whole x y (inl e) w = subst (λ (t : CType). IsTrue (not (is_array t))) (sym e) w
like_whole x y (inr (inl (p, q))) w = array_pointer x p
like_whole x y (inr (inr (p, q))) w = array_function x p

-- ---- lists of values

pub values_back : (all : Values) → values (value_list all) ≡ all
values_back no_values = refl
values_back (more_values value rest) = ap (λ (vs : Values). more_values value vs) (values_back rest)

nil_get : (types : List CType) (n : ℕ) (type : CType) → types ≡ [] → slice_get types n ≡ Some type → ⊥
nil_get types n type e f = none_is_some type (ap (λ (ts : List CType). slice_get ts n) (sym e) ∙ f)

-- the value at a number is of the type at that number
pub nth_has : (layout : Layout) (types : List CType) (all : Values) (n : ℕ) (type : CType) → HaveTypes layout types all → slice_get types n ≡ Some type
    → (value : Value) × (slice_get (value_list all) n ≡ Some value) × HasType layout type value
nth_has layout [] all n type h e = absurd (none_is_some type e)
nth_has layout (first ∷ types) no_values n type h e = absurd h
nth_has layout (first ∷ types) (more_values value rest) zero type h e = (value, refl, subst (λ (t : CType). HasType layout t value) (some_is_some first type e) h.0)
nth_has layout (first ∷ types) (more_values value rest) (suc n) type h e = nth_has layout types rest n type h.1 e

-- where there is no type there is no value
none_has : (layout : Layout) (types : List CType) (all : Values) (n : ℕ) → HaveTypes layout types all → slice_get types n ≡ None → slice_get (value_list all) n ≡ None
none_has layout [] no_values n h e = refl
none_has layout [] (more_values value rest) n h e = absurd h
none_has layout (first ∷ types) no_values n h e = absurd h
none_has layout (first ∷ types) (more_values value rest) zero h e = absurd (none_is_some first (sym e))
none_has layout (first ∷ types) (more_values value rest) (suc n) h e = none_has layout types rest n h.1 e

-- a change of one value to another of its type
changed_has : (layout : Layout) (types : List CType) (all : Values) (n : ℕ) (type : CType) (change : Value → Value) → HaveTypes layout types all → slice_get types n ≡ Some type
    → ((value : Value) → HasType layout type value → HasType layout type (change value)) → HaveTypes layout types (values (changed_value n change (value_list all)))
changed_has layout [] all n type change h e k = absurd (none_is_some type e)
changed_has layout (first ∷ types) no_values n type change h e k = absurd h
changed_has layout (first ∷ types) (more_values value rest) zero type change h e k = (
  subst (λ (t : CType). HasType layout t (change value)) (sym (some_is_some first type e)) (k value (subst (λ (t : CType). HasType layout t value) (some_is_some first type e) h.0)),
  subst (λ (vs : Values). HaveTypes layout types vs) (sym (values_back rest)) h.1,
)
changed_has layout (first ∷ types) (more_values value rest) (suc n) type change h e k = (h.0, changed_has layout types rest n type change h.1 e k)

-- ---- parts

replicate_there : (type : CType) (count n : ℕ) → n < count → slice_get (replicate count type) n ≡ Some type
replicate_there type zero n h = absurd (omega arith)
replicate_there type (suc count) zero h = refl
replicate_there type (suc count) (suc n) h = replicate_there type count n (omega arith)

replicate_none : (type : CType) (count n : ℕ) → (n < count → ⊥) → slice_get (replicate count type) n ≡ None
replicate_none type zero n h = refl
replicate_none type (suc count) zero h = absurd (h (omega arith))
replicate_none type (suc count) (suc n) h = replicate_none type count n (λ f. h (omega arith))

pub mapped_get : {A B : Type 0} (f : A → B) (xs : List A) (n : ℕ) → slice_get (map f xs) n ≡ option_map f (slice_get xs n)
mapped_get f [] n = refl
mapped_get f (x ∷ xs) zero = refl
mapped_get f (x ∷ xs) (suc n) = mapped_get f xs n

below_of : (a b : ℕ) → nat_lt a b ≡ true → a < b
below_of a b e = grind arith

not_below_of : (a b : ℕ) → nat_lt a b ≡ false → a < b → ⊥
not_below_of a b e f = true≢false (sym (is_below a b f) ∙ e)
  where
    is_below : (x y : ℕ) → x < y → nat_lt x y ≡ true
    is_below x y g = grind arith

object_type : (a b : CType) (f g : Bool) → object_of a f ≡ object_of b g → a ≡ b
object_type a b f g e = cc

outside_object : (a : CType) (f : Bool) → outside ≡ object_of a f → ⊥
outside_object a f e = cc

foreign_object : (a : CType) (f : Bool) → foreign ≡ object_of a f → ⊥
foreign_object a f e = cc

unknown_object : (a : CType) (f : Bool) → unknown ≡ object_of a f → ⊥
unknown_object a f e = cc

foreign_outside : foreign ≡ outside → ⊥
foreign_outside e = cc

unknown_outside : unknown ≡ outside → ⊥
unknown_outside e = cc

if_object : (b : Bool) (type inner : CType) (f : Bool) → (if b then object_of type false else outside) ≡ object_of inner f → (b ≡ true) × (type ≡ inner)
if_object true type inner f e = (refl, object_type type inner false f e)
if_object false type inner f e = absurd (outside_object inner f e)

if_outside : (b : Bool) (type : CType) → (if b then object_of type false else outside) ≡ outside → b ≡ false
if_outside true type e = absurd (outside_object type false (sym e))
if_outside false type e = refl

member_object : (o : Option Field) (inner : CType) (f : Bool) → reached_member o ≡ object_of inner f → (field : Field) × (o ≡ Some field) × (field.kind ≡ inner)
member_object (Some field) inner f e = (field, refl, object_type field.kind inner false f e)
member_object None inner f e = absurd (foreign_object inner f e)

member_outside : (o : Option Field) → reached_member o ≡ outside → ⊥
member_outside (Some field) e = outside_object field.kind false (sym e)
member_outside None e = foreign_outside e

-- a part that is there is of the type at its number
pub element_there : (layout : Layout) (type : CType) (n : ℕ) (inner : CType) (f : Bool) → element layout type n ≡ object_of inner f
    → (slice_get (part_types layout type) n ≡ Some inner) × IsTrue (has_parts type) × (is_const type ≡ false)
element_there layout (array type (Some count)) n inner f e =
    let both = if_object (nat_lt n count) type inner f e in
    (replicate_there type count n (below_of n count both.0) ∙ ap Some both.1, refl, refl)
element_there layout (array type None) n inner f e = absurd (foreign_object inner f e)
element_there layout (struct number) n inner f e =
    let there = member_object (slice_get (layout.fields number) n) inner f e in
    (mapped_get (λ (field : Field). field.kind) (layout.fields number) n ∙ ap (option_map (λ (field : Field). field.kind)) there.1 ∙ ap Some there.2, refl, refl)
element_there layout type n inner f e = absurd (foreign_object inner f e)

-- and there is none at the number of a part outside
element_outside : (layout : Layout) (type : CType) (n : ℕ) → element layout type n ≡ outside → (slice_get (part_types layout type) n ≡ None) × (is_const type ≡ false)
element_outside layout (array type (Some count)) n e = (replicate_none type count n (not_below_of n count (if_outside (nat_lt n count) type e)), refl)
element_outside layout (array type None) n e = absurd (foreign_outside e)
element_outside layout (struct number) n e = absurd (member_outside (slice_get (layout.fields number) n) e)
element_outside layout type n e = absurd (foreign_outside e)

-- where a way on leads to an object there is one at its first part
from_object : (r : Reached) (following : CType → Reached) (type : CType) (f : Bool) → from_part r following ≡ object_of type f
    → (inner : CType) × (g : Bool) × (r ≡ object_of inner g) × (following inner ≡ object_of type f)
from_object (object_of inner g) following type f e = (inner, g, refl, e)
from_object outside following type f e = absurd (outside_object type f e)
from_object foreign following type f e = absurd (foreign_object type f e)
from_object unknown following type f e = absurd (unknown_object type f e)

from_outside : (r : Reached) (following : CType → Reached) → from_part r following ≡ outside
    → (r ≡ outside) ⊎ ((inner : CType) × (g : Bool) × (r ≡ object_of inner g) × (following inner ≡ outside))
from_outside (object_of inner g) following e = inr (inner, g, refl, e)
from_outside outside following e = inl refl
from_outside foreign following e = absurd (foreign_outside e)
from_outside unknown following e = absurd (unknown_outside e)

-- the types of the parts, of the type without its own const
pub parts_own : (layout : Layout) (type : CType) → is_const (bare type) ≡ false → own_type type ≡ bare type
parts_own layout type e = sym (own_bare type) ∙ own_plain (bare type) e

-- the parts of a value whose type has parts
pub compound_has : (layout : Layout) (type inner : CType) (n : ℕ) (value : Value) → HasType layout type value → IsTrue (has_parts (own_type type)) → slice_get (part_types layout (own_type type)) n ≡ Some inner
    → (all : Values) × (value ≡ parts all) × HaveTypes layout (part_types layout (own_type type)) all
compound_has layout type inner n (integer_value kind z) h p e = absurd (false≢true (ap has_parts (sym h.0) ∙ p))
compound_has layout type inner n (pointer_value one) h p e = absurd (false≢true (sym (pointer_parts layout (own_type type) h).1 ∙ p))
compound_has layout type inner n (parts all) h p e = (all, refl, h.1)
compound_has layout type inner n unset h p e = absurd (nil_get (part_types layout (own_type type)) n inner h e)

-- the part of a value to which a path leads
pub value_there : (layout : Layout) (fixed : Bool) (type : CType) (path : Path) (inner : CType) (f : Bool) → part_at layout fixed type path ≡ object_of inner f → (value : Value) → HasType layout type value
    → (found : Value) × (part_value value path ≡ Some found) × HasType layout inner found
value_there layout fixed type [] inner f e value h =
    (value, refl, has_own layout type inner (sym (own_bare type) ∙ ap own_type (object_type (bare type) inner (fixed || is_const type) f e)) value h)
value_there layout fixed type (past ∷ path) inner f e value h = absurd (outside_object inner f e)
value_there layout fixed type (part n ∷ path) inner f e value h =
    let way = from_object (element layout (bare type) n) (λ t. part_at layout (fixed || is_const type) t path) inner f e in
    let there = element_there layout (bare type) n way.0 way.1 way.2 in
    let own = parts_own layout type there.2 in
    let got : slice_get (part_types layout (own_type type)) n ≡ Some way.0 = ap (λ (t : CType). slice_get (part_types layout t) n) own ∙ there.0 in
    let all = compound_has layout type way.0 n value h (ap has_parts own ∙ there.1) got in
    let one = nth_has layout (part_types layout (own_type type)) all.0 n way.0 all.2 got in
    let rest = value_there layout (fixed || is_const type) way.0 path inner f way.3 one.0 one.2 in (
      rest.0,
      ap (λ (v : Value). part_value v (part n ∷ path)) all.1 ∙ ap (λ (o : Option Value). option_and_then (λ v. part_value v path) o) one.1 ∙ rest.1,
      rest.2,
    )

-- with another value of its type there, the whole has its type
pub stored_has : (layout : Layout) (fixed : Bool) (type : CType) (path : Path) (inner : CType) (f : Bool) → part_at layout fixed type path ≡ object_of inner f → (new : Value) → HasType layout inner new
    → (value : Value) → HasType layout type value → HasType layout type (with_part path new value)
stored_has layout fixed type [] inner f e new g value h =
    has_own layout inner type (sym (sym (own_bare type) ∙ ap own_type (object_type (bare type) inner (fixed || is_const type) f e))) new g
stored_has layout fixed type (past ∷ path) inner f e new g value h = h
stored_has layout fixed type (part n ∷ path) inner f e new g value h =
    let way = from_object (element layout (bare type) n) (λ t. part_at layout (fixed || is_const type) t path) inner f e in
    let there = element_there layout (bare type) n way.0 way.1 way.2 in
    let own = parts_own layout type there.2 in
    let got : slice_get (part_types layout (own_type type)) n ≡ Some way.0 = ap (λ (t : CType). slice_get (part_types layout t) n) own ∙ there.0 in
    let has : IsTrue (has_parts (own_type type)) = ap has_parts own ∙ there.1 in
    let all = compound_has layout type way.0 n value h has got in (
      has,
      subst (λ (v : Value). HaveTypes layout (part_types layout (own_type type)) (values (changed_value n (with_part path new) (parts_in v)))) (sym all.1)
          (changed_has layout (part_types layout (own_type type)) all.0 n way.0 (with_part path new) all.2 got
          (λ v k. stored_has layout (fixed || is_const type) way.0 path inner f way.3 new g v k)),
    )

-- the parts of a value at a number at which its type has none
none_part : (layout : Layout) (type : CType) (n : ℕ) (value : Value) → HasType layout type value → slice_get (part_types layout (own_type type)) n ≡ None → slice_get (parts_in value) n ≡ None
none_part layout type n (integer_value kind z) h e = refl
none_part layout type n (pointer_value one) h e = refl
none_part layout type n (parts all) h e = none_has layout (part_types layout (own_type type)) all n h.1 e
none_part layout type n unset h e = refl

-- a path that leaves an array leads to no value
pub nothing_outside : (layout : Layout) (fixed : Bool) (type : CType) (path : Path) → part_at layout fixed type path ≡ outside → (value : Value) → HasType layout type value → part_value value path ≡ None
nothing_outside layout fixed type [] e value h = absurd (outside_object (bare type) (fixed || is_const type) (sym e))
nothing_outside layout fixed type (past ∷ path) e value h = refl
nothing_outside layout fixed type (part n ∷ path) e value h = by_way (from_outside (element layout (bare type) n) (λ t. part_at layout (fixed || is_const type) t path) e) (λ inner f k v g. nothing_outside layout (fixed || is_const type) inner path k v g)
  where
    by_way : (element layout (bare type) n ≡ outside) ⊎ ((inner : CType) × (g : Bool) × (element layout (bare type) n ≡ object_of inner g) × (part_at layout (fixed || is_const type) inner path ≡ outside))
        → ((inner : CType) (g : Bool) → part_at layout (fixed || is_const type) inner path ≡ outside → (v : Value) → HasType layout inner v → part_value v path ≡ None)
        → part_value value (part n ∷ path) ≡ None
    by_way (inl k) later =
        let none = element_outside layout (bare type) n k in
        ap (λ (o : Option Value). option_and_then (λ v. part_value v path) o)
        (none_part layout type n value h (ap (λ (t : CType). slice_get (part_types layout t) n) (parts_own layout type none.1) ∙ none.0))
    by_way (inr (inner, g, k, l)) later =
        let there = element_there layout (bare type) n inner g k in
        let own = parts_own layout type there.2 in
        let got : slice_get (part_types layout (own_type type)) n ≡ Some inner = ap (λ (t : CType). slice_get (part_types layout t) n) own ∙ there.0 in
        let all = compound_has layout type inner n value h (ap has_parts own ∙ there.1) got in
        let one = nth_has layout (part_types layout (own_type type)) all.0 n inner all.2 got in
        ap (λ (v : Value). part_value v (part n ∷ path)) all.1 ∙ ap (λ (o : Option Value). option_and_then (λ v. part_value v path) o) one.1 ∙ later inner g l one.0 one.2
