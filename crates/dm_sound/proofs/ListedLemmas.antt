-- What a list in braces and a string literal give an object is of its type.
use Rattle.std.specs.Prelude.{◌≡◌, refl, ℕ, zero, suc, ◌≤◌, true, IsTrue, List, [], ◌∷◌, ◌++◌, map, take, drop, replicate, Some, pos}
use Rattle.std.proofs.Common.{arith, ap, sym, ◌∙◌, subst}
use Rattle.std.proofs.lemmas.Bool.{false≢true}
use Rattle.dm_int.specs.declared.Kind.{Kind}
use Rattle.dm_int.specs.Ranges.{zero-in_range, in_range-convert}
use Rattle.dm_type.specs.CTypes.{CType, integer, pointer, array, const, bare}
use Rattle.dm_tree.specs.Constants.{integer_kind}
use Rattle.dm_meaning.specs.Values.{Name, numbered, elsewhere, Value, Values, integer_value, pointer_value, parts as compound, unset, no_values, value_list, values, parts_in, literal_of}
use Rattle.dm_meaning.specs.Objects.{Layout, all_zero}
use Rattle.dm_meaning.specs.Memory.{character}
use Rattle.dm_meaning.specs.Programs.{Program, layout}
use Rattle.dm_meaning.specs.Statements.{value_listed, as_element, text_of, array_of, characters_at}
use Rattle.dm_meaning.specs.Units.{is_pointer}
use Rattle.dm_meaning.proofs.OptionLemmas.{none_is_some, some_is_some}
use Rattle.dm_sound.specs.TypedValues.{own_type, part_types, has_parts, HasType, HaveTypes}
use Rattle.dm_sound.specs.TypedTrees.{IsSoundTable}
use Rattle.dm_sound.proofs.ValueLemmas.{own_integer, values_back}
use Rattle.dm_sound.proofs.FirstLemmas.{zero_has}

-- ---- lists in braces (6.7.9p19, p21)

pointer_parts : (type : CType) → IsTrue (is_pointer type) → has_parts type ≡ true → ⊥
pointer_parts (pointer type) h e = false≢true e
pointer_parts type h e = false≢true h

-- the parts of a value of a type that has some
pub parts_have : (laid : Layout) (type : CType) (value : Value) → HasType laid type value → IsTrue (has_parts (own_type type)) → HaveTypes laid (part_types laid (own_type type)) (values (parts_in value))
parts_have laid type (integer_value kind z) h p = absurd (false≢true (ap has_parts (sym h.0) ∙ p))
parts_have laid type (pointer_value one) h p = absurd (pointer_parts (own_type type) h p)
parts_have laid type (compound all) h p = subst (λ (vs : Values). HaveTypes laid (part_types laid (own_type type)) vs) (sym (values_back all)) h.1
parts_have laid type unset h p = subst (λ (ts : List CType). HaveTypes laid ts no_values) (sym h) tt

-- some of one value and the rest of another
mixed_have : (laid : Layout) (n : ℕ) (types : List CType) (xs ys : List Value) → HaveTypes laid types (values xs) → HaveTypes laid types (values ys) → HaveTypes laid types (values (take n xs ++ drop n ys))
mixed_have laid zero types xs ys h k = k
mixed_have laid (suc n) [] [] [] h k = tt
mixed_have laid (suc n) [] [] (y ∷ ys) h k = absurd k
mixed_have laid (suc n) [] (x ∷ xs) ys h k = absurd h
mixed_have laid (suc n) (type ∷ types) [] ys h k = absurd h
mixed_have laid (suc n) (type ∷ types) (x ∷ xs) [] h k = absurd k
mixed_have laid (suc n) (type ∷ types) (x ∷ xs) (y ∷ ys) h k = (h.0, mixed_have laid n types xs ys h.1 k.1)

pub listed_has : (program : Program) → IsSoundTable program.table → (type : CType) → IsTrue (has_parts (own_type type)) → (n : ℕ) (value : Value) → HasType (layout program) type value
    → HasType (layout program) type (value_listed (layout program) type n value)
listed_has program sound type p n value h = (
  p,
  mixed_have (layout program) n (part_types (layout program) (own_type type)) (parts_in value) (parts_in (all_zero (layout program) type))
      (parts_have (layout program) type value h p) (parts_have (layout program) type (all_zero (layout program) type) (zero_has program sound type) p),
)

-- ---- string literals (6.7.9p14)

abbrev AllHave : Layout → CType → List Value → Type 0
AllHave laid type [] = Unit {0}
AllHave laid type (value ∷ rest) = HasType laid type value × AllHave laid type rest

filled_up : (laid : Layout) (type : CType) (zeroed : Value) → HasType laid type zeroed → (count m : ℕ) → count ≤ m → (xs : List Value) → AllHave laid type xs
    → HaveTypes laid (replicate count type) (values (take count (xs ++ replicate m zeroed)))
filled_up laid type zeroed z zero m le xs h = tt
filled_up laid type zeroed z (suc count) m le (x ∷ xs) h = (h.0, filled_up laid type zeroed z count m (omega arith) xs h.1)
filled_up laid type zeroed z (suc count) zero le [] h = absurd (omega arith)
filled_up laid type zeroed z (suc count) (suc m) le [] h = (z, filled_up laid type zeroed z count m (omega arith) [] tt)

abbrev AreCharacters : List Value → Type 0
AreCharacters [] = Unit {0}
AreCharacters (integer_value kind z ∷ rest) = AreCharacters rest
AreCharacters (value ∷ rest) = ⊥

all_characters : (bytes : List ℕ) → AreCharacters (value_list (values (map character bytes ++ character 0 ∷ [])))
all_characters [] = tt
all_characters (byte ∷ bytes) = all_characters bytes

elements_have : (laid : Layout) (type : CType) (kind : Kind) → own_type type ≡ integer kind → (xs : List Value) → AreCharacters xs → AllHave laid type (map (as_element (integer kind)) xs)
elements_have laid type kind e [] h = tt
elements_have laid type kind e (integer_value other z ∷ xs) h = ((e, in_range-convert kind z), elements_have laid type kind e xs h)
elements_have laid type kind e (pointer_value p ∷ xs) h = absurd h
elements_have laid type kind e (compound all ∷ xs) h = absurd h
elements_have laid type kind e (unset ∷ xs) h = absurd h

bare_integer : (type : CType) (kind : Kind) → integer_kind type ≡ Some kind → bare type ≡ integer kind
bare_integer (integer other) kind e = ap integer (some_is_some other kind e)
bare_integer (const (integer other)) kind e = ap integer (some_is_some other kind e)
bare_integer (const type) kind e = absurd (none_is_some kind e)
bare_integer type kind e = absurd (none_is_some kind e)

pub literal_has : (laid : Layout) (element : CType) (kind : Kind) → integer_kind element ≡ Some kind → (count : ℕ) (bytes : List ℕ) (unit : ℕ)
    → HasType laid (array element (Some count)) (array_of (array element (Some count)) (characters_at (literal_of bytes unit)))
literal_has laid element kind e count bytes unit =
    let own = own_integer element kind e in
    let chars = value_list (values (map character bytes ++ character 0 ∷ [])) in
    subst (λ (t : CType). HasType laid (array element (Some count)) (text_of t count chars)) (sym (bare_integer element kind e))
    (refl, filled_up laid element (integer_value kind (pos 0)) (own, zero-in_range kind) count count (omega arith) (map (as_element (integer kind)) chars) (elements_have laid element kind own chars (all_characters bytes)))

nothing_has : (laid : Layout) (element : CType) (kind : Kind) → integer_kind element ≡ Some kind → (count : ℕ) → HasType laid (array element (Some count)) (array_of (array element (Some count)) [])
nothing_has laid element kind e count =
    subst (λ (t : CType). HasType laid (array element (Some count)) (text_of t count [])) (sym (bare_integer element kind e))
    (refl, filled_up laid element (integer_value kind (pos 0)) (own_integer element kind e, zero-in_range kind) count count (omega arith) [] tt)

-- whatever object is designated
pub text_has : (laid : Layout) (element : CType) (kind : Kind) → integer_kind element ≡ Some kind → (count : ℕ) (name : Name)
    → HasType laid (array element (Some count)) (array_of (array element (Some count)) (characters_at name))
text_has laid element kind e count (literal_of bytes unit) = literal_has laid element kind e count bytes unit
text_has laid element kind e count (numbered n) = nothing_has laid element kind e count
text_has laid element kind e count (elsewhere identifier) = nothing_has laid element kind e count
