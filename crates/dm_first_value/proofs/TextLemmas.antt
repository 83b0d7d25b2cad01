-- The elements of an array that a string literal initialises, one after the other.
use Rattle.std.proofs.Common.{◌≡◌, ℕ, zero, suc, ◌+◌, ◌<◌, List, [], ◌∷◌, ◌++◌, length, map, replicate, take, Option, Some, None, slice_get, rules, refl, ap, sym, arith, ℤ, ◌∙◌}
use Rattle.std.proofs.lemmas.List.{map-append}
use Rattle.std.proofs.lemmas.Option.{none-some}
use Rattle.dm_int.specs.declared.Kind.{Kind}
use Rattle.dm_int.specs.declared.Kind.TheVariants.{Char}
use Rattle.dm_int.specs.Kinds.{convert}
use Rattle.dm_type.specs.CTypes.{CType, integer}
use Rattle.dm_meaning.specs.Memory.{character, literal_block}
use Rattle.dm_meaning.specs.Objects.{zero_of}
use Rattle.dm_meaning.specs.Statements.{as_element}
use Rattle.dm_meaning.specs.Values as values
use Rattle.dm_value.specs.declared.value.Value as q
use Rattle.dm_value.specs.declared.value.Value.{Value}
use Rattle.dm_value.specs.declared.value.Value.TheVariants as form
use Rattle.dm_value.specs.Integers.{Number}
use Rattle.dm_value.specs.Views.{view_of_value}
use Rattle.dm_value.proofs.ValueLemmas.{value_list-values}
use Rattle.dm_first_value.specs.Texts.{element_of, kind_of_integers}

-- all elements of an array of so many
abbrev pub all_elements : CType → ℕ → List values.Value → List values.Value
all_elements type count characters = map (as_element type) characters ++ replicate count (zero_of type)

zero-there : (count n : ℕ) (value : values.Value) → n < count → slice_get (replicate count value) n ≡ Some value
zero-there zero n value within = absurd (omega (arith, within))
zero-there (suc count) zero value within = refl
zero-there (suc count) (suc n) value within = zero-there count n value (omega (arith, within))

element-there : (type : CType) (characters : List values.Value) (count n : ℕ) → n < count
    → slice_get (all_elements type count characters) n ≡ Some (element_of type (slice_get characters n))
element-there type [] count n within = zero-there count n (zero_of type) within
element-there type (first ∷ rest) count zero within = refl
element-there type (first ∷ rest) count (suc n) within = element-there type rest count n (omega (arith, within))

abbrev other : {A : Type 0} → A → Option A → A
other x None = x
other x (Some y) = y

taken-next : (all : List values.Value) (n : ℕ) (value : values.Value) → slice_get all n ≡ Some value → take (suc n) all ≡ take n all ++ value ∷ []
taken-next [] n value is = absurd (none-some value is)
taken-next (first ∷ rest) zero value is = ap (λ one. one ∷ []) (ap (other first) is)
taken-next (first ∷ rest) (suc n) value is = ap (λ others. first ∷ others) (taken-next rest n value is)

-- one more element
pub one-element : (type : CType) (characters : List values.Value) (count n : ℕ) (items more : List Value) (one : Value) → n < count
    → map view_of_value items ≡ take n (all_elements type count characters) → view_of_value one ≡ element_of type (slice_get characters n) → more ≡ items ++ one ∷ []
    → map view_of_value more ≡ take (n + 1) (all_elements type count characters)
one-element type characters count n items more one within so_far same is =
    let next : n + 1 ≡ suc n = omega arith in
    ap (map view_of_value) is
    ∙ (map-append view_of_value items (one ∷ [])
    ∙ (ap (λ front. front ++ view_of_value one ∷ []) so_far
    ∙ (ap (λ last. take n (all_elements type count characters) ++ last ∷ []) same
    ∙ (sym (taken-next (all_elements type count characters) n (element_of type (slice_get characters n)) (element-there type characters count n within))
    ∙ ap (λ k. take k (all_elements type count characters)) (sym next)))))

-- the character of a number: a byte, the closing 0, or none
pub byte-there : (bytes : List ℕ) (n byte : ℕ) → slice_get bytes n ≡ Some byte → slice_get (map character bytes ++ character 0 ∷ []) n ≡ Some (character byte)
byte-there [] n byte is = absurd (none-some byte is)
byte-there (first ∷ rest) zero byte is = ap (λ one. Some (character (other first one))) is
byte-there (first ∷ rest) (suc n) byte is = byte-there rest n byte is

pub end-there : (bytes : List ℕ) (n : ℕ) → n ≡ length bytes → slice_get (map character bytes ++ character 0 ∷ []) n ≡ Some (character 0)
end-there [] n is = ap (slice_get (character 0 ∷ [])) is
end-there (first ∷ rest) zero is = absurd (omega (arith, is))
end-there (first ∷ rest) (suc n) is = end-there rest n (omega (arith, is))

pub none-there : (bytes : List ℕ) (n : ℕ) → slice_get bytes n ≡ None → (n ≡ length bytes → ⊥) → slice_get (map character bytes ++ character 0 ∷ []) n ≡ None
none-there [] zero none behind = absurd (behind refl)
none-there [] (suc n) none behind = refl
none-there (first ∷ rest) zero none behind = absurd (none-some first (sym none))
none-there (first ∷ rest) (suc n) none behind = none-there rest n none (λ e. behind (ap suc e))

-- what the characters of a literal are
pub characters-there : (bytes : List ℕ) → values.parts_in (literal_block bytes).contents ≡ map character bytes ++ character 0 ∷ []
characters-there bytes = value_list-values (map character bytes ++ character 0 ∷ [])

-- a character as an integer of the elements' kind
pub as-integer : (type : CType) (kind : Kind) (z : ℤ) → kind_of_integers type ≡ Some kind → as_element type (values.integer_value Char z) ≡ values.integer_value kind (convert kind z)
as-integer (integer own) kind z is = ap (λ one. values.integer_value (other own one) (convert (other own one) z)) is
as-integer type kind z is = absurd (none-some kind is)

pub view-Integer : (number : Number) → view_of_value (form.Integer number) ≡ values.integer_value number.kind number.value
view-Integer number = search (rules, q.the_lemmas)
