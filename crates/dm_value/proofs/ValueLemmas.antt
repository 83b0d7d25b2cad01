-- What values of each form stand for, and their parts.
use Rattle.std.proofs.Common.{◌≡◌, ℕ, zero, suc, ◌==◌, nat_lt, true, false, List, [], ◌∷◌, ◌++◌, length, map, Option, Some, None, option_map, slice_get, Bor, refl, sym, ap, ◌∙◌, rules, arith, eqb-true, lt-ltb}
use Rattle.std.proofs.lemmas.Bool.{eqb-false}
use Rattle.std.proofs.lemmas.List.{map_push}
use Rattle.std.proofs.lemmas.Option.{slice_get-map}
use Rattle.std.specs.declared.alloc.Global.{Global}
use Rattle.std.specs.declared.rc.Rc.{Rc}
use Rattle.std.specs.Option.{MatchOption, option_and_then}
use Rattle.dm_meaning.specs.Causes as causes
use Rattle.dm_meaning.specs.Memory as memory
use Rattle.dm_meaning.specs.Values as values
use Rattle.dm_value.specs.declared.value.Value as q
use Rattle.dm_value.specs.declared.value.Value.{Value}
use Rattle.dm_value.specs.declared.value.Value.TheVariants as form
use Rattle.dm_value.specs.declared.path.Part.{Part}
use Rattle.dm_value.specs.Parts.{view_of_part}
use Rattle.dm_value.specs.Views.{view_of_value}

-- the parts of a value are those of which it is made
pub view-Parts : (parts : Rc (List Value) Global) → view_of_value (form.Parts parts) ≡ values.parts (values.values (map view_of_value parts.value))
view-Parts parts = search (rules, q.the_lemmas)

-- a list of values, and back
pub value_list-values : (all : List values.Value) → values.value_list (values.values all) ≡ all
value_list-values [] = refl
value_list-values (first ∷ rest) = ap (λ others. first ∷ others) (value_list-values rest)

-- a part of a value of these parts
pub part-Parts : (value : Value) (parts : Rc (List Value) Global) (number : ℕ) → value ≡ form.Parts parts
    → slice_get (values.parts_in (view_of_value value)) number ≡ option_map view_of_value (slice_get parts.value number)
part-Parts value parts number is =
    ap (λ seen. slice_get (values.parts_in seen) number) (ap view_of_value is ∙ view-Parts parts)
    ∙ (ap (λ all. slice_get all number) (value_list-values (map view_of_value parts.value)) ∙ slice_get-map view_of_value parts.value number)

-- the part of a number, found among the items
pub found-part : (value : Value) (parts : Rc (List Value) Global) (items : List Value) (number : ℕ) (result : Option (Bor Value)) → value ≡ form.Parts parts → items ≡ parts.value
    → MatchOption result (slice_get items number ≡ None) (λ inner. slice_get items number ≡ Some inner.now)
    → MatchOption result (values.part_value (view_of_value value) (values.part number ∷ []) ≡ None)
    (λ inner. values.part_value (view_of_value value) (values.part number ∷ []) ≡ Some (view_of_value inner.now))
found-part value parts items number None is same found =
    ap (option_and_then Some) (part-Parts value parts number is ∙ ap (option_map view_of_value) (ap (λ all. slice_get all number) (sym same) ∙ found))
found-part value parts items number (Some inner) is same found =
    ap (option_and_then Some) (part-Parts value parts number is ∙ ap (option_map view_of_value) (ap (λ all. slice_get all number) (sym same) ∙ found))

-- ---- string literals

-- a character has no parts
pub part-character : (byte : ℕ) (step : values.Part) (path : values.Path) → values.part_value (memory.character byte) (step ∷ path) ≡ None
part-character byte (values.part number) path = refl
part-character byte values.past path = refl

-- a part of a literal is a part of one of its characters
pub part-literal : (bytes : List ℕ) (number : ℕ) (path : values.Path)
    → memory.value_in (values.part number ∷ path) (Some (memory.literal_block bytes))
    ≡ option_and_then (λ inner. values.part_value inner path) (slice_get (map memory.character bytes ++ memory.character 0 ∷ []) number)
part-literal bytes number path =
    ap (λ all. option_and_then (λ inner. values.part_value inner path) (slice_get all number)) (value_list-values (map memory.character bytes ++ memory.character 0 ∷ []))

-- no part of a literal is within a character
deep-part : (all : List values.Value) (number : ℕ) (step : values.Part) (path : values.Path) (bytes : List ℕ) → all ≡ map memory.character bytes
    → option_and_then (λ inner. values.part_value inner (step ∷ path)) (slice_get all number) ≡ None
deep-part all number step path [] is = rw is refl
deep-part all zero step path (byte ∷ bytes) is = rw is (part-character byte step path)
deep-part all (suc number) step path (byte ∷ bytes) is = rw is (deep-part (map memory.character bytes) number step path bytes refl)

pub no-deep-part : (bytes : List ℕ) (number : ℕ) (step : values.Part) (path : values.Path)
    → memory.value_in (values.part number ∷ step ∷ path) (Some (memory.literal_block bytes)) ≡ None
no-deep-part bytes number step path =
    part-literal bytes number (step ∷ path) ∙ deep-part _ number step path (bytes ++ 0 ∷ []) (sym (map_push memory.character bytes 0))

-- by the steps of a path
some-id : (option : Option values.Value) → option_and_then (λ inner. Some inner) option ≡ option
some-id None = refl
some-id (Some value) = refl

pub deep-literal : (bytes : List ℕ) (number : ℕ) (path : values.Path) (rest : List Part) → path ≡ values.part number ∷ map view_of_part rest → (length rest == 0) ≡ false
    → memory.value_in path (Some (memory.literal_block bytes)) ≡ None
deep-literal bytes number path [] is some = absurd (eqb-false 0 0 some refl)
deep-literal bytes number path (step ∷ rest) is some = rw is (no-deep-part bytes number (view_of_part step) (map view_of_part rest))

pub one-literal : (bytes : List ℕ) (number : ℕ) (path : values.Path) (rest : List Part) → path ≡ values.part number ∷ map view_of_part rest → (length rest == 0) ≡ true
    → memory.value_in path (Some (memory.literal_block bytes)) ≡ slice_get (map memory.character bytes ++ memory.character 0 ∷ []) number
one-literal bytes number path [] is none = rw is (part-literal bytes number [] ∙ some-id (slice_get (map memory.character bytes ++ memory.character 0 ∷ []) number))
one-literal bytes number path (step ∷ rest) is none = absurd (let e = eqb-true (suc (length rest)) 0 none in omega (arith, e))

-- a character was set
shorter : (m n : ℕ) → nat_lt (suc m) (suc n) ≡ nat_lt m n
shorter m n = grind arith

pub is_unset-at : (bytes : List ℕ) (number : ℕ)
    → nat_lt (length bytes) number ≡ causes.is_unset (memory.or_unset (slice_get (map memory.character bytes ++ memory.character 0 ∷ []) number))
is_unset-at [] zero = refl
is_unset-at [] (suc number) = lt-ltb 0 (suc number) (omega arith)
is_unset-at (byte ∷ bytes) zero = grind arith
is_unset-at (byte ∷ bytes) (suc number) = shorter (length bytes) number ∙ is_unset-at bytes number

-- what was never set
pub view-Unset : view_of_value form.Unset ≡ values.unset
view-Unset = search (rules, q.the_lemmas)

-- items of a value
pub parts-of : (value : Value) (parts : Rc (List Value) Global) (items : List Value) → value ≡ form.Parts parts → items ≡ parts.value
    → map view_of_value items ≡ values.parts_in (view_of_value value)
parts-of value parts items is same =
    ap (map view_of_value) same ∙ (sym (value_list-values (map view_of_value parts.value)) ∙ ap values.parts_in (sym (ap view_of_value is ∙ view-Parts parts)))
