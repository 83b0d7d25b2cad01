-- Steps of a path on which a pointer moves.
use Rattle.std.proofs.Common.{◌≡◌, ℕ, zero, suc, ◌==◌, ◌&&◌, Bool, true, false, if◌then◌else◌, List, [], ◌∷◌, ◌++◌, length, map, take, drop, Option, Some, None, option_map, ℤ, refl, sym, ap, ◌∙◌, arith, eqb-true, append_assoc}
use Rattle.std.proofs.lemmas.Bool.{eqb-false, false≢true}
use Rattle.dm_type.specs.CTypes.{CType, bare}
use Rattle.dm_meaning.specs.Objects.{Layout, moved_in, last_part, is_array, moved_along, inner_type}
use Rattle.dm_meaning.specs.Values as values
use Rattle.dm_value.specs.declared.path.Part.{Part}
use Rattle.dm_value.specs.Parts.{view_of_part}

-- a step further along a path
abbrev is_empty : values.Path → Bool
is_empty [] = true
is_empty (first ∷ rest) = false

pub take-next : (all : values.Path) (k : ℕ) (next : values.Part) (rest : values.Path) → drop k all ≡ next ∷ rest → take (suc k) all ≡ take k all ++ next ∷ []
take-next [] zero next rest is = absurd (false≢true (sym (ap is_empty is)))
take-next [] (suc k) next rest is = absurd (false≢true (sym (ap is_empty is)))
take-next (first ∷ all) zero next rest is = ap (λ path. take 1 path) is
take-next (first ∷ all) (suc k) next rest is = ap (λ others. first ∷ others) (take-next all k next rest is)

abbrev behind_first : values.Path → values.Path
behind_first [] = []
behind_first (first ∷ rest) = rest

pub drop-next : (all : values.Path) (k : ℕ) (next : values.Part) (rest : values.Path) → drop k all ≡ next ∷ rest → drop (suc k) all ≡ rest
drop-next [] zero next rest is = absurd (false≢true (sym (ap is_empty is)))
drop-next [] (suc k) next rest is = absurd (false≢true (sym (ap is_empty is)))
drop-next (first ∷ all) zero next rest is = ap behind_first is
drop-next (first ∷ all) (suc k) next rest is = drop-next all k next rest is

-- what follows one step more
pub one-more : (before : values.Path) (step : values.Part) (found : Option values.Path)
    → option_map (λ rest. (before ++ step ∷ []) ++ rest) found ≡ option_map (λ rest. before ++ rest) (option_map (λ rest. step ∷ rest) found)
one-more before step None = refl
one-more before step (Some rest) = ap Some (append_assoc before (step ∷ []) rest)

-- a step that isn't the last to an element of an array
array-or : (array : Bool) (along otherwise : Option values.Path) → (array && (0 == 0)) ≡ false → (if array then along else otherwise) ≡ otherwise
array-or true along otherwise no_one = absurd (eqb-false 0 0 no_one refl)
array-or false along otherwise no_one = refl

within : (whole target : CType) (number : ℕ) (rest : List Part) (count : ℤ) (found : Option values.Path) → (is_array whole && (length rest == 0)) ≡ false
    → last_part whole target number (map view_of_part rest) count found ≡ found
within whole target number [] count found no_one = array-or (is_array whole) (moved_along whole target number count) found no_one
within whole target number (step ∷ rest) count found no_one = refl

-- and one that is
array-then : (array : Bool) (along otherwise : Option values.Path) → (array && (0 == 0)) ≡ true → (if array then along else otherwise) ≡ along
array-then true along otherwise is = refl
array-then false along otherwise is = absurd (false≢true is)

longer : (array : Bool) (n : ℕ) → (array && (suc n == 0)) ≡ true → ⊥
longer true n is = let e = eqb-true (suc n) 0 is in omega (arith, e)
longer false n is = false≢true is

at-last : (whole target : CType) (number : ℕ) (rest : List Part) (count : ℤ) (found : Option values.Path) → (is_array whole && (length rest == 0)) ≡ true
    → last_part whole target number (map view_of_part rest) count found ≡ moved_along whole target number count
at-last whole target number [] count found is = array-then (is_array whole) (moved_along whole target number count) found is
at-last whole target number (step ∷ rest) count found is = absurd (longer (is_array whole) (length rest) is)

-- the last step is to an element of an array
pub moved-last : (layout : Layout) (type target whole : CType) (number : ℕ) (left : values.Path) (rest : List Part) (count : ℤ)
    → left ≡ values.part number ∷ map view_of_part rest → whole ≡ bare type → (is_array whole && (length rest == 0)) ≡ true
    → moved_along whole target number count ≡ moved_in layout type target left count
moved-last layout type target whole number left rest count is same last =
    ap (λ w. moved_along w target number count) same
    ∙ (sym (at-last (bare type) target number rest count _ (ap (λ w. is_array w && (length rest == 0)) (sym same) ∙ last))
    ∙ ap (λ path. moved_in layout type target path count) (sym is))

-- it no_one
pub moved-within : (layout : Layout) (type target whole inner : CType) (number : ℕ) (before left : values.Path) (rest : List Part) (count : ℤ)
    → left ≡ values.part number ∷ map view_of_part rest → whole ≡ bare type → (is_array whole && (length rest == 0)) ≡ false → inner ≡ inner_type layout whole number
    → option_map (λ path. (before ++ values.part number ∷ []) ++ path) (moved_in layout inner target (map view_of_part rest) count)
    ≡ option_map (λ path. before ++ path) (moved_in layout type target left count)
moved-within layout type target whole inner number before left rest count is same no_one within_it =
    one-more before (values.part number) (moved_in layout inner target (map view_of_part rest) count)
    ∙ ap (option_map (λ path. before ++ path))
    (ap (λ one. option_map (λ path. values.part number ∷ path) (moved_in layout one target (map view_of_part rest) count)) (within_it ∙ ap (λ w. inner_type layout w number) same)
    ∙ (sym (within (bare type) target number rest count _ (ap (λ w. is_array w && (length rest == 0)) (sym same) ∙ no_one))
    ∙ ap (λ path. moved_in layout type target path count) (sym is)))
