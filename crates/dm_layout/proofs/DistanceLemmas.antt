-- The distance of places by the first steps of their paths.
use Rattle.std.proofs.Common.{◌≡◌, ℕ, ℤ, ◌==◌, ◌&&◌, false, List, [], ◌∷◌, length, map, Option, refl, sym, ap, ◌∙◌}
use Rattle.std.proofs.lemmas.Bool.{false≢true}
use Rattle.dm_type.specs.CTypes.{CType, void, integer, pointer, array, struct, function, const, bare}
use Rattle.dm_meaning.specs.Objects.{Layout, distance, distance_between, apart_within, inner_type, is_array}
use Rattle.dm_meaning.specs.Values as values
use Rattle.dm_meaning.specs.Values.{part, past}
use Rattle.dm_value.specs.declared.path.Part.{Part}
use Rattle.dm_value.specs.Parts.{view_of_part}

-- steps that aren't both the last ones, to elements of an array
not-last : (whole target : CType) (m n : ℕ) (rest others : List Part) (within : Option ℤ) → (is_array whole && ((length rest == 0) && (length others == 0))) ≡ false
    → distance_between whole target m n (map view_of_part rest) (map view_of_part others) within ≡ apart_within (m == n) within
not-last (array type count) target m n [] [] within is = absurd (false≢true (sym is))
not-last (array type count) target m n [] (other ∷ others) within is = refl
not-last (array type count) target m n (step ∷ rest) others within is = refl
not-last void target m n rest others within is = refl
not-last (integer kind) target m n rest others within is = refl
not-last (pointer type) target m n rest others within is = refl
not-last (struct number) target m n rest others within is = refl
not-last (function result parameters) target m n rest others within is = refl
not-last (const type) target m n rest others within is = refl

-- such steps lead to the distance of what is left, where they are to one part
pub further : (layout : Layout) (type target whole : CType) (m n : ℕ) (left right : values.Path) (rest others : List Part)
    → left ≡ part m ∷ map view_of_part rest → right ≡ part n ∷ map view_of_part others → whole ≡ bare type
    → (is_array whole && ((length rest == 0) && (length others == 0))) ≡ false
    → distance layout type target left right ≡ apart_within (m == n) (distance layout (inner_type layout (bare type) m) target (map view_of_part rest) (map view_of_part others))
further layout type target whole m n left right rest others is also same no_one =
    ap (λ p. distance layout type target p right) is
    ∙ (ap (λ q. distance layout type target (part m ∷ map view_of_part rest) q) also
    ∙ not-last (bare type) target m n rest others _ (ap (λ w. is_array w && ((length rest == 0) && (length others == 0))) (sym same) ∙ no_one))
