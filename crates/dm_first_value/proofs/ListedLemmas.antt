-- The parts of a value in front of zeros.
use Rattle.std.proofs.Common.{◌≡◌, ℕ, List, [], ◌++◌, map, take, drop, ap, sym, ◌∙◌}
use Rattle.std.proofs.lemmas.List.{drop-map, take-map}
use Rattle.dm_meaning.specs.Values as values
use Rattle.dm_value.specs.declared.value.Value.{Value}
use Rattle.dm_value.specs.Views.{view_of_value}

-- copies of the first of some values
pub front-seen : (n : ℕ) (all first start made : List Value) (seen : List values.Value) → start ≡ [] → first ≡ take n all
    → map view_of_value made ≡ map view_of_value start ++ map view_of_value first → map view_of_value all ≡ seen → map view_of_value made ≡ take n seen
front-seen n all first start made seen none is more same =
    more ∙ (ap (λ s. map view_of_value s ++ map view_of_value first) none ∙ (ap (map view_of_value) is ∙ (sym (take-map view_of_value n all) ∙ ap (take n) same)))

-- some values, and others behind so many
pub behind-seen : (n : ℕ) (given all last made : List Value) (seen : List values.Value) → last ≡ drop n all
    → map view_of_value made ≡ map view_of_value given ++ map view_of_value last → map view_of_value all ≡ seen
    → map view_of_value made ≡ map view_of_value given ++ drop n seen
behind-seen n given all last made seen is more same =
    more ∙ ap (λ rest. map view_of_value given ++ rest) (ap (map view_of_value) is ∙ (sym (drop-map view_of_value n all) ∙ ap (drop n) same))
