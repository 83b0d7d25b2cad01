-- What units tell one after another.
use Rattle.std.proofs.Common.{◌≡◌, ℕ, ◌+◌, ◌<◌, ◌≤◌, true, false, cond, List, ◌∷◌, length, drop, get_or, Option, Some, None, refl, sym, ap, ◌∙◌}
use Rattle.std.proofs.lemmas.List.{drop_all}
use Rattle.dm_token.specs.declared.place.Place.{Place}
use Rattle.dm_token.specs.declared.expansion.Definition.{Definition}
use Rattle.dm_reading.specs.declared.reading.Reading.{Reading}
use Rattle.dm_rules.specs.Rules.{is_used}
use Rattle.dm_rules.specs.Uses.{or_else, in_first_unit}
use Rattle.dm_rules.proofs.ListLemmas.{item-left}
use Rattle.dm_meanings.specs.declared.meanings.Meanings.{Meanings}
use Rattle.dm_meanings.specs.First.{place_at, reading_of, readings_of}
use Rattle.dm_meanings.specs.Types.{Met, first_met, first_run}

slot-first : (place : Reading → Option Place) (unit : Option Meanings) (units : List (Option Meanings))
    → in_first_unit place (readings_of (unit ∷ units)) ≡ or_else (place_at place unit) (in_first_unit place (readings_of units))
slot-first place None units = refl
slot-first place (Some unit) units = refl

module _ (place : Reading → Option Place) (units : List (Option Meanings)) (i : ℕ) (whole : Option Place) (left : in_first_unit place (readings_of (drop i units)) ≡ whole) where
  pub no-unit : length units ≤ i → whole ≡ None
  no-unit end = sym left ∙ ap (λ units. in_first_unit place (readings_of units)) (drop_all i units end)

  module _ (d : Option Meanings) (inside : i < length units) where
    step : or_else (place_at place (get_or units i d)) (in_first_unit place (readings_of (drop (i + 1) units))) ≡ whole
    step =
        sym (slot-first place (get_or units i d) (drop (i + 1) units)) ∙ sym (ap (λ units. in_first_unit place (readings_of units)) (item-left units i d inside)) ∙ left

    pub first-unit : (found : Place) → Some found ≡ place_at place (get_or units i d) → Some found ≡ whole
    first-unit found here = ap (λ one. or_else one (in_first_unit place (readings_of (drop (i + 1) units)))) here ∙ step

    pub later-unit : None ≡ place_at place (get_or units i d) → in_first_unit place (readings_of (drop (i + 1) units)) ≡ whole
    later-unit here = ap (λ one. or_else one (in_first_unit place (readings_of (drop (i + 1) units)))) here ∙ step

module _ (definition : Definition) (units : List (Option Meanings)) (i : ℕ) (whole : Option Met) (left : first_run definition (readings_of (drop i units)) ≡ whole) where
  pub no-run : length units ≤ i → whole ≡ None
  no-run end = sym left ∙ ap (λ units. first_run definition (readings_of units)) (drop_all i units end)

  module _ (d : Option Meanings) (inside : i < length units) where
    abbrev others : List (Option Meanings)
    others = drop (i + 1) units

    first-of : first_run definition (readings_of (get_or units i d ∷ others)) ≡ whole
    first-of = sym (ap (λ units. first_run definition (readings_of units)) (item-left units i d inside)) ∙ left

    pub run-behind : get_or units i d ≡ None → first_run definition (readings_of others) ≡ whole
    run-behind none = sym (ap (λ one. first_run definition (readings_of (one ∷ others))) none) ∙ first-of

    module _ (unit : Meanings) (there : get_or units i d ≡ Some unit) where
      abbrev reading : Reading
      reading = reading_of unit

      next-unit : cond (is_used definition reading) (first_met definition reading) (first_run definition (readings_of others)) ≡ whole
      next-unit = sym (ap (λ one. first_run definition (readings_of (one ∷ others))) there) ∙ first-of

      pub run-here : true ≡ is_used definition reading → first_met definition reading ≡ whole
      run-here used = ap (λ b. cond b (first_met definition reading) (first_run definition (readings_of others))) used ∙ next-unit

      pub run-later : false ≡ is_used definition reading → first_run definition (readings_of others) ≡ whole
      run-later used = ap (λ b. cond b (first_met definition reading) (first_run definition (readings_of others))) used ∙ next-unit
