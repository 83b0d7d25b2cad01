-- What units tell one after another.
use Rattle.std.proofs.Common.{◌≡◌, ℕ, ◌+◌, ◌<◌, List, length, drop, get_or, Option, Some, None, sym, ap, ◌∙◌}
use Rattle.dm_token.specs.declared.place.Place.{Place}
use Rattle.dm_reading.specs.declared.reading.Reading.{Reading}
use Rattle.dm_rules.specs.declared.index.Index.{Index}
use Rattle.dm_rules.specs.Indexes.{readings_of}
use Rattle.dm_rules.specs.Uses.{or_else, in_first_unit}
use Rattle.dm_rules.proofs.ListLemmas.{item-left}

module _ (place : Reading → Option Place) (units : List Index) (i : ℕ) (whole : Option Place) (left : in_first_unit place (readings_of (drop i units)) ≡ whole) where
  module _ (d : Index) (inside : i < length units) where
    step : or_else (place (get_or units i d).reading.now) (in_first_unit place (readings_of (drop (i + 1) units))) ≡ whole
    step = sym (ap (λ units. in_first_unit place (readings_of units)) (item-left units i d inside)) ∙ left

    pub first-unit : (found : Place) → Some found ≡ place (get_or units i d).reading.now → Some found ≡ whole
    first-unit found here = ap (λ one. or_else one (in_first_unit place (readings_of (drop (i + 1) units)))) here ∙ step

    pub later-unit : None ≡ place (get_or units i d).reading.now → in_first_unit place (readings_of (drop (i + 1) units)) ≡ whole
    later-unit here = ap (λ one. or_else one (in_first_unit place (readings_of (drop (i + 1) units)))) here ∙ step
