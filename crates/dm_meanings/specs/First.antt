-- What is met first, as contracts see it, and the readings of those units whose types and names are looked up.
--     readings_of units      these readings, in order
--     place_at place unit      a place in a unit, if its types and names are looked up
use Rattle.std.specs.Prelude.{List, [], ◌∷◌, Option, Some, None}
use Rattle.dm_token.specs.declared.place.Place.{Place}
use Rattle.dm_reading.specs.declared.reading.Reading.{Reading}
use Rattle.dm_meanings.specs.declared.meanings.Meanings.{Meanings}
use Rattle.dm_meanings.specs.declared.types.Met.{Met as Run}
use Rattle.dm_meanings.specs.Types.{Met}

abbrev pub reading_of : Meanings → Reading
reading_of one = one.index.now.reading.now

abbrev pub readings_of : List (Option Meanings) → List Reading
readings_of [] = []
readings_of (None ∷ units) = readings_of units
readings_of (Some one ∷ units) = reading_of one ∷ readings_of units

abbrev pub place_at : (Reading → Option Place) → Option Meanings → Option Place
place_at place None = None
place_at place (Some one) = place (reading_of one)

abbrev pub seen : Run → Met
seen met = record { reading = reading_of met.unit.now; run = met.run.now }
