-- Sets of names.
--     has words name      a name is among them
--     AreSpelled words body      they are the identifiers of a replacement list
--     AreNames words names      they are these
--     AreMacros words readings      they are those of the macros that some unit defines
use Rattle.std.specs.Prelude.{◌≡◌, ℕ, Bool, List, bytes_eq, is_some}
use Rattle.std.specs.List.{list_any}
use Rattle.std.specs.FinMap as finite
use Rattle.dm_token.specs.declared.token.PpToken.{PpToken}
use Rattle.dm_macro.specs.Signs.{is_word}
use Rattle.dm_reading.specs.declared.reading.Reading.{Reading}
use Rattle.dm_rules.specs.Rules.{defines_in}
use Rattle.dm_rules.specs.declared.words.Words.{Words}

abbrev pub has : Words → List ℕ → Bool
has words name = is_some (finite.get words.names name)

abbrev pub AreSpelled : Words → List PpToken → Type 0
AreSpelled words body = (name : List ℕ) → has words name ≡ list_any (is_word name) body

abbrev pub AreNames : Words → List (List ℕ) → Type 0
AreNames words names = (name : List ℕ) → has words name ≡ list_any (bytes_eq name) names

abbrev pub AreMacros : Words → List Reading → Type 0
AreMacros words readings = (name : List ℕ) → has words name ≡ list_any (defines_in name) readings
