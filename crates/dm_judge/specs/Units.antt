-- The units of a project, with what is looked up of them.
--     readings_of units      their readings, in order
--     AreWhole units      the readings are well typed, and what is looked up is theirs
--     AreReady definition units      it is looked up of each unit that expands a definition
use Rattle.std.specs.Prelude.{◌≡◌, ℕ, zero, suc, false, List, [], ◌∷◌, Option, Some, None, All}
use Rattle.dm_token.specs.declared.expansion.Definition.{Definition}
use Rattle.dm_meaning.specs.Replaced.{Zipped}
use Rattle.dm_tree.specs.TypeNumbers.{IsTypedUnit}
use Rattle.dm_reading.specs.declared.reading.Reading.{Reading}
use Rattle.dm_rules.specs.Indexes as indexes
use Rattle.dm_rules.specs.Rules.{is_used}
use Rattle.dm_rules.specs.Words.{AreMacros}
use Rattle.dm_meanings.specs.declared.meanings.Meanings.{Meanings}
use Rattle.dm_meanings.specs.First.{reading_of}
use Rattle.dm_meanings.specs.Named.{AreNamesOf}
use Rattle.dm_judge.specs.declared.notes.Notes.{Notes}
use Rattle.dm_judge.specs.declared.units.Units.{Units}

abbrev pub AreTyped : List Reading → Type 0
AreTyped readings = All (λ (each : Reading). IsTypedUnit each.types each.core) readings

abbrev pub readings_of : Units → List Reading
readings_of units = indexes.readings_of units.indexes.now

-- what is looked up of a unit, if it is, is that of its reading
abbrev pub IsMeant : Reading → Option Meanings → Type 0
IsMeant reading None = Unit {0}
IsMeant reading (Some one) = reading_of one ≡ reading

-- its trees are noted together with its meanings
abbrev pub IsNoted : Option Meanings → Option Notes → Type 0
IsNoted None None = Unit {0}
IsNoted None (Some notes) = ⊥
IsNoted (Some one) None = ⊥
IsNoted (Some one) (Some notes) = notes.quiet ≡ (reading_of one).core

pub record AreWhole (units : Units) : Type 0 where
  pub typed : AreTyped (readings_of units)
  pub named : Zipped AreNamesOf (readings_of units) units.names.now
  pub meant : Zipped IsMeant (readings_of units) units.meanings.items
  pub noted : Zipped IsNoted units.meanings.items units.notes.items
  pub defined : AreMacros units.macros (readings_of units)

-- ---- what is looked up for a definition

abbrev pub IsReady : Definition → Reading → Option Meanings → Type 0
IsReady definition reading None = is_used definition reading ≡ false
IsReady definition reading (Some one) = reading_of one ≡ reading

abbrev pub AreReady : Definition → Units → Type 0
AreReady definition units = Zipped (IsReady definition) (readings_of units) units.meanings.items

-- the first so many units are ready
unfoldable pub AreReadyTo : Definition → ℕ → List Reading → List (Option Meanings) → Type 0
AreReadyTo definition zero readings meanings = Zipped IsMeant readings meanings
AreReadyTo definition (suc n) [] [] = Unit {0}
AreReadyTo definition (suc n) (reading ∷ readings) (one ∷ meanings) = IsReady definition reading one × AreReadyTo definition n readings meanings
AreReadyTo definition (suc n) readings meanings = ⊥
