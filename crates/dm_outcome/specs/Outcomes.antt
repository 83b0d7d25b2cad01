-- What the typing of a unit comes to, whatever numbers its types have.
--     IsSameUnit one other      two typed units with their tables are one, each with numbers of its own
--     AreOneOutcome one other      two answers are one: the same unit, or the same refusal. Want of memory has no cause
--     AreOneLayers one other      so are the answers of all layers behind the preprocessor
use Rattle.std.specs.Prelude.{◌≡◌, map, Result, Ok, Err}
use Rattle.dm_token.specs.declared.stop.Stop.{Stop}
use Rattle.dm_token.specs.declared.stop.Stop.TheVariants as stop
use Rattle.dm_type.specs.Structs.{AreSameStructs}
use Rattle.dm_type.specs.Tables.{Table}
use Rattle.dm_syn.specs.Views as syntax
use Rattle.dm_tree.specs.declared.unit.CoreUnit.{CoreUnit}
use Rattle.dm_tree.specs.Views.{view_of_unit}
use Rattle.dm_reading.specs.declared.reading.Layers.{Layers}

-- two typed units are one, with their types and structs written out
pub record IsSameUnit (one other : CoreUnit × Table) : Type 0 where
  pub unit : view_of_unit other.1 other.0 ≡ view_of_unit one.1 one.0
  pub structs : AreSameStructs one.1 other.1

abbrev pub AreOneOutcome : Result (CoreUnit × Table) Stop → Result (CoreUnit × Table) Stop → Type 0
AreOneOutcome (Err stop.Memory) other = Unit {0}
AreOneOutcome one (Err stop.Memory) = Unit {0}
AreOneOutcome (Ok one) (Ok other) = IsSameUnit one other
AreOneOutcome (Err one) (Err other) = other ≡ one
AreOneOutcome one other = ⊥

-- two answers of the layers behind the preprocessor are one. Trees of the code stand for trees of the syntax
abbrev pub AreOneLayers : Result Layers Stop → Result Layers Stop → Type 0
AreOneLayers (Err stop.Memory) other = Unit {0}
AreOneLayers one (Err stop.Memory) = Unit {0}
AreOneLayers (Ok one) (Ok other) =
    (other.tokens ≡ one.tokens) × (map syntax.external other.syntax ≡ map syntax.external one.syntax) × IsSameUnit (one.core, one.types) (other.core, other.types)
AreOneLayers (Err one) (Err other) = other ≡ one
AreOneLayers one other = ⊥
