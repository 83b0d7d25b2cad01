-- What the code keeps of the names of a unit.
--     AreNames types tokens syntax unit names      it is what the definition says of the unit
use Rattle.std.specs.Prelude.{◌≡◌, ℕ, ◌+◌, List, [], ◌∷◌, length, map}
use Rattle.dm_token.specs.declared.token.CToken.{CToken}
use Rattle.dm_type.specs.Tables.{Table}
use Rattle.dm_syn.specs.declared.statement.External.{External}
use Rattle.dm_syn.specs.Views as view
use Rattle.dm_tree.specs.declared.unit.CoreUnit.{CoreUnit}
use Rattle.dm_tree.specs.Units.{TypedUnit}
use Rattle.dm_tree.specs.Views.{view_of_unit}
use Rattle.dm_names.specs.declared.names.Names.{Names}
use Rattle.dm_names.specs.declared.seen.Shown.{Shown}
use Rattle.dm_names.specs.Declarations.{source_of, structs_shown, structs_in}
use Rattle.dm_names.specs.Meanings.{shown_by, identifiers_in}
use Rattle.dm_names.specs.Positions.{lookup_in, no_positions, identifiers_noted, shown_noted}

-- how many structs can be named before the first of some external declarations and behind each, where so many can be before them
abbrev pub ends_from : TypedUnit → ℕ → List Shown → List ℕ
ends_from one n [] = n ∷ []
ends_from one n (first ∷ others) = n ∷ ends_from one (n + length (structs_shown one first)) others

pub record AreNames (types : Table) (tokens : List CToken) (syntax : List External) (unit : CoreUnit) (names : Names) : Type 0 where
  pub shown : names.shown ≡ shown_by (source_of tokens (view_of_unit types unit)) (map view.external syntax)
  pub identifiers : names.identifiers ≡ identifiers_in names.shown
  pub places : lookup_in names.places ≡ identifiers_noted no_positions 0 names.identifiers
  pub firsts : lookup_in names.firsts ≡ shown_noted no_positions 0 names.shown
  pub structs : names.structs ≡ structs_in (view_of_unit types unit) names.shown
  pub ends : names.ends ≡ ends_from (view_of_unit types unit) 0 names.shown
