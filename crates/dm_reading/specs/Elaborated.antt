-- What the typing of a whole unit gives, in the form in which code has it: trees that name types by number, with the table of these numbers.
--     Elaborates tokens externals result      the typed unit, or the refusal for the first typing rule that is broken
--     IsNumberedUnit types unit      the table gave the types of the unit's entries and trees, and that of argv's object
use Rattle.std.specs.Prelude.{◌≡◌, ℕ, IsTrue, List, length, Result, Ok, Err}
use Rattle.std.specs.List.{list_all}
use Rattle.dm_token.specs.declared.stop.Stop.{Stop}
use Rattle.dm_token.specs.declared.stop.Stop.TheVariants as stop
use Rattle.dm_token.specs.declared.token.CToken.{CToken}
use Rattle.dm_type.specs.declared.shape.Shape.{Shape}
use Rattle.dm_type.specs.Tables.{Table, Has}
use Rattle.dm_syn.specs.Sources.{Source}
use Rattle.dm_syn.specs.Trees.{External}
use Rattle.dm_tree.specs.declared.unit.CoreUnit.{CoreUnit}
use Rattle.dm_tree.specs.TypeNumbers.{argv_kind, entry_has_known, external_has_known}
use Rattle.dm_tree.specs.Units.{TypedUnit}
use Rattle.dm_tree.specs.Views.{view_of_unit}
use Rattle.dm_typing.specs.Known.{Known, Outcome, given, broken}
use Rattle.dm_typing.specs.Views.{Begins, table_over, refusal_at}
use Rattle.dm_edecl.specs.Units.{unit_setting, typed_unit}

-- The unit is that of the definition, where its types have the numbers of the table that is given, or of any that goes on from there; a
-- rule that is broken is broken where types have the numbers that the code gave so far. Want of memory is free.
abbrev pub ElaboratesBy : Source → (List Shape → Outcome TypedUnit) → Result (CoreUnit × Table) Stop → Type 0
ElaboratesBy source typed (Ok made) =
    (later : List Shape) → Begins made.1.shapes later → (known : Known) × (known.types ≡ table_over later made.1)
    × (typed later ≡ given known (view_of_unit (table_over later made.1) made.0))
ElaboratesBy source typed (Err stop.Memory) = Unit {0}
ElaboratesBy source typed (Err (stop.Refused refusal)) =
    (shapes : List Shape) × ((later : List Shape) → Begins shapes later → (rule : ℕ) × (at : ℕ) × (typed later ≡ broken rule at) × (refusal ≡ refusal_at source rule at))
ElaboratesBy source typed (Err other) = ⊥

abbrev pub Elaborates : List CToken → List External → Result (CoreUnit × Table) Stop → Type 0
Elaborates tokens externals result = ElaboratesBy (unit_setting tokens externals).source (λ later. typed_unit later tokens externals) result

-- the table gave the types of the unit
pub record IsNumberedUnit (types : Table) (one : CoreUnit) : Type 0 where
  pub argv : Has types one.argv argv_kind
  pub entries : IsTrue (list_all (entry_has_known (length types.shapes)) one.declared)
  pub trees : IsTrue (list_all (external_has_known (length types.shapes)) one.externals)
