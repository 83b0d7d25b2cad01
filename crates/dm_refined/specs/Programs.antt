-- The programs of readings, and what the edit of a macro's definition does to them.
--     machine_in reading      the machine of the program that a unit's reading gives
--     AreOfExpansions definition reading      each run of a definition is of one of the expansions at which the rules look
--     IsMadeFor setting definition      a directive of its file makes a definition, with the bytes that the file has in a reading
--     KeepsRunRules definition reading run      a run breaks none of the rules that ask where runs stand
--     KeepsCallRules definition reading      no run does, and each parameter occurs
use Rattle.std.specs.Prelude.{◌≡◌, ℕ, true, IsTrue, [], ◌∷◌, None, is_some}
use Rattle.std.specs.List.{AllByRecursion, list_any}
use Rattle.dm_token.specs.declared.expansion.Definition.{Definition}
use Rattle.dm_token.specs.declared.expansion.Expansion.{Expansion}
use Rattle.dm_runs.specs.declared.run.Run.{Run}
use Rattle.dm_meaning.specs.Machines.{Machine}
use Rattle.dm_meaning.specs.Refinement.{Refines}
use Rattle.dm_meaning.specs.Units.{machine_of, program_of}
use Rattle.dm_meanings.specs.Types.{unit_in}
use Rattle.dm_unit.specs.States.{Setting}
use Rattle.dm_defined.specs.Made.{IsMadeIn, bytes_for}
use Rattle.dm_reading.specs.declared.reading.Reading.{Reading}
use Rattle.dm_beside.specs.Evaluation.{evaluates_alike}
use Rattle.dm_beside.specs.Places.{is_subtree, is_value, may_be_constant}
use Rattle.dm_rules.specs.Rules.{broken_parameter}
use Rattle.dm_rules.specs.Uses.{expansions_in, is_run_of, runs_in}

abbrev pub machine_in : Reading → Machine
machine_in reading = machine_of (program_of reading.types (unit_in reading))

-- the program of one reading refines that of another
abbrev pub RefinesReading : Reading → Reading → Type 0
RefinesReading new old = Refines (machine_in new) (machine_in old)

-- ---- definitions

abbrev pub IsMadeFor : Setting → Definition → Type 0
IsMadeFor setting definition = IsMadeIn definition.place.file (bytes_for setting definition.place.file) definition

-- ---- rules on runs

-- A run is what is left of an expansion: of one that is listed. The rules give the name of the first such expansion whose run breaks them.
abbrev pub AreOfExpansions : Definition → Reading → Type 0
AreOfExpansions definition reading =
    AllByRecursion (λ (run : Run). list_any (λ (expansion : Expansion). is_run_of expansion run) (expansions_in definition reading) ≡ true) (runs_in definition reading)

-- the rules 9 Subtree, 10 Constant, 11 Lvalue and 14 Evaluation
abbrev pub KeepsRunRules : Definition → Reading → Run → Type 0
KeepsRunRules definition reading run =
    IsTrue (is_subtree (unit_in reading) run)
    × (IsTrue (may_be_constant reading.types (unit_in reading) (is_some definition.parameters) run)
    × (IsTrue (is_value (unit_in reading) run) × IsTrue (evaluates_alike reading.types (unit_in reading) run)))

-- and the parameters keep rule 8
abbrev pub KeepsCallRules : Definition → Reading → Type 0
KeepsCallRules definition reading =
    (broken_parameter definition (reading ∷ []) ≡ None) × AllByRecursion (KeepsRunRules definition reading) (runs_in definition reading)
