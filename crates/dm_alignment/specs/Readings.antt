-- Readings of a unit before and after the edit of a macro's definition (6.9).
--     entries_behind reading k      how many entries the unit has behind its first external declarations
--     DeclaresAlone reading k name number      in file scope the external declaration of this number declares this name and nothing else
--     TakesAsMany kind definition found      what becomes of a macro takes as many arguments as the macro has parameters
--     IsPlain runs new found      where the macro has a run, no type name in the added function names an automatic object
--     IsInsertion old new change put      what the edit adds to the new reading
--     AreAlignedReadings old new change      the readings are the same but for that, and for what stands where runs of the macro stood
use Rattle.std.specs.Prelude.{◌≡◌, ℕ, suc, ◌+◌, true, false, List, [], ◌∷◌, length, IfSome, Option, Some, None, slice_get}
use Rattle.std.specs.Option.{IsSomeAnd}
use Rattle.dm_token.specs.declared.expansion.Definition.{Definition}
use Rattle.dm_macro.specs.Bodies.{named_parameters}
use Rattle.dm_runs.specs.declared.run.Run.{Run}
use Rattle.dm_tree.specs.declared.unit.CoreExternal.{CoreExternal}
use Rattle.dm_tree.specs.declared.unit.CoreExternalForm.{CoreExternalForm}
use Rattle.dm_tree.specs.declared.unit.CoreExternalForm.TheVariants as code
use Rattle.dm_tree.specs.Views.{view_of_form}
use Rattle.dm_plain.specs.Plain.{HasPlainBody}
use Rattle.dm_align.specs.Insertions.{IsOfKind, number_of}
use Rattle.dm_align.specs.Units.{AreAligned, Insertion}
use Rattle.dm_edit.specs.declared.change.As.{As}
use Rattle.dm_edit.specs.declared.change.As.TheVariants.{Function}
use Rattle.dm_edit.specs.declared.change.Change.{Change}
use Rattle.dm_meanings.specs.Captures.{source_in}
use Rattle.dm_meanings.specs.Types.{syntax_in, unit_in}
use Rattle.dm_names.specs.declared.identifier.Entered.{Entered}
use Rattle.dm_names.specs.Meanings as names
use Rattle.dm_reading.specs.declared.reading.Reading.{Reading}
use Rattle.dm_rules.specs.Places.{externals_behind}
use Rattle.dm_rules.specs.Uses.{reads, runs_in}

-- ---- file scope (6.2.1)

unfoldable pub entries_behind : Reading → ℕ → ℕ
entries_behind reading k = names.entries_behind (source_in reading) (syntax_in reading) k

-- a name that is no tag
abbrev pub entered_alone : List ℕ → ℕ → Entered
entered_alone name number = record { name = name; tag = false; number = number }

-- no other name, and no tag
unfoldable pub DeclaresAlone : Reading → ℕ → List ℕ → ℕ → Type 0
DeclaresAlone reading k name number = names.entered_by (source_in reading) (syntax_in reading) k ≡ entered_alone name number ∷ []

-- ---- what the edit adds

-- the definition of a function with so many parameters (6.9.1)
abbrev pub TakesSoMany : ℕ → CoreExternalForm → Type 0
TakesSoMany n (code.Function f parameters body) = length parameters ≡ n
TakesSoMany n form = ⊥

-- A function takes an argument for each parameter of the macro (6.5.2.2p2, 6.10.3p4).
abbrev pub TakesAsMany : As → Definition → Option CoreExternal → Type 0
TakesAsMany Function definition found = IsSomeAnd found (λ (one : CoreExternal). TakesSoMany (length (named_parameters definition.parameters)) one.form)
TakesAsMany kind definition found = Unit {0}

-- In a type name in the added function no array length and no enumerator's value names an automatic object, as none can in file scope (6.2.1p4,
-- 6.6p6), where the function agrees with a run of the macro. Of a unit without runs nothing is asked.
abbrev pub IsPlain : List Run → Reading → Option CoreExternal → Type 0
IsPlain [] new found = Unit {0}
IsPlain (run ∷ runs) new found = IfSome found (λ (one : CoreExternal). HasPlainBody (unit_in new) (view_of_form new.types one.form))

-- One external declaration stands where the definition stood, behind as many as there. At any depth it declares what is entered behind it and
-- not before it; and in file scope the macro's name alone, as a declaration of the change's kind, with the macro's parameters.
pub record IsInsertion (old new : Reading) (change : Change) (put : Insertion) : Type 0 where
  pub read : reads change.definition old ≡ true
  pub external : put.external ≡ externals_behind change.definition old
  pub first : put.first ≡ entries_behind new put.external
  pub behind : put.first + put.count ≡ entries_behind new (suc put.external)
  pub name : put.name ≡ change.definition.name
  pub kind : IsOfKind change.kind put.added
  pub counted : TakesAsMany change.kind change.definition (slice_get new.core.externals put.external)
  pub plain : IsPlain (runs_in change.definition old) new (slice_get new.core.externals put.external)
  pub alone : DeclaresAlone new put.external put.name (number_of put.added)

-- nothing where the unit doesn't read the definition
abbrev pub AddsBy : Reading → Reading → Change → Option Insertion → Type 0
AddsBy old new change None = reads change.definition old ≡ false
AddsBy old new change (Some put) = IsInsertion old new change put

-- ---- readings

abbrev pub AreAlignedReadings : Reading → Reading → Change → Type 0
AreAlignedReadings old new change =
    (put : Option Insertion) × AddsBy old new change put
    × AreAligned old.types new.types (unit_in old) (unit_in new) (runs_in change.definition old) put
