-- What the reading of a unit gives is sound.
use Rattle.std.specs.Prelude.{◌≡◌, ℕ, Bool, List, map, Ok}
use Rattle.std.proofs.Common.{subst}
use Rattle.dm_token.specs.declared.token.Token.{Token}
use Rattle.dm_type.specs.Tables.{Table}
use Rattle.dm_syn.specs.Trees.{External}
use Rattle.dm_syn.specs.Views as view
use Rattle.dm_tree.specs.Typing.{IsWellTypedUnit}
use Rattle.dm_tree.specs.Units.{TypedUnit}
use Rattle.dm_tree.specs.Views.{view_of_unit}
use Rattle.dm_meaning.specs.Machines.{RunsTo}
use Rattle.dm_meaning.specs.States.{State}
use Rattle.dm_meaning.specs.Steps.{Step}
use Rattle.dm_meaning.specs.Units.{machine_of, program_of}
use Rattle.dm_effect.specs.Scoped.{IsScopedUnit}
use Rattle.dm_typing.specs.Known.{Known, given}
use Rattle.dm_typing.proofs.LaterLemmas.{begins-itself}
use Rattle.dm_edecl.specs.Units.{typed_unit}
use Rattle.dm_edecl.proofs.UnitFitLemmas.{units-known, units-typed, units-give}
use Rattle.dm_scoped.specs.Spans.{IsLaidOutUnit}
use Rattle.dm_scoped.proofs.SpanUnitLemmas.{units-laid}
use Rattle.dm_scoped.proofs.UnitLemmas.{units-scoped}
use Rattle.dm_reading.specs.declared.reading.Layers.{Layers}
use Rattle.dm_reading.specs.Layered.{HasLayers}
use Rattle.dm_formed.proofs.SourceLemmas.{syntax-externals}
use Rattle.dm_formed.proofs.TokenLemmas.{ctokens-sound}
use Rattle.dm_sound.specs.Lacks.{GivesValues, LacksAtBrace}
use Rattle.dm_sound.specs.TypedRuns.{IsTypedProgram}
use Rattle.dm_sound.specs.TypedStates.{IsTypedState}
use Rattle.dm_sound.specs.TypedTrees.{IsSoundTable}
use Rattle.dm_sound.proofs.LackLemmas.{step_lacks}
use Rattle.dm_sound.proofs.ProperLemmas.{unit_proper}
use Rattle.dm_sound.proofs.RunningLemmas.{program_runs_typed}
use Rattle.dm_sound.proofs.UnitLemmas.{unit_typed}
use Rattle.dm_initialised.specs.Settled.{IsSettledProgram}
use Rattle.dm_initialised.specs.SetStates.{IsSetState, NamesAreSet}
use Rattle.dm_initialised.specs.Units.{has_first_value, IsInitialisedUnit}
use Rattle.dm_initialised.proofs.BeginLemmas.{run_set}
use Rattle.dm_initialised.proofs.FirstValueLemmas.{first_values_given}
use Rattle.dm_initialised.proofs.NameLemmas.{run_names_set}
use Rattle.dm_initialised.proofs.UnitLemmas.{unit_settled}
use Rattle.dm_sound_reading.proofs.ResultLemmas.{unit_gives}
use Rattle.dm_sound_reading.proofs.TableLemmas.{table_sound}

module _ (tokens : List Token) (layers : Layers) (h : HasLayers tokens (Ok layers)) where
  abbrev externals : List External
  externals = map view.external layers.syntax

  abbrev pub unit : TypedUnit
  unit = view_of_unit layers.types layers.core

  -- what is known at the end of the unit
  typed_by : (known : Known) × (known.types ≡ layers.types) × (typed_unit layers.types.shapes layers.tokens externals ≡ given known unit)
  typed_by = h.2 layers.types.shapes (begins-itself layers.types.shapes)

  pub types_sound : IsSoundTable layers.types
  types_sound =
      subst IsSoundTable typed_by.1
      (table_sound typed_by.0
      (units-known layers.types.shapes layers.tokens externals typed_by.0 unit (ctokens-sound tokens layers.tokens h.0) (syntax-externals layers.tokens externals h.1) typed_by.2))

  pub well_typed : IsWellTypedUnit layers.types unit
  well_typed =
      subst (λ (types : Table). IsWellTypedUnit types unit) typed_by.1
      (units-typed layers.types.shapes layers.tokens externals typed_by.0 unit (ctokens-sound tokens layers.tokens h.0) (syntax-externals layers.tokens externals h.1) typed_by.2)

  pub unit_scoped : IsScopedUnit unit
  unit_scoped = units-scoped layers.types.shapes layers.tokens externals typed_by.0 unit typed_by.2

  pub unit_laid : IsLaidOutUnit unit
  unit_laid = units-laid layers.types.shapes layers.tokens externals typed_by.0 unit (syntax-externals layers.tokens externals h.1) typed_by.2

  -- ---- its program

  pub program_typed : IsTypedProgram (program_of layers.types unit)
  program_typed = unit_typed layers.types unit types_sound well_typed (unit_proper layers.types layers.core)

  pub runs_typed : (input : List ℕ) (n : ℕ) (state : State) → RunsTo (machine_of (program_of layers.types unit)) input n state → IsTypedState (program_of layers.types unit) state
  runs_typed = program_runs_typed (program_of layers.types unit) program_typed

  pub results_typed : GivesValues (program_of layers.types unit)
  results_typed =
      subst (λ (types : Table). GivesValues (program_of types unit)) typed_by.1
      (unit_gives typed_by.0.types unit
      (units-give layers.types.shapes layers.tokens externals typed_by.0 unit (ctokens-sound tokens layers.tokens h.0) (syntax-externals layers.tokens externals h.1) typed_by.2))

  -- a value is lacking at closing braces alone
  pub values_lack : (input : List ℕ) (n : ℕ) (state other : State) → RunsTo (machine_of (program_of layers.types unit)) input n state → Step (program_of layers.types unit) state other
      → LacksAtBrace (program_of layers.types unit) state other
  values_lack input n state other run step = step_lacks (program_of layers.types unit) program_typed results_typed state other (runs_typed input n state run) step

  pub initialised_settled : (needs : ℕ → Bool) → IsInitialisedUnit needs unit → IsSettledProgram needs (program_of layers.types unit)
  initialised_settled needs initialised = unit_settled layers.types unit needs initialised unit_scoped

  pub states_set : (input : List ℕ) (n : ℕ) (state : State) → RunsTo (machine_of (program_of layers.types unit)) input n state
      → IsSetState (program_of layers.types unit) (has_first_value unit) state
  states_set = run_set (program_of layers.types unit) program_typed (has_first_value unit) (initialised_settled (has_first_value unit) (first_values_given unit))

  pub names_set : (needs : ℕ → Bool) → IsInitialisedUnit needs unit → (input : List ℕ) (n : ℕ) (state : State) → RunsTo (machine_of (program_of layers.types unit)) input n state
      → NamesAreSet (program_of layers.types unit) needs state
  names_set needs initialised = run_names_set (program_of layers.types unit) needs (initialised_settled needs initialised) program_typed
