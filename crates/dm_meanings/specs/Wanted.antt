-- The types of a definition's first run, as they are spelled where the definition stands.
--     entry_at table n      what a table by parameter has at a position
--     AreFirst run spans      by parameter, the tokens of its first occurrence in a run
--     IsWanted definition first wanted      how the types of the first run are spelled
use Rattle.std.specs.Prelude.{◌≡◌, ℕ, List, Option, Some, None, slice_get}
use Rattle.dm_token.specs.declared.place.Span.{Span}
use Rattle.dm_token.specs.declared.expansion.Definition.{Definition}
use Rattle.dm_runs.specs.declared.run.Run.{Run}
use Rattle.dm_meanings.specs.declared.wanted.Wanted.{Wanted}
use Rattle.dm_meanings.specs.Types.{Met, first_occurrence, parameter_text, result_text}

abbrev pub entry_by : {A : Type 0} → Option (Option A) → Option A
entry_by (Some entry) = entry
entry_by None = None

abbrev pub entry_at : {A : Type 0} → List (Option A) → ℕ → Option A
entry_at table n = entry_by (slice_get table n)

abbrev pub AreFirst : Run → List (Option Span) → Type 0
AreFirst run spans = (n : ℕ) → entry_at spans n ≡ first_occurrence run n

pub record IsWanted (definition : Definition) (first : Met) (wanted : Wanted) : Type 0 where
  pub result : wanted.result ≡ result_text definition first
  pub parameters : (n : ℕ) → entry_at wanted.parameters.items n ≡ parameter_text definition first n
