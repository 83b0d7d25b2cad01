-- Where the occurrences of a macro's parameters stand in a run of the macro (6.10.3.1).
--     HasPartsApart run      each stands inside the run, and no two have a token in common
--     IsNamed definition n      the replacement list names the parameter of this position
--     HasOccurrence n run      that parameter occurs in a run
--     IsReadAs file hash definition reads      each reading of a directive gives this definition
use Rattle.std.specs.Prelude.{◌≡◌, ℕ, ◌≤◌, ◌⊎◌, true, List, [], ◌∷◌, map, ◌==◌}
use Rattle.std.specs.List.{AllByRecursion, list_any}
use Rattle.dm_token.specs.declared.expansion.Definition.{Definition}
use Rattle.dm_token.specs.declared.place.Span.{Span}
use Rattle.dm_token.specs.declared.token.PpToken.{PpToken}
use Rattle.dm_token.specs.declared.unit.Read.{Read}
use Rattle.dm_macro.specs.Bodies as bodies
use Rattle.dm_macro.specs.Bodies.{parameter_of}
use Rattle.dm_runs.specs.declared.run.Occurrence.{Occurrence}
use Rattle.dm_runs.specs.declared.run.Run.{Run}
use Rattle.dm_runs.specs.Runs.{is_at}

-- Some tokens, or the place where they would stand, are inside a span.
abbrev pub IsWithin : Span → Span → Type 0
IsWithin span part = (span.first ≤ part.first) × (part.first ≤ part.after) × (part.after ≤ span.after)

-- one of two ends before the other begins, or there
abbrev pub IsBeside : Span → Span → Type 0
IsBeside one other = (one.after ≤ other.first) ⊎ (other.after ≤ one.first)

-- so it is of any two
abbrev pub AreBeside : List Span → Type 0
AreBeside [] = Unit {0}
AreBeside (one ∷ others) = AllByRecursion (IsBeside one) others × AreBeside others

abbrev pub parts_of : Run → List Span
parts_of run = map (λ (one : Occurrence). one.span) run.occurrences

abbrev pub HasPartsApart : Run → Type 0
HasPartsApart run = AllByRecursion (IsWithin run.span) (parts_of run) × AreBeside (parts_of run)

-- ---- names

abbrev pub IsNamed : Definition → ℕ → Type 0
IsNamed definition n = list_any (λ (token : PpToken). bodies.is_at n (parameter_of (bodies.parameters_of definition) token)) definition.body ≡ true

-- A unit may read one directive several times.
abbrev pub IsReadAs : ℕ → ℕ → Definition → List Read → Type 0
IsReadAs file hash definition reads = AllByRecursion (λ (read : Read). is_at file hash read.definition ≡ true → read.definition ≡ definition) reads

abbrev pub HasOccurrence : ℕ → Run → Type 0
HasOccurrence n run = list_any (λ (one : Occurrence). one.parameter == n) run.occurrences ≡ true
