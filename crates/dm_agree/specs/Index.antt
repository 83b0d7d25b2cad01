-- Runs and occurrences by the numbers of their spans.
--     key span      the number of a span; different spans of fewer than 2 to the 64 tokens have different ones
--     runs_by map span      the runs that a map has for a span
--     AreStarts marks runs      each token is marked with which a run begins
--     parameter_by map span      the parameter that it has for a span
use Rattle.std.specs.Prelude.{◌≡◌, ℕ, Bool, false, nat_eq, ◌+◌, ◌*◌, ◌^◌, ◌<◌, List, [], ◌∷◌, Option, Some, None, slice_index_or}
use Rattle.std.specs.Borrow.{Bor}
use Rattle.std.specs.HashMap as hash
use Rattle.std.specs.HashMap.{HashMap}
use Rattle.std.specs.declared.vec.Vec.{Vec}
use Rattle.dm_token.specs.declared.place.Span.{Span}
use Rattle.dm_runs.specs.declared.run.Occurrence.{Occurrence}
use Rattle.dm_runs.specs.declared.run.Run.{Run}
use Rattle.dm_agree.specs.Runs.{runs_in}
use Rattle.dm_agree.specs.Standing.{occurrences_with, runs_with}

abbrev pub key : Span → ℕ
key span = span.first * 2 ^ 64 + span.after

-- ---- runs

abbrev pub group_of : {A : Type 0} → Option (Vec (Bor Run) A) → List Run
group_of None = []
group_of (Some group) = runs_in group.items

module _ {A S : Type 0} where
  abbrev pub runs_by : HashMap ℕ (Vec (Bor Run) A) S → Span → List Run
  runs_by by_span span = group_of (hash.get nat_eq by_span (key span))

  abbrev pub IsRunIndex : HashMap ℕ (Vec (Bor Run) A) S → List Run → Type 0
  IsRunIndex by_span runs = (span : Span) → span.after < 2 ^ 64 → runs_by by_span span ≡ runs_with runs span

abbrev pub AreStarts : List Bool → List Run → Type 0
AreStarts marks runs = (span : Span) → slice_index_or marks span.first false ≡ false → runs_with runs span ≡ []

-- ---- occurrences

abbrev pub first_parameter : List Occurrence → Option ℕ
first_parameter [] = None
first_parameter (one ∷ others) = Some one.parameter

module _ {S : Type 0} where
  abbrev pub parameter_by : HashMap ℕ ℕ S → Span → Option ℕ
  parameter_by by_span span = hash.get nat_eq by_span (key span)

  abbrev pub IsOccurrenceIndex : HashMap ℕ ℕ S → List Occurrence → Type 0
  IsOccurrenceIndex by_span occurrences = (span : Span) → span.after < 2 ^ 64 → parameter_by by_span span ≡ first_parameter (occurrences_with occurrences span)
