-- What lists have at positions.
--     is_expansion_at file hash read one      an expansion is of the definition at this byte of a file
--     name_if test one      the name of an expansion that is there and passes a test
--     first_name test expansions numbers      that of the first one at some positions
use Rattle.std.specs.Prelude.{ℕ, Bool, false, ◌||◌, List, [], ◌∷◌, Option, Some, None, slice_get, if◌then◌else◌}
use Rattle.std.specs.Option.{option_map_or}
use Rattle.dm_token.specs.declared.place.Place.{Place}
use Rattle.dm_token.specs.declared.expansion.Expansion.{Expansion}
use Rattle.dm_token.specs.declared.unit.Read.{Read}
use Rattle.dm_runs.specs.Runs.{is_at}
use Rattle.dm_rules.specs.Uses.{or_else}

abbrev pub is_expansion_at : ℕ → ℕ → List Read → Expansion → Bool
is_expansion_at file hash read one = option_map_or (λ (other : Read). is_at file hash other.definition) (slice_get read one.definition) false

abbrev pub name_if : (Expansion → Bool) → Option Expansion → Option Place
name_if test None = None
name_if test (Some one) = if test one then Some one.name else None

abbrev pub first_name : (Expansion → Bool) → List Expansion → List ℕ → Option Place
first_name test expansions [] = None
first_name test expansions (number ∷ numbers) = or_else (name_if test (slice_get expansions number)) (first_name test expansions numbers)

-- one of the readings at some positions passes a test
abbrev pub passes_if : (Read → Bool) → Option Read → Bool
passes_if test one = option_map_or test one false

abbrev pub some_at : (Read → Bool) → List Read → List ℕ → Bool
some_at test read [] = false
some_at test read (number ∷ numbers) = passes_if test (slice_get read number) || some_at test read numbers
