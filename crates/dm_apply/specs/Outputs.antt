-- An output that is put.
use Rattle.std.specs.Prelude.{◌≡◌, ◌⊎◌, ℕ, List, Option}
use Rattle.dm_io.specs.Output.{appended, MayHaveAppended}
use Rattle.dm_io.specs.Faults.{Rose}
use Rattle.dm_lines.specs.Statuses as statuses

-- between two moments of a sink an output was put, with status 0, or with status 7 a front of it where the faults rose
abbrev pub PutsOutput : Option (List ℕ) → Option (List ℕ) → ℕ → ℕ → List ℕ → ℕ → Type 0
PutsOutput before after faults later text status =
    ((status ≡ statuses.done) × (after ≡ appended before text))
    ⊎ ((status ≡ statuses.output_fault) × Rose faults later × MayHaveAppended before after text)
