-- Texts that are put.
use Rattle.std.specs.Prelude.{◌≡◌, ◌⊎◌, ℕ, List, Option}
use Rattle.dm_io.specs.Output.{appended, MayHaveAppended}
use Rattle.dm_io.specs.Faults.{Rose}

-- between two moments of a sink a text was put: all of it, or a front of it where the faults rose
abbrev pub PutsText : Option (List ℕ) → Option (List ℕ) → ℕ → ℕ → List ℕ → Type 0
PutsText before after faults_before faults_after text =
    (after ≡ appended before text) ⊎ (Rose faults_before faults_after × MayHaveAppended before after text)
