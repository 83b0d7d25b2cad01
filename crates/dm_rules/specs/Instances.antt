-- The numbers of the expansions that some runs are of.
use Rattle.std.specs.Prelude.{◌≡◌, ℕ, Bool, ◌==◌, List}
use Rattle.std.specs.List.{list_any}
use Rattle.std.specs.HashSet.{contains}
use Rattle.dm_runs.specs.declared.run.Run.{Run}
use Rattle.dm_rules.specs.declared.instances.Instances.{Instances}

abbrev pub has : Instances → ℕ → Bool
has instances number = contains (λ (a b : ℕ). a == b) instances.numbers number

-- a number is among them exactly where one of the runs is of that expansion
abbrev pub AreOf : List Run → Instances → Type 0
AreOf runs instances = (number : ℕ) → has instances number ≡ list_any (λ (run : Run). run.instance == number) runs
