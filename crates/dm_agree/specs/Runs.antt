-- Runs of the code.
--     runs_in refs      what references point to
use Rattle.std.specs.Prelude.{List, map}
use Rattle.std.specs.Borrow.{Bor}
use Rattle.dm_runs.specs.declared.run.Run.{Run}

abbrev pub runs_in : List (Bor Run) → List Run
runs_in refs = map (λ (one : Bor Run). one.now) refs
