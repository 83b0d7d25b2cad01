-- The macro's own tokens among those of a run.
use Rattle.std.specs.Prelude.{◌≡◌, ℕ, ◌+◌, ◌-◌, ◌<◌, Bool, false, List, length, slice_index_or}
use Rattle.dm_runs.specs.declared.run.Run.{Run}
use Rattle.dm_meanings.specs.Captures.{is_own}

-- of each token of the run, whether it stands outside the occurrences of parameters
pub record AreOwn (run : Run) (marks : List Bool) : Type 0 where
  pub long : length marks ≡ run.span.after - run.span.first
  pub own : (at : ℕ) → at < length marks → slice_index_or marks at false ≡ is_own run (run.span.first + at)
