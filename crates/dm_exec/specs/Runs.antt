-- What steps leave of what shows of a state.
use Rattle.std.specs.Prelude.{ℕ, List, [], ◌∷◌}
use Rattle.dm_meaning.specs.Choices.{stepped}
use Rattle.dm_meaning.specs.Programs.{Program}
use Rattle.dm_meaning.specs.States.{State}
use Rattle.dm_exec.specs.Shown.{Seen, goes_on, has_exited, is_undefined, seen}

-- the state to which the step of a number leads
unfoldable pub next_state : Program → ℕ → State → State
next_state program choice state = stepped program choice state

-- a run that has ended stays so
abbrev pub stepped_seen : Program → ℕ → Seen → Seen
stepped_seen program choice (goes_on state) = seen (next_state program choice state)
stepped_seen program choice (has_exited status output) = has_exited status output
stepped_seen program choice (is_undefined cause place output) = is_undefined cause place output

-- a step for each choice
abbrev pub after_seen : Program → List ℕ → Seen → Seen
after_seen program [] before = before
after_seen program (choice ∷ choices) before = after_seen program choices (stepped_seen program choice before)
