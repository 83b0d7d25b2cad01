-- What is said where a unit's reading stopped.
use Rattle.std.specs.Prelude.{ℕ, List, [], slice_index_or}
use Rattle.dm_token.specs.declared.stop.Stop.{Stop}
use Rattle.dm_token.specs.declared.stop.Stop.TheVariants.{Memory, Refused, Limit, ReadFault}
use Rattle.dm_lines.specs.Statuses as statuses
use Rattle.dm_lines.specs.Lines.{refusal_line, limit_line, read_fault_line}

-- the line, where these are the files' names by number
abbrev pub line_of_stop : List (List ℕ) → Stop → List ℕ
line_of_stop names Memory = []
line_of_stop names (Refused refusal) = refusal_line (slice_index_or names refusal.place.file []) refusal
line_of_stop names (Limit limit) = limit_line limit.number (slice_index_or names limit.file [])
line_of_stop names (ReadFault file) = read_fault_line (slice_index_or names file [])

-- the status
abbrev pub status_of_stop : Stop → ℕ
status_of_stop Memory = statuses.memory_wanted
status_of_stop (Refused refusal) = statuses.refused
status_of_stop (Limit limit) = statuses.limit_passed
status_of_stop (ReadFault file) = statuses.read_fault
