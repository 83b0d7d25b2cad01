-- Which bytes are on a line, by where it begins and where the next one does.
--     is_on line offset      whether the byte at an offset is on the line
--     stands_on file line definition      whether a definition stands in a file with its `#` on the line
use Rattle.std.specs.Prelude.{ℕ, Bool, false, ◌&&◌, ◌==◌, not, leb, Option, Some, None}
use Rattle.dm_token.specs.declared.expansion.Definition.{Definition}
use Rattle.dm_definitions.specs.Counts.{is_in_file}
use Rattle.dm_subjects.specs.declared.lines.Line.{Line}

-- whether an offset is at another one or behind it, if there is one
abbrev pub reaches : ℕ → Option ℕ → Bool
reaches offset None = false
reaches offset (Some from) = leb from offset

abbrev pub is_on : Line → ℕ → Bool
is_on line offset = reaches offset line.first && not (reaches offset line.next)

abbrev pub stands_on : ℕ → Line → Definition → Bool
stands_on file line one = is_in_file one.origin && ((one.place.file == file) && is_on line one.hash)
