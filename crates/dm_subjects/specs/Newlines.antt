-- The offsets of the newlines of files.
--     newlines_from at bytes      those of bytes of which the first has an offset
--     newlines_of loaded      those of each file that a loader knows, by its number
--     starts_from at bytes      where lines begin behind them
use Rattle.std.specs.Prelude.{ℕ, ◌+◌, ◌==◌, List, [], ◌∷◌, map, length, if◌then◌else◌}
use Rattle.std.specs.List.{range_with_len}
use Rattle.dm_token.specs.Bytes.{newline}
use Rattle.dm_search.specs.Loaded.{Loaded}
use Rattle.dm_subjects.specs.Subjects.{bytes_at}

abbrev pub newlines_from : ℕ → List ℕ → List ℕ
newlines_from at [] = []
newlines_from at (byte ∷ bytes) = if byte == newline then at ∷ newlines_from (at + 1) bytes else newlines_from (at + 1) bytes

abbrev pub newlines_in : Loaded → ℕ → List ℕ
newlines_in loaded file = newlines_from 0 (bytes_at loaded file)

abbrev pub newlines_of : Loaded → List (List ℕ)
newlines_of loaded = map (newlines_in loaded) (range_with_len 0 (length loaded.names))

-- the offsets behind the newlines
abbrev pub starts_from : ℕ → List ℕ → List ℕ
starts_from at [] = []
starts_from at (byte ∷ bytes) = if byte == newline then (at + 1) ∷ starts_from (at + 1) bytes else starts_from (at + 1) bytes
