-- Lines, columns and the order of places.
use Rattle.std.specs.Prelude.{◌≡◌, ℕ, ◌+◌, ◌<◌, ◌≤◌, ◌⊎◌, List, take, fold, count_by, ◌==◌, if◌then◌else◌}
pub use Rattle.dm_token.specs.Bytes.{newline}
use Rattle.dm_token.specs.declared.place.Place.{Place}
use Rattle.dm_token.specs.declared.place.Span.{Span}

-- how many newlines there are
abbrev pub newlines : List ℕ → ℕ
newlines bytes = count_by (λ byte. byte == newline) bytes

-- how many bytes stand after the last newline: each byte counts, and a newline starts the count again
abbrev pub since_newline : List ℕ → ℕ
since_newline bytes = fold (λ count byte. if byte == newline then 0 else count + 1) 0 bytes

-- the line of the byte at an offset: 1 and the newlines before it
abbrev pub line_at : List ℕ → ℕ → ℕ
line_at bytes offset = 1 + newlines (take offset bytes)

-- its column: 1 and the bytes between the line's start and it
abbrev pub column_at : List ℕ → ℕ → ℕ
column_at bytes offset = 1 + since_newline (take offset bytes)

-- its place in the file of this number
abbrev pub place_of : ℕ → List ℕ → ℕ → Place
place_of file bytes offset = record { file = file; byte = offset; line = line_at bytes offset; column = column_at bytes offset }

-- one place is before another in the order of files and then of bytes
abbrev pub IsBefore : Place → Place → Type 0
IsBefore a b = (a.file < b.file) ⊎ ((a.file ≡ b.file) × (a.byte < b.byte))

-- one span lies inside another
abbrev pub IsWithin : Span → Span → Type 0
IsWithin inner outer = (outer.first ≤ inner.first) × (inner.after ≤ outer.after)
