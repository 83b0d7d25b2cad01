-- What a reading gives.
use Rattle.std.specs.Prelude.{◌≡◌, ◌≤◌, ℕ, List, length, Option, Some, None, nat_lt, if◌then◌else◌}
use Rattle.dm_io.specs.declared.folder.Got.{Got}
use Rattle.dm_io.specs.declared.folder.Got.TheVariants.{Bytes, Absent, Long, Failed}
use Rattle.dm_io.specs.Files.{Files, file_at}

-- what a reading of a file gives where nothing fails
abbrev pub reading_of : Option (List ℕ) → ℕ → Got
reading_of None most = Absent
reading_of (Some bytes) most = if nat_lt most (length bytes) then Long else Bytes bytes

-- where the files are told, an answer is the reading of the file
abbrev pub IsReading : Option Files → List ℕ → ℕ → Got → Type 0
IsReading None name most got = Unit {0}
IsReading (Some files) name most got = got ≡ reading_of (file_at files name) most

-- an answer to a reading: it failed, or it is the reading of the file
abbrev pub IsAnswer : Option Files → List ℕ → ℕ → Got → Type 0
IsAnswer told name most Failed = Unit {0}
IsAnswer told name most Absent = IsReading told name most Absent
IsAnswer told name most Long = IsReading told name most Long
IsAnswer told name most (Bytes bytes) = IsReading told name most (Bytes bytes)

-- no more bytes are read than asked for
abbrev pub HasAtMost : ℕ → Got → Type 0
HasAtMost most Failed = Unit {0}
HasAtMost most Absent = Unit {0}
HasAtMost most Long = Unit {0}
HasAtMost most (Bytes bytes) = length bytes ≤ most
