-- What the loading of a file leaves.
use Rattle.std.specs.Prelude.{◌≡◌, ℕ, ◌<◌, ◌≤◌, ◌⊎◌, Bool, true, false, List, length, Option, Result, Ok, Err}
use Rattle.dm_token.specs.declared.stop.Limit.{Limit as Limited}
use Rattle.dm_token.specs.declared.stop.Stop.{Stop}
use Rattle.dm_token.specs.declared.stop.Stop.TheVariants.{Memory, Refused, Limit, ReadFault}
use Rattle.dm_token.specs.LimitNumbers as limits
use Rattle.dm_token.specs.Limits.{source_length_limit, most_files}
use Rattle.dm_io.specs.declared.folder.Got.TheVariants.{Bytes, Absent, Long, Failed}
use Rattle.dm_io.specs.declared.folder.Got.{Got}
use Rattle.dm_io.specs.Files.{Files}
use Rattle.dm_io.specs.Answers.{IsReading}
use Rattle.dm_search.specs.Loaded.{Loaded, name_of, found_files, with_bytes, without_file}
use Rattle.dm_search.specs.Readable.{IsReadable, IsRefusedAs}

-- a limit that is passed with the file of this number
abbrev pub limit_at : ℕ → ℕ → Limited
limit_at number file = record { number = number; file = file }

-- Where the files are told, the file of a name has these bytes.
abbrev pub HasBytes : Option Files → List ℕ → List ℕ → Type 0
HasBytes told name bytes = IsReading told name source_length_limit (Bytes bytes)

-- Where the files are told, there is no file of this name.
abbrev pub HasNoFile : Option Files → List ℕ → Type 0
HasNoFile told name = IsReading told name source_length_limit Absent

-- Where the files are told, the file of this name is too long.
abbrev pub IsTooLong : Option Files → List ℕ → Type 0
IsTooLong told name = IsReading told name source_length_limit Long

-- The file of a name and a number stops its loading: it cannot be read, it is too long, it is one file too many, or its
-- bytes are refused, and each only where the ones before do not come.
abbrev pub StopsLoading : Option Files → List ℕ → Loaded → ℕ → Stop → Type 0
StopsLoading told name old file Memory = Unit {0}
StopsLoading told name old file (ReadFault number) = number ≡ file
StopsLoading told name old file (Limit limit) =
    ((limit ≡ limit_at limits.file_bytes file) × IsTooLong told name)
    ⊎ ((limit ≡ limit_at limits.files file) × (bytes : List ℕ) × HasBytes told name bytes × (most_files ≤ found_files old))
StopsLoading told name old file (Refused refusal) =
    (bytes : List ℕ) × HasBytes told name bytes × (found_files old < most_files) × IsRefusedAs file bytes refusal

-- A file of which nothing is known is loaded: its bytes are held, or it is known to be absent, or nothing changes.
abbrev pub Loads : Option Files → List ℕ → Loaded → ℕ → Result Bool Stop → Loaded → Type 0
Loads told name old file (Ok true) new =
    (bytes : List ℕ) × HasBytes told name bytes × (found_files old < most_files) × IsReadable file bytes × (new ≡ with_bytes old file bytes)
Loads told name old file (Ok false) new = HasNoFile told name × (new ≡ without_file old name)
Loads told name old file (Err stop) new = StopsLoading told name old file stop × (new ≡ old)

-- New bytes for a file that is held are refused: there are too many of them, or they cannot be read.
abbrev pub StopsReplacing : ℕ → List ℕ → Stop → Type 0
StopsReplacing file bytes Memory = Unit {0}
StopsReplacing file bytes (Limit limit) = (limit ≡ limit_at limits.file_bytes file) × (source_length_limit < length bytes)
StopsReplacing file bytes (Refused refusal) = (length bytes ≤ source_length_limit) × IsRefusedAs file bytes refusal
StopsReplacing file bytes (ReadFault number) = ⊥

-- What keeping the bytes of a file leaves.
abbrev pub KeepsBytes : List ℕ → Loaded → ℕ → Result Bool Stop → Loaded → Type 0
KeepsBytes bytes old file (Ok true) new = (found_files old < most_files) × IsReadable file bytes × (new ≡ with_bytes old file bytes)
KeepsBytes bytes old file (Ok false) new = ⊥
KeepsBytes bytes old file (Err Memory) new = new ≡ old
KeepsBytes bytes old file (Err (ReadFault number)) new = ⊥
KeepsBytes bytes old file (Err (Limit limit)) new = (limit ≡ limit_at limits.files file) × (most_files ≤ found_files old) × (new ≡ old)
KeepsBytes bytes old file (Err (Refused refusal)) new = (found_files old < most_files) × IsRefusedAs file bytes refusal × (new ≡ old)

-- What keeping that a file is absent leaves.
abbrev pub KeepsAbsence : Loaded → ℕ → Result Bool Stop → Loaded → Type 0
KeepsAbsence old file (Ok true) new = ⊥
KeepsAbsence old file (Ok false) new = new ≡ without_file old (name_of old file)
KeepsAbsence old file (Err Memory) new = new ≡ old
KeepsAbsence old file (Err (ReadFault number)) new = ⊥
KeepsAbsence old file (Err (Limit limit)) new = ⊥
KeepsAbsence old file (Err (Refused refusal)) new = ⊥

-- What keeping an answer to a reading leaves.
abbrev pub Keeps : Got → Loaded → ℕ → Result Bool Stop → Loaded → Type 0
Keeps (Bytes bytes) old file result new = KeepsBytes bytes old file result new
Keeps Absent old file result new = KeepsAbsence old file result new
Keeps Long old file result new = (result ≡ Err (Limit (limit_at limits.file_bytes file))) × (new ≡ old)
Keeps Failed old file result new = (result ≡ Err (ReadFault file)) × (new ≡ old)
