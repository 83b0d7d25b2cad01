-- The world outside at a moment, and what may become of it.
use Rattle.std.specs.Prelude.{◌≡◌, ◌<◌, ℕ, List, length, Option, Some, None}
use Rattle.std.specs.Option.{IsSomeAnd}
use Rattle.dm_token.specs.Limits.{source_length_limit}
use Rattle.dm_io.specs.declared.folder.Folder as folder
use Rattle.dm_io.specs.declared.sink.Sink as sink
use Rattle.dm_io.specs.Files.{Files, file_at}
use Rattle.dm_lines.specs.Puts.{PutsText}

-- what is known of a folder and a sink
pub record Outside : Type 0 where
  pub files : Option Files
  pub folder_faults : ℕ
  pub written : Option (List ℕ)
  pub sink_faults : ℕ

-- where the files are told, the file of this name has these bytes
abbrev pub HasText : Option Files → List ℕ → List ℕ → Type 0
HasText None name bytes = Unit {0}
HasText (Some files) name bytes = file_at files name ≡ Some bytes

-- where the files are told, there is none of this name
abbrev pub IsAbsent : Option Files → List ℕ → Type 0
IsAbsent None name = Unit {0}
IsAbsent (Some files) name = file_at files name ≡ None

-- where the files are told, the one of this name is too long
abbrev pub IsTooLong : Option Files → List ℕ → Type 0
IsTooLong None name = Unit {0}
IsTooLong (Some files) name = IsSomeAnd (file_at files name) (λ bytes. source_length_limit < length bytes)

-- between two moments of the world a text was put
abbrev pub Puts : Outside → Outside → List ℕ → Type 0
Puts before after text = PutsText before.written after.written before.sink_faults after.sink_faults text

-- what is known of a folder and a sink at a moment
abbrev pub outside : {F S : Type 0} → folder.Ghosts F → sink.Ghosts S → F → S → Outside
outside folder_shows sink_shows files output =
    record { files = folder_shows.files files; folder_faults = folder_shows.faults files; written = sink_shows.written output; sink_faults = sink_shows.faults output }

-- no file is changed
abbrev pub KeepsFiles : Outside → Outside → Type 0
KeepsFiles before after = after.files ≡ before.files
