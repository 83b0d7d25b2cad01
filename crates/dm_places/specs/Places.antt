-- Places that lie inside the files that they name.
--     IsPlaceOf bytes place      the place of one of the bytes of a file, or 1:1 where it is empty
--     LiesIn setting place      the same of the file of that number, where one that is absent counts as empty
--     LiesInFile old new files place      so is it of the files of a call, from one moment of a loader to another
--     CanBeRead setting define      the text of a define is one of tokens
use Rattle.std.specs.Prelude.{◌≡◌, ◌⊎◌, ℕ, ◌<◌, List, [], length, unwrap_or, IfErr}
use Rattle.dm_token.specs.Places.{place_of}
use Rattle.dm_token.specs.declared.place.Place.{Place}
use Rattle.dm_io.specs.Files.{Files}
use Rattle.dm_search.specs.CallFiles.{file_for}
use Rattle.dm_search.specs.Loaded.{Loaded, name_of}
use Rattle.dm_unit.specs.States.{Setting}
use Rattle.dm_unit.specs.Sources.{reading_of}
use Rattle.dm_unit.specs.Definitions.{define_text}

abbrev pub IsPlaceOf : List ℕ → Place → Type 0
IsPlaceOf bytes place =
    (place ≡ place_of place.file bytes place.byte) × ((place.byte < length bytes) ⊎ ((bytes ≡ []) × (place.byte ≡ 0)))

abbrev pub LiesIn : Setting → Place → Type 0
LiesIn setting place = IsPlaceOf (unwrap_or (setting.source (setting.named place.file)) []) place

-- The file has the name that its number has afterwards, and the bytes that it had before in the call.
abbrev pub LiesInFile : Loaded → Loaded → Files → Place → Type 0
LiesInFile old new files place = IsPlaceOf (unwrap_or (file_for old files (name_of new place.file)) []) place

-- The text of a define of the manifest is one of tokens.
abbrev pub CanBeRead : Setting → List ℕ → Type 0
CanBeRead setting define = IfErr (reading_of setting.main (define_text define)) (λ refusal. ⊥)
