-- The definitions that the directives of a file make (6.10.3).
--     IsDirectiveIn file bytes start behind      a directive of a file with these bytes: its `#` and the tokens behind that
--     IsMadeIn file bytes definition      one of them makes this definition
--     IsMade setting definition      so it is of a definition that a unit reads from a file
use Rattle.std.specs.Prelude.{◌≡◌, ℕ, true, List, [], ◌∷◌, Some, slice_get, unwrap_or}
use Rattle.std.specs.Result.{result_unwrap_or}
use Rattle.dm_token.specs.declared.expansion.Definition.{Definition}
use Rattle.dm_token.specs.declared.token.PpToken.{PpToken}
use Rattle.dm_macro.specs.Forms.{Gives}
use Rattle.dm_runs.specs.Runs.{is_file}
use Rattle.dm_unit.specs.Definitions.{is_plain_head, origin_of}
use Rattle.dm_unit.specs.Lines.{Part, directive, parts_of}
use Rattle.dm_unit.specs.Sources.{reading_of}
use Rattle.dm_unit.specs.States.{Setting}

-- the parts of the file of this number with these bytes
abbrev pub parts_in : ℕ → List ℕ → List Part
parts_in file bytes = parts_of (result_unwrap_or (reading_of file bytes) [])

abbrev pub IsDirectiveIn : ℕ → List ℕ → PpToken → List PpToken → Type 0
IsDirectiveIn file bytes start behind = (k : ℕ) × (slice_get (parts_in file bytes) k ≡ Some (directive start behind))

abbrev pub IsMadeIn : ℕ → List ℕ → Definition → Type 0
IsMadeIn file bytes definition =
    (start : PpToken) × (behind : List PpToken) × IsDirectiveIn file bytes start behind
    × Gives (start ∷ behind) (origin_of file) (is_plain_head bytes start (start ∷ behind)) definition

-- the bytes that a unit's reading has for the file of a number
abbrev pub bytes_for : Setting → ℕ → List ℕ
bytes_for setting file = unwrap_or (setting.source (setting.named file)) []

abbrev pub IsMade : Setting → Definition → Type 0
IsMade setting definition =
    is_file definition.origin ≡ true → IsMadeIn definition.place.file (bytes_for setting definition.place.file) definition
