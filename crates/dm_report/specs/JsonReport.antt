-- The report as JSON: the keys of each object in the order of their bytes. Names are put as text: bytes that are no UTF-8 become U+FFFD.
use Rattle.std.specs.Prelude.{◌≡◌, ℕ, List, ◌++◌, codes, map, Some}
use Rattle.std.specs.Str.Lossy.{utf8_lossy}
use Rattle.serde_json.specs.Data.{Data, number, unsigned, string, array, object, member, no_members}
use Rattle.serde_json.specs.Read.{read}
use Rattle.serde_json.specs.View.{items_of}
use Rattle.serde_json.specs.Written.{compact_text}
use Rattle.dm_token.specs.declared.place.Place.{Place}
use Rattle.dm_token.specs.declared.expansion.Definition.{Definition}
use Rattle.dm_edit.specs.declared.plan.Entry.{Entry}
use Rattle.dm_edit.specs.declared.plan.Fate.{Fate}
use Rattle.dm_edit.specs.declared.plan.Fate.TheVariants.{Rewritten, Kept}
use Rattle.dm_edit.specs.declared.plan.Plan.{Plan}
use Rattle.dm_report.specs.Counts.{rewritten_count, kept_count}
use Rattle.dm_report.specs.Titles.{title_of}
use Rattle.dm_report.specs.Words.{file_name, kind_word}

-- a number
abbrev pub natural : ℕ → Data
natural n = number (unsigned n)

-- a place in a file of this name
abbrev pub place_data : List ℕ → Place → Data
place_data file place =
    object (member (codes "column") (natural place.column)
    (member (codes "file") (string (utf8_lossy file))
    (member (codes "line") (natural place.line) no_members)))

-- a definition in a file of this name that becomes a declaration
abbrev pub rewritten_data : List ℕ → Definition → List ℕ → Data
rewritten_data file definition kind =
    object (member (codes "as") (string kind)
    (member (codes "file") (string (utf8_lossy file))
    (member (codes "line") (natural definition.place.line)
    (member (codes "name") (string (utf8_lossy definition.name))
    (member (codes "outcome") (string (codes "rewritten")) no_members)))))

-- one that is kept by a rule
abbrev pub kept_data : List ℕ → Definition → Data → ℕ → Data
kept_data file definition place rule =
    object (member (codes "file") (string (utf8_lossy file))
    (member (codes "line") (natural definition.place.line)
    (member (codes "name") (string (utf8_lossy definition.name))
    (member (codes "outcome") (string (codes "kept"))
    (member (codes "place") place
    (member (codes "rule") (natural rule)
    (member (codes "title") (string (title_of rule)) no_members)))))))

abbrev pub fate_data : List (List ℕ) → Definition → Fate → Data
fate_data names definition (Rewritten kind) = rewritten_data (file_name names definition.place.file) definition (kind_word kind)
fate_data names definition (Kept rule place) =
    kept_data (file_name names definition.place.file) definition (place_data (file_name names place.file) place) rule

unfoldable pub entry_data : List (List ℕ) → Entry → Data
entry_data names entry = fate_data names entry.definition entry.outcome

-- the definitions, and how many of them are kept and rewritten
abbrev pub whole_data : List Data → ℕ → ℕ → Data
whole_data definitions kept rewritten =
    object (member (codes "definitions") (array (items_of definitions))
    (member (codes "kept") (natural kept)
    (member (codes "rewritten") (natural rewritten) no_members)))

-- a plan
unfoldable pub plan_data : Plan → Data
plan_data plan = whole_data (map (entry_data plan.names) plan.entries) (kept_count plan.entries) (rewritten_count plan.entries)

-- its JSON without spaces, and a newline
abbrev pub json_of : Plan → List ℕ
json_of plan = compact_text (plan_data plan) ++ codes "\n"

-- JSON and a newline, which is read as this value
abbrev pub ReadsAs : List ℕ → Data → Type 0
ReadsAs text value = (json : List ℕ) × (text ≡ json ++ codes "\n") × (read json ≡ Some value)
