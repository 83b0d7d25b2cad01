-- The lines of a report.
use Rattle.std.specs.Prelude.{ℕ, List, [], ◌∷◌, ◌++◌, codes}
use Rattle.std.specs.Fmt.{decimal}
use Rattle.std.specs.List.{concat, flat_map}
use Rattle.dm_token.specs.declared.place.Place.{Place}
use Rattle.dm_token.specs.declared.expansion.Definition.{Definition}
use Rattle.dm_edit.specs.declared.plan.Entry.{Entry}
use Rattle.dm_edit.specs.declared.plan.Fate.{Fate}
use Rattle.dm_edit.specs.declared.plan.Fate.TheVariants.{Rewritten, Kept}
use Rattle.dm_edit.specs.declared.plan.Plan.{Plan}
use Rattle.dm_report.specs.Counts.{rewritten_count, kept_count}
use Rattle.dm_report.specs.Titles.{title_of}
use Rattle.dm_report.specs.Words.{file_name, kind_word}

-- rewritten FILE:LINE NAME KIND
abbrev pub rewritten_line : List ℕ → Definition → List ℕ → List ℕ
rewritten_line file definition kind =
    concat (codes "rewritten " ∷ file ∷ codes ":" ∷ decimal definition.place.line ∷ codes " " ∷ definition.name ∷ codes " " ∷ kind ∷ codes "\n" ∷ [])

-- kept FILE:LINE NAME rule R TITLE, and a space
abbrev pub kept_text : List ℕ → Definition → ℕ → List ℕ → List ℕ
kept_text file definition rule title =
    concat (codes "kept " ∷ file ∷ codes ":" ∷ decimal definition.place.line ∷ codes " " ∷ definition.name
    ∷ codes " rule " ∷ decimal rule ∷ codes " " ∷ title ∷ codes " " ∷ [])

-- FILE:LINE:COLUMN, and the end of the line
abbrev pub place_text : List ℕ → Place → List ℕ
place_text file place = concat (file ∷ codes ":" ∷ decimal place.line ∷ codes ":" ∷ decimal place.column ∷ codes "\n" ∷ [])

-- the line of a definition
abbrev pub fate_line : List (List ℕ) → Definition → Fate → List ℕ
fate_line names definition (Rewritten kind) = rewritten_line (file_name names definition.place.file) definition (kind_word kind)
fate_line names definition (Kept rule place) =
    kept_text (file_name names definition.place.file) definition rule (title_of rule) ++ place_text (file_name names place.file) place

unfoldable pub entry_line : List (List ℕ) → Entry → List ℕ
entry_line names entry = fate_line names entry.definition entry.outcome

-- rewritten R kept K
abbrev pub summary_line : ℕ → ℕ → List ℕ
summary_line rewritten kept =
    concat (codes "rewritten " ∷ decimal rewritten ∷ codes " kept " ∷ decimal kept ∷ codes "\n" ∷ [])

-- a line for each definition, and the summary
unfoldable pub report_of : Plan → List ℕ
report_of plan =
    flat_map (entry_line plan.names) plan.entries ++ summary_line (rewritten_count plan.entries) (kept_count plan.entries)
