-- The generated project, and the summary of a plan of it.
--     summary n plan      definitions D rewritten R kept K bytes OLD NEW, of a plan of the project with n macros
use Rattle.std.specs.Prelude.{ℕ, List, [], ◌∷◌, length, codes, Option, Some, None, unwrap_or}
use Rattle.std.specs.Fmt.{decimal}
use Rattle.std.specs.List.{concat}
use Rattle.std.specs.FinMap as finite
use Rattle.dm_token.specs.declared.unit.Unit.{Unit as Source}
use Rattle.dm_io.specs.Files.{Files, file_at}
use Rattle.dm_edit.specs.declared.plan.Plan.{Plan}
use Rattle.dm_manifest.specs.Units.{alone}
use Rattle.dm_gen.specs.Generated.{generated_text, unit_name}
use Rattle.dm_report.specs.Counts.{rewritten_count, kept_count}
use Rattle.dm_last.specs.Last.{with_files}

-- the project: a folder with one file, which is the one unit
abbrev pub files_of : ℕ → Files
files_of n = finite.insert finite.empty unit_name (generated_text n)

abbrev pub units : List Source
units = alone unit_name ∷ []

-- ---- the summary

-- the bytes of a file, of which there are none where it is absent
abbrev pub bytes_at : Option Files → List ℕ → List ℕ
bytes_at None name = []
bytes_at (Some files) name = unwrap_or (file_at files name) []

-- how many bytes the file has when the plan's files are written
abbrev pub size_after : ℕ → Plan → ℕ
size_after n plan = length (bytes_at (with_files (Some (files_of n)) plan.files) unit_name)

-- definitions D rewritten R kept K bytes OLD NEW
abbrev pub summary_line : ℕ → ℕ → ℕ → ℕ → ℕ → List ℕ
summary_line definitions rewritten kept old new =
    concat
    (codes "definitions " ∷ decimal definitions ∷ codes " rewritten " ∷ decimal rewritten ∷ codes " kept " ∷ decimal kept
    ∷ codes " bytes " ∷ decimal old ∷ codes " " ∷ decimal new ∷ codes "\n" ∷ [])

-- of a plan of the project
abbrev pub summary : ℕ → Plan → List ℕ
summary n plan =
    summary_line (length plan.entries) (rewritten_count plan.entries) (kept_count plan.entries) (length (generated_text n)) (size_after n plan)
