-- How many bytes a file has when others are written, and the summary of a plan of the generated project.
use Rattle.std.proofs.Common.{◌≡◌, ◌∙◌, ℕ, zero, suc, ◌+◌, ◌<◌, Bool, true, false, List, [], ◌∷◌, length, take, get_or, All, Option, Some, Result, refl, sym, ap, subst, arith}
use Rattle.std.specs.Prelude.{cond, nat_eq, unwrap_or}
use Rattle.std.specs.Cmp.Lexicographic.{pointwise, slice_cmp, texts_ties}
use Rattle.std.specs.FinMap as finite
use Rattle.std.specs.Ordering.{nat_cmp, eq_by_cmp}
use Rattle.std.proofs.lemmas.Cmp.{nat_list_cmp_total}
use Rattle.std.proofs.lemmas.Slice.Eq.{bytes_eq-Decides}
use Rattle.dm_token.specs.Bytes as bytes
use Rattle.dm_token.specs.Names as names
use Rattle.dm_token.specs.Names.{is_normal_name}
use Rattle.dm_token.specs.declared.stop.Stop.{Stop}
use Rattle.dm_token.specs.declared.unit.Unit.{Unit as Source}
use Rattle.dm_io.specs.Files.{Files, file_at, with_file}
use Rattle.dm_manifest.proofs.Short.{alone-lawful}
use Rattle.dm_manifest.specs.Units.{IsLawful, alone}
use Rattle.dm_search.specs.Loaded.{Loaded}
use Rattle.dm_edit.specs.declared.plan.Changed.{Changed}
use Rattle.dm_edit.specs.declared.plan.Plan.{Plan}
use Rattle.dm_gen.specs.Generated.{generated_text, unit_name}
use Rattle.dm_report.specs.Counts.{kept_count, rewritten_count}
use Rattle.dm_last.specs.Last.{with_files}
use Rattle.dm_apply.specs.Plans.{IsOnePlan}
use Rattle.dm_apply.specs.Summaries.{bytes_at, files_of, size_after, summary, summary_line}
use Rattle.dm_apply.specs.Summaries.{units as generated_units}
use Rattle.dm_apply.proofs.CommitLemmas.{with_files-more}

-- files that are told stay told
written : (folder : Files) (files : List Changed) → (now : Files) × (with_files (Some folder) files ≡ Some now)
written folder [] = (folder, refl)
written folder (file ∷ files) = written (finite.insert folder file.name file.bytes) files

-- the size of a file when one is written
size-insert : (folder : Files) (name bytes other : List ℕ) (test : Bool) → eq_by_cmp (slice_cmp nat_cmp) other name ≡ test
    → cond test (length bytes) (length (bytes_at (Some folder) other)) ≡ length (bytes_at (with_file (Some folder) name bytes) other)
size-insert folder name bytes other test is =
    at test ∙ sym (ap (λ (found : Option (List ℕ)). length (unwrap_or found [])) (finite.get-insert nat_list_cmp_total folder name bytes other ∙ ap (λ (t : Bool). cond t (Some bytes) (finite.get folder other)) is))
  where
    at : (t : Bool) → cond t (length bytes) (length (unwrap_or (finite.get folder other) [])) ≡ length (unwrap_or (cond t (Some bytes) (finite.get folder other)) [])
    at true = refl
    at false = refl

-- the same behind others
pub size-more : (folder : Files) (files : List Changed) (at : ℕ) (file : Changed) (other : List ℕ) (size : ℕ) → at < length files → file ≡ get_or files at file
    → size ≡ length (bytes_at (with_files (Some folder) (take at files)) other) → (test : Bool) → pointwise nat_eq other file.name ≡ test
    → cond test (length file.bytes) size ≡ length (bytes_at (with_files (Some folder) (take (at + 1) files)) other)
size-more folder files at file other size inside is so_far test same =
    let now = written folder (take at files) in
    let size_of : Option Files → ℕ = λ told. length (bytes_at told other) in
    ap (λ (n : ℕ). cond test (length file.bytes) n) (so_far ∙ ap size_of now.1)
    ∙ (size-insert now.0 file.name file.bytes other test (sym (texts_ties other file.name) ∙ same)
    ∙ (ap (λ (told : Option Files). size_of (with_file told file.name file.bytes)) (sym now.1) ∙ ap size_of (sym (with_files-more (Some folder) files at file inside is))))

-- ---- the generated project

-- its one file
has_text : (n : ℕ) → bytes_at (Some (files_of n)) unit_name ≡ generated_text n
has_text n =
    let same : eq_by_cmp (slice_cmp nat_cmp) unit_name unit_name ≡ true = sym (texts_ties unit_name unit_name) ∙ (bytes_eq-Decides unit_name unit_name).1 refl in
    ap (λ (found : Option (List ℕ)). unwrap_or found [])
    (finite.get-insert nat_list_cmp_total finite.empty unit_name (generated_text n) unit_name ∙ ap (λ (t : Bool). cond t (Some (generated_text n)) (file_at finite.empty unit_name)) same)

-- the summary of a plan of it
pub sums_up : (n : ℕ) (plan : Plan) (name text : List ℕ) (old new : ℕ) (held : Files) (items : List Changed) → name ≡ unit_name → held ≡ files_of n → items ≡ plan.files
    → old ≡ length (bytes_at (Some held) name)
    → ((folder : Files) → old ≡ length (bytes_at (Some folder) name) → new ≡ length (bytes_at (with_files (Some folder) items) name))
    → text ≡ summary_line (length plan.entries) (rewritten_count plan.entries) (kept_count plan.entries) old new → text ≡ summary n plan
sums_up n plan name text old new held items named holds same was behind is =
    let line : ℕ → ℕ → List ℕ = λ before after. summary_line (length plan.entries) (rewritten_count plan.entries) (kept_count plan.entries) before after in
    let before : old ≡ length (generated_text n) =
    was ∙ (ap (λ (folder : Files). length (bytes_at (Some folder) name)) holds ∙ (ap (λ (word : List ℕ). length (bytes_at (Some (files_of n)) word)) named ∙ ap length (has_text n))) in
    let after : new ≡ size_after n plan =
    behind held was
    ∙ (ap (λ (folder : Files). length (bytes_at (with_files (Some folder) items) name)) holds
    ∙ (ap (λ (files : List Changed). length (bytes_at (with_files (Some (files_of n)) files) name)) same
    ∙ ap (λ (word : List ℕ). length (bytes_at (with_files (Some (files_of n)) plan.files) word)) named)) in
    is ∙ (ap (λ (count : ℕ). line count new) before ∙ ap (line (length (generated_text n))) after)

-- what is given of its folder and its units is given of the project
pub of_project : (n : ℕ) (told : Option Files) (units : List Source) (result : Result Plan Stop) (known : Loaded) → told ≡ Some (files_of n) → units ≡ generated_units → IsOnePlan told units result known
    → IsOnePlan (Some (files_of n)) generated_units result known
of_project n told units result known same unit is =
    subst (λ (files : Option Files). IsOnePlan files generated_units result known) same (subst (λ (these : List Source). IsOnePlan told these result known) unit is)

-- its unit is lawful
normal_unit_name : is_normal_name unit_name ≡ true
unfolding names.is_part names.is_plain_part names.is_name_byte bytes.is_digit
normal_unit_name = refl

pub all-lawful : (unit : Source) (name : List ℕ) → unit ≡ alone name → name ≡ unit_name → All IsLawful (unit ∷ [])
all-lawful unit name is named zero d below = alone-lawful unit_name unit (is ∙ ap alone named) normal_unit_name
all-lawful unit name is named (suc k) d below = absurd (omega arith)
