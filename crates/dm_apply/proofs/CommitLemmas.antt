-- What files are when others are written, that their rooms stay, and what is put.
use Rattle.std.proofs.Common.{◌≡◌, ◌≢◌, ◌∙◌, ℕ, suc, ◌+◌, ◌<◌, ◌≤◌, Bool, true, false, List, [], ◌∷◌, ◌++◌, length, map, take, drop, get_or, Option, Some, None, inl, inr, refl, sym, ap, subst, arith, below_more}
use Rattle.std.specs.Prelude.{slice_get, bytes_eq, cond, is_some}
use Rattle.std.specs.Bool.{OnTrue, OnFalse}
use Rattle.std.specs.List.{IsDistinct}
use Rattle.std.specs.FinMap as finite
use Rattle.std.specs.Cmp.Lexicographic.{slice_cmp}
use Rattle.std.specs.Ordering.{nat_cmp, eq_by_cmp}
use Rattle.std.proofs.lemmas.Bool.{true≢false}
use Rattle.std.proofs.lemmas.Cmp.{nat_list_cmp_total}
use Rattle.std.proofs.lemmas.Slice.Eq.{bytes_eq-Decides}
use Rattle.std.proofs.lemmas.List.{get_or-map, length-map, length-take-le, take-append-drop, take_more, get_or_default}
use Rattle.std.proofs.Math.Seq.{drop-cons}
use Rattle.std.proofs.lemmas.Map.Keys.{apart_from_distinct}
use Rattle.std.proofs.lemmas.Option.{get_or_from_slice_get, slice_get_read}
use Rattle.dm_io.specs.Files.{Files, HasFile, with_file}
use Rattle.dm_io.specs.Faults.{Rose}
use Rattle.dm_io.specs.Output.{appended, MayHaveAppended}
use Rattle.dm_lines.specs.Outside.{Outside, Puts}
use Rattle.dm_lines.specs.Puts.{PutsText}
use Rattle.dm_lines.specs.Statuses as statuses
use Rattle.dm_edit.specs.declared.plan.Changed.{Changed}
use Rattle.dm_apply.specs.declared.prepared.Prepared.{Prepared}
use Rattle.dm_last.specs.Last.{with_files}
use Rattle.dm_apply.specs.Commits.{HasRoom, FailsAt, IsCommittedAs, write_failed}

-- ---- files that are written

-- one file more
pub with_files-push : (told : Option Files) (files : List Changed) (file : Changed) → with_files told (files ++ file ∷ []) ≡ with_file (with_files told files) file.name file.bytes
with_files-push told [] file = refl
with_files-push told (first ∷ files) file = with_files-push (with_file told first.name first.bytes) files file

pub with_files-more : (told : Option Files) (files : List Changed) (at : ℕ) (file : Changed) → at < length files → file ≡ get_or files at file
    → with_files told (take (at + 1) files) ≡ with_file (with_files told (take at files)) file.name file.bytes
with_files-more told files at file inside is =
    ap (λ (some : List Changed). with_files told some) (take_more files at file inside ∙ ap (λ (one : Changed). take at files ++ one ∷ []) (sym is)) ∙ with_files-push told (take at files) file

-- what is there when the files up to a position are written, and the one there too
pub written-more : (told before after : Option Files) (files : List Changed) (at : ℕ) (file : Changed) (bytes : List ℕ) → at < length files → file ≡ get_or files at file → bytes ≡ file.bytes
    → before ≡ with_files told (take at files) → after ≡ with_file before file.name bytes → after ≡ with_files told (take (at + 1) files)
written-more told before after files at file bytes inside is same so_far next =
    next
    ∙ (ap (λ (given : List ℕ). with_file before file.name given) same
    ∙ (ap (λ (now : Option Files). with_file now file.name file.bytes) so_far ∙ sym (with_files-more told files at file inside is)))

-- a file that is there stays there when another is written
file_stays : (told : Option Files) (name bytes other : List ℕ) → HasFile told other → HasFile (with_file told name bytes) other
file_stays None name bytes other there = tt
file_stays (Some files) name bytes other there = subst (λ found. is_some found ≡ true) (sym (finite.get-insert nat_list_cmp_total files name bytes other)) (at (eq_by_cmp (slice_cmp nat_cmp) other name))
  where
    at : (b : Bool) → is_some (cond b (Some bytes) (finite.get files other)) ≡ true
    at true = refl
    at false = there

pub files_stay : (told : Option Files) (files : List Changed) (other : List ℕ) → HasFile told other → HasFile (with_files told files) other
files_stay told [] other there = there
files_stay told (file ∷ files) other there = files_stay (with_file told file.name file.bytes) files other (file_stays told file.name file.bytes other there)

-- ---- rooms

names-differ : (one other : List ℕ) → bytes_eq one other ≡ false → one ≢ other
names-differ one other differ same = true≢false (sym ((bytes_eq-Decides one other).1 same) ∙ differ)

-- The rooms of earlier files stay when that of one more is made.
pub rooms-more : (before after : List ℕ → ℕ) (files : List Changed) (at : ℕ) (file : Changed) → at < length files → file ≡ get_or files at file
    → IsDistinct bytes_eq (map (λ (one : Changed). one.name) files)
    → ((k : ℕ) (d : Changed) → k < at → HasRoom before (get_or files k d))
    → length file.bytes ≤ after file.name → ((other : List ℕ) → other ≢ file.name → after other ≡ before other)
    → (k : ℕ) (d : Changed) → k < at + 1 → HasRoom after (get_or files k d)
rooms-more before after files at file inside is apart rooms here stay k d below =
    below_more (λ (j : ℕ). HasRoom after (get_or files j d)) at (λ j earlier. kept j earlier) (subst (HasRoom after) at_last here) k below
  where
    name : Changed → List ℕ
    name one = one.name

    at_last : file ≡ get_or files at d
    at_last = is ∙ get_or_default files at file d inside

    kept : (j : ℕ) → j < at → HasRoom after (get_or files j d)
    kept j earlier =
        let here_too : j < length files = omega arith in
        let behind : at < length (map name files) = omega (arith, length-map files name) in
        let apart_here = apart_from_distinct bytes_eq (map name files) j at d.name apart earlier behind in
        let differs : name (get_or files j d) ≢ file.name = λ same. names-differ (get_or (map name files) j d.name) (get_or (map name files) at d.name) apart_here
        (get_or-map name files j d d.name here_too ∙ same ∙ ap name at_last ∙ sym (get_or-map name files at d d.name inside)) in
        subst (λ room. length (get_or files j d).bytes ≤ room) (sym (stay (name (get_or files j d)) differs)) (rooms j d earlier)

-- ---- what is put

-- a text that a call put, or a front of it
pub puts : (put : Bool) (before after : Option (List ℕ)) (faults later : ℕ) (text given : List ℕ) → given ≡ text
    → OnTrue put (after ≡ appended before given) → OnFalse put (MayHaveAppended before after given) → (put ≡ false → Rose faults later) → PutsText before after faults later text
puts true before after faults later text given same whole front failed = inl (whole ∙ ap (appended before) same)
puts false before after faults later text given same whole front failed = inr (failed refl, subst (MayHaveAppended before after) same front)

-- the file at the position that is given is the one whose write failed
pub failed_there : (prepared : Prepared) (before after : Outside) (files : List Changed) (lines : List (List ℕ)) (at : ℕ) (line : List ℕ) → files ≡ prepared.files → lines ≡ prepared.lines
    → length prepared.lines ≡ length prepared.files → at < length files → FailsAt before.files after.files files at → Rose before.folder_faults after.folder_faults → line ≡ get_or lines at line → Puts before after line
    → IsCommittedAs prepared before after statuses.write_fault
failed_there prepared before after files lines at line same same_lines paired inside fails rose is put =
    let within : at < length prepared.files = subst (λ (some : List Changed). at < length some) same inside in
    let here : FailsAt before.files after.files prepared.files at = subst (λ (some : List Changed). FailsAt before.files after.files some at) same fails in
    let file = here.0 in
    let split : prepared.files ≡ take at prepared.files ++ file ∷ drop (suc at) prepared.files =
    sym (take-append-drop at prepared.files) ∙ ap (λ (rest : List Changed). take at prepared.files ++ rest) (drop-cons prepared.files at file within ∙ ap (λ (one : Changed). one ∷ drop (suc at) prepared.files) (get_or_from_slice_get prepared.files at file file here.1)) in
    let its_line : slice_get prepared.lines at ≡ Some line = slice_get_read prepared.lines (length prepared.lines) at line refl (omega (arith, within, paired)) (is ∙ ap (λ (some : List (List ℕ)). get_or some at line) same_lines) in
    let least : at ≤ length prepared.files = omega (arith, within) in (
      write_failed (take at prepared.files) file (drop (suc at) prepared.files),
      refl,
      (split, rose, here.2, line, subst (λ n. slice_get prepared.lines n ≡ Some line) (sym (length-take-le at prepared.files least)) its_line, put),
    )
