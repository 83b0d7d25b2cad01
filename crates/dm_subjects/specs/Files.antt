-- The files that are written.
--     edited_files loaded entries      the numbers of those with a rewritten definition
--     changed_file loaded file      a file as it is held
--     with_mark edited entry      marks of files, with that of an entry
use Rattle.std.specs.Prelude.{ℕ, ◌&&◌, Bool, true, false, List, filter, length, nat_eq, slice_set, if◌then◌else◌}
use Rattle.std.specs.List.{list_any, range_with_len}
use Rattle.dm_search.specs.Loaded.{Loaded, name_of}
use Rattle.dm_edit.specs.declared.plan.Changed.{Changed}
use Rattle.dm_edit.specs.declared.plan.Entry.{Entry}
use Rattle.dm_edit.specs.declared.plan.Fate.{Fate}
use Rattle.dm_edit.specs.declared.plan.Fate.TheVariants.{Rewritten, Kept}
use Rattle.dm_subjects.specs.Subjects.{bytes_at}

abbrev pub is_rewritten : Fate → Bool
is_rewritten (Rewritten kind) = true
is_rewritten (Kept rule place) = false

-- whether a definition in a file is rewritten
abbrev pub is_edited : List Entry → ℕ → Bool
is_edited entries file = list_any (λ (entry : Entry). is_rewritten entry.outcome && nat_eq entry.definition.place.file file) entries

abbrev pub edited_files : Loaded → List Entry → List ℕ
edited_files loaded entries = filter (is_edited entries) (range_with_len 0 (length loaded.names))

-- a file as it is held
abbrev pub changed_file : Loaded → ℕ → Changed
changed_file loaded file = record { name = name_of loaded file; bytes = bytes_at loaded file }

-- The file of a rewritten definition is marked.
abbrev pub with_mark : List Bool → Entry → List Bool
with_mark edited entry = if is_rewritten entry.outcome then slice_set edited entry.definition.place.file true else edited
