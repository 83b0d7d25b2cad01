-- The marked files, sorted.
use Rattle.std.proofs.Common.{rules, List, length, map, sym, ap, ◌∙◌, subst}
use Rattle.std.specs.Prelude.{IsPermutation, IsSortedByKey, filter}
use Rattle.std.specs.List.{range_with_len}
use Rattle.std.specs.Cmp.Lexicographic.{slice_cmp}
use Rattle.std.specs.Ordering.{nat_cmp}
use Rattle.std.proofs.lemmas.List.FromFn.{length-map-range_with_len}
use Rattle.dm_edit.specs.declared.plan.Changed.{Changed}
use Rattle.dm_subjects.specs.Files.{changed_file, edited_files, is_edited}
use Rattle.dm_subjects.proofs.FileLemmas.{marked-are}
use Rattle.dm_subjects.proofs.SortLemmas.{sorted-by-name}
use Rattle.dm_subjects.proofs.files.changed_files.Goals as goal

pub marked_files-requires-clause-numbered : goal.marked_files-requires-clause-numbered
marked_files-requires-clause-numbered c =
    ap length (c.as_slice.ensures.value ∙ c.in_ok-edited.ensures) ∙ length-map-range_with_len (is_edited c.args.entries.now) 0 (length c.names.result.now) ∙ ap length c.names.ensures.names

pub returns-clause-files : goal.returns-clause-files
returns-clause-files c =
    let loaded = c.args.loader.now in
    let test = is_edited c.args.entries.now in
    let marked = marked-are test (length c.names.result.now) c.as_slice.result.now (c.as_slice.ensures.value ∙ c.in_ok-edited.ensures)
    ∙ ap (λ n. filter test (range_with_len 0 n)) (ap length c.names.ensures.names) in
    subst (IsPermutation (map (changed_file loaded) (edited_files loaded c.args.entries.now))) (sym c.from_vec.ensures)
    (subst (λ (files : List Changed). IsPermutation files c.sort_by.new.self.items) (c.in_ok-files.ensures ∙ ap (map (changed_file loaded)) marked) c.in_ok-sort_by.ensures.permutation)

pub returns-clause-ascending : goal.returns-clause-ascending
returns-clause-ascending c =
    subst (IsSortedByKey (λ (one : Changed). one.name) (slice_cmp nat_cmp)) (sym c.from_vec.ensures)
    (sorted-by-name c.sort_by.new.self.items c.in_ok-sort_by.ensures.sorted (λ a r q k. search rules))
