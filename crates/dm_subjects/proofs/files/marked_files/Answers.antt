-- A marked file comes behind those so far.
use Rattle.std.proofs.Common.{ℕ, Bool, false, List, [], ◌∷◌, ◌++◌, map, filter, get_or, cond, sym, ap, ◌∙◌}
use Rattle.std.specs.List.{range_with_len}
use Rattle.std.proofs.lemmas.List.{append-nil}
use Rattle.dm_edit.specs.declared.plan.Changed.{Changed}
use Rattle.dm_subjects.specs.Files.{changed_file}
use Rattle.dm_subjects.proofs.FileLemmas.{file-more}
use Rattle.dm_subjects.proofs.files.marked_files.Goals as goal
use Rattle.dm_subjects.proofs.files.marked_files.Goals.{then-is_edited+in_ok-held_file+in_ok-push, else-is_edited}

pub loop-file-preserved : goal.loop-file-preserved
loop-file-preserved c =
    let at = c.loop-file.file in
    let each = changed_file c.args.loader.now in
    let test : ℕ → Bool = λ file. get_or c.args.edited.now file false in
    let so_far = map each (filter test (range_with_len 0 at)) in
    elim c.if-is_edited.branch [
      | then-is_edited+in_ok-held_file+in_ok-push w ↦
          rw w.files-is (w.in_ok-push.ensures.items ∙ ap (λ (files : List Changed). files ++ w.in_ok-held_file.field-0 ∷ []) c.loop-file.invariant
          ∙ ap (λ (one : Changed). so_far ++ one ∷ []) w.in_ok-held_file.ensures
          ∙ sym (file-more each test at ∙ ap (λ b. so_far ++ map each (cond b (at ∷ []) [])) w.if-is_edited.true))
      | else-is_edited w ↦
          rw w.files-is (c.loop-file.invariant ∙ sym (file-more each test at ∙ ap (λ b. so_far ++ map each (cond b (at ∷ []) [])) w.if-is_edited.false ∙ append-nil so_far))
    ]
