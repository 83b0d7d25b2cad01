-- One file after another.
use Rattle.std.proofs.Common.{ℕ, List, [], ◌∷◌, ◌++◌, length, map, sym, ap, ◌∙◌, arith}
use Rattle.std.specs.List.{range_with_len}
use Rattle.std.proofs.lemmas.List.FromFn.{map-range_with_len_more}
use Rattle.dm_subjects.specs.Newlines.{newlines_from, newlines_in}
use Rattle.dm_subjects.proofs.newlines.newlines_of_files.Goals as goal

pub loop-file-preserved : goal.loop-file-preserved
loop-file-preserved c =
    let each = newlines_in c.args.loader.now in
    let at = c.loop-file.file in
    c.in_ok-push.ensures.ok ∙ ap (λ (all : List (List ℕ)). all ++ c.in_ok-newlines_in.field-0 ∷ []) c.loop-file.invariant
    ∙ ap (λ (one : List ℕ). map each (range_with_len 0 at) ++ one ∷ []) (c.in_ok-newlines_in.ensures ∙ ap (newlines_from 0) c.bytes_at.ensures)
    ∙ sym (map-range_with_len_more each 0 at at (omega arith))

pub returns-clause-newlines : goal.returns-clause-newlines
returns-clause-newlines c =
    c.loop-file.invariant
    ∙ ap (λ n. map (newlines_in c.args.loader.now) (range_with_len 0 n)) (omega (arith, c.loop-file-test.false, c.loop-file.auto.file-end, ap length c.names-count.ensures.names))
