-- A file that is written has its new size, and others keep theirs.
use Rattle.std.proofs.Common.{◌≡◌, ◌∙◌, true, false, rules}
use Rattle.std.specs.Prelude.{nat_eq}
use Rattle.std.specs.Cmp.Lexicographic.{pointwise}
use Rattle.dm_apply.proofs.SummaryLemmas.{size-more}
use Rattle.dm_apply.proofs.summary.size_behind.Goals as goal
use Rattle.dm_apply.proofs.summary.size_behind.Goals.{then-eq, else-eq}

pub loop-file-preserved : goal.loop-file-preserved
loop-file-preserved c = λ folder had.
    let file = c.file-item.result in
    let files = c.args.files.now in
    let name = c.args.name.now in
    elim c.if-eq.branch [
      | then-eq w ↦
          let same : pointwise nat_eq name file.name ≡ true = search rules in
          w.size-is ∙ (w.len-size.ensures ∙ size-more folder files c.loop-file.file-index file name c.loop-file.size c.loop-file-test.true c.file-item.is (c.loop-file.invariant folder had) true same)
      | else-eq w ↦
          let same : pointwise nat_eq name file.name ≡ false = search rules in
          w.size-is ∙ size-more folder files c.loop-file.file-index file name c.loop-file.size c.loop-file-test.true c.file-item.is (c.loop-file.invariant folder had) false same
    ]
