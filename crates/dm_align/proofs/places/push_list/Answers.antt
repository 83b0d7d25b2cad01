-- One more waits.
use Rattle.std.proofs.Common.{rules, ◌++◌, [], ◌∷◌, List, append-nil, sym, ap, ◌∙◌}
use Rattle.std.proofs.lemmas.List.{nil_from_length}
use Rattle.dm_tree.specs.declared.tree.Core.{Core}
use Rattle.dm_agree.specs.Parts.{nows}
use Rattle.dm_align.proofs.PlaceLemmas.{nows-more, waiting-more}
use Rattle.dm_align.proofs.places.push_list.Goals as goal

pub loop-tree-preserved : goal.loop-tree-preserved
loop-tree-preserved c =
    let so_far = c.loop-tree.invariant in
    let one = c.in-Some.tree in (
      so_far.0 ++ one ∷ [],
      nows-more so_far.0 one c.loop-tree.left.now c.in-Some.rest.now c.args.list.now c.in-Some.ensures.cases.0 so_far.1,
      waiting-more c.args.unevaluated so_far.0 one c.args.waiting.now.items c.loop-tree.waiting.items c.push.new.self.items so_far.2 c.in_ok-push.ensures.items,
    )

pub returns : goal.returns
returns c =
    let so_far = c.loop-tree.invariant in (
      so_far.0,
      sym (append-nil (nows so_far.0)) ∙ (ap (λ (rest : List Core). nows so_far.0 ++ rest) (sym (nil_from_length c.loop-tree.left.now (search rules))) ∙ so_far.1),
      so_far.2,
    )
