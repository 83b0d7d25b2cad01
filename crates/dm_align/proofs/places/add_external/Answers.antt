-- One tree after another.
use Rattle.std.proofs.Common.{◌||◌, Bool, List, Bor, map, ap, ◌∙◌}
use Rattle.std.specs.List.{list_any}
use Rattle.std.proofs.lemmas.List.{take_all}
use Rattle.dm_tree.specs.declared.tree.Core.{Core}
use Rattle.dm_tree.specs.Views.{view, view_of_external}
use Rattle.dm_agree.specs.Parts.{nows}
use Rattle.dm_agree.specs.Standing.{stands}
use Rattle.dm_align.specs.Places.{has, stands_in, is_unevaluated_in}
use Rattle.dm_align.specs.Units.{is_in_sizeof}
use Rattle.dm_align.proofs.PlaceLemmas.{any-step, any-nodes}
use Rattle.dm_align.proofs.places.add_external.Goals as goal

pub loop-tree-preserved : goal.loop-tree-preserved
loop-tree-preserved c =
    let trees : List (Bor Core) = c.deref-tree-items.result.now in
    record {
      all = λ types span wanted.
          any-step (λ (one : Bor Core). stands_in span (view types one.now)) trees c.loop-tree.tree-index c.tree-item.result (has c.args.places.now.all span) (has c.loop-tree.places.all span)
          (has c.add_tree.new.places.all span) c.loop-tree-test.true c.tree-item.is (c.loop-tree.invariant.all types span wanted) (c.in_ok-add_tree.ensures.all types span wanted);
      unevaluated = λ types span wanted.
          any-step (λ (one : Bor Core). is_unevaluated_in span (view types one.now)) trees c.loop-tree.tree-index c.tree-item.result (has c.args.places.now.unevaluated span)
          (has c.loop-tree.places.unevaluated span) (has c.add_tree.new.places.unevaluated span) c.loop-tree-test.true c.tree-item.is (c.loop-tree.invariant.unevaluated types span wanted)
          (c.in_ok-add_tree.ensures.unevaluated types span wanted);
    }

pub returns-clause-all : goal.returns-clause-all
returns-clause-all c types span wanted =
    let trees : List (Bor Core) = c.deref-tree-items.result.now in
    let are = ap (λ (refs : List (Bor Core)). map (view types) (nows refs)) c.deref-tree-items.ensures.value ∙ c.in_ok-trees.ensures types in
    c.loop-tree.invariant.all types span wanted
    ∙ ap (λ (rest : Bool). has c.args.places.now.all span || rest)
    (ap (list_any (λ (one : Bor Core). stands_in span (view types one.now))) (take_all c.loop-tree.tree-index trees c.loop-tree-test.false)
    ∙ any-nodes types (stands span) trees (view_of_external types c.args.external.now) are)

pub returns-clause-unevaluated : goal.returns-clause-unevaluated
returns-clause-unevaluated c types span wanted =
    let trees : List (Bor Core) = c.deref-tree-items.result.now in
    let are = ap (λ (refs : List (Bor Core)). map (view types) (nows refs)) c.deref-tree-items.ensures.value ∙ c.in_ok-trees.ensures types in
    c.loop-tree.invariant.unevaluated types span wanted
    ∙ ap (λ (rest : Bool). has c.args.places.now.unevaluated span || rest)
    (ap (list_any (λ (one : Bor Core). is_unevaluated_in span (view types one.now))) (take_all c.loop-tree.tree-index trees c.loop-tree-test.false)
    ∙ any-nodes types (is_in_sizeof span) trees (view_of_external types c.args.external.now) are)
