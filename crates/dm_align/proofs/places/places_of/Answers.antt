-- One external declaration after another.
use Rattle.std.proofs.Common.{◌<◌, ◌≤◌, false, List, length, get_or, ap, ◌∙◌, subst}
use Rattle.std.specs.List.{list_any}
use Rattle.std.proofs.lemmas.List.{take_all}
use Rattle.dm_tree.specs.declared.unit.CoreExternal.{CoreExternal}
use Rattle.dm_tree.specs.Views.{view_of_external}
use Rattle.dm_effect.specs.Entities.{nodes_of_external}
use Rattle.dm_agree.specs.Standing.{stands}
use Rattle.dm_align.specs.Places.{has}
use Rattle.dm_align.specs.Units.{is_in_sizeof}
use Rattle.dm_align.proofs.PlaceLemmas.{any-step, any-unit}
use Rattle.dm_align.proofs.places.places_of.Goals as goal

pub loop-external-preserved : goal.loop-external-preserved
loop-external-preserved c =
    let externals : List CoreExternal = c.args.unit.now.externals in
    let i = c.loop-external.external-index in
    let same = c.items-external-items.ensures in
    let less = subst (λ (all : List CoreExternal). i < length all) same c.loop-external-test.true in
    let is = c.external-item.is ∙ ap (λ (all : List CoreExternal). get_or all i c.external-item.result) same in
    record {
      all = λ types span wanted.
          any-step (λ (one : CoreExternal). list_any (stands span) (nodes_of_external (view_of_external types one))) externals i c.external-item.result false (has c.loop-external.places.all span)
          (has c.add_external.new.places.all span) less is (c.loop-external.invariant.all types span wanted) (c.in_ok-add_external.ensures.all types span wanted);
      unevaluated = λ types span wanted.
          any-step (λ (one : CoreExternal). list_any (is_in_sizeof span) (nodes_of_external (view_of_external types one))) externals i c.external-item.result false
          (has c.loop-external.places.unevaluated span) (has c.add_external.new.places.unevaluated span) less is (c.loop-external.invariant.unevaluated types span wanted)
          (c.in_ok-add_external.ensures.unevaluated types span wanted);
    }

pub returns : goal.returns
returns c types span wanted =
    let externals : List CoreExternal = c.args.unit.now.externals in
    let i = c.loop-external.external-index in
    let all = take_all i externals (subst (λ (list : List CoreExternal). length list ≤ i) c.items-external-items.ensures c.loop-external-test.false) in (
      c.loop-external.invariant.all types span wanted
          ∙ (ap (list_any (λ (one : CoreExternal). list_any (stands span) (nodes_of_external (view_of_external types one)))) all ∙ any-unit types (stands span) externals),
      c.loop-external.invariant.unevaluated types span wanted
          ∙ (ap (list_any (λ (one : CoreExternal). list_any (is_in_sizeof span) (nodes_of_external (view_of_external types one)))) all ∙ any-unit types (is_in_sizeof span) externals),
    )
