-- Each step stays, but for the last one that moves.
use Rattle.std.proofs.Common.{◌≡◌, ◌+◌, suc, ◌∷◌, ◌++◌, length, map, option_map, take, drop, rules, arith, ap, sym, ◌∙◌, to_z, of_z}
use Rattle.std.proofs.lemmas.Int.{to_z-of_z}
use mir.Syntax.{w128}
use Rattle.dm_type.specs.Tables.{type_of}
use Rattle.dm_meaning.specs.Objects.{moved_in}
use Rattle.dm_meaning.specs.Values as values
use Rattle.dm_layout.specs.Kinds.{type_of_object}
use Rattle.dm_layout.specs.LaidOut.{laid_out}
use Rattle.dm_value.specs.Parts.{view_of_part}
use Rattle.dm_value.proofs.ClosedLemmas.{no-steps}
use Rattle.dm_layout.proofs.MoveLemmas.{take-next, drop-next, moved-last, moved-within}
use Rattle.dm_layout.proofs.moves.moved.Goals as goal

pub returns-then-is_last_element : goal.returns-then-is_last_element
returns-then-is_last_element c =
    let all = map view_of_part c.args.steps.now in
    let count = to_z w128 (of_z w128 c.args.count) in
    let exact = ap (moved_in (laid_out c.args.layout.now) (type_of_object c.args.layout.now c.args.kind) (type_of c.args.layout.now c.args.target) all) (to_z-of_z w128 c.args.count c.ranges.count) in
    let e : map view_of_part c.loop-first.left.now ≡ values.part c.in-Inner.number ∷ map view_of_part c.in-Some.rest.now = search rules in
    c.behind-then-is_last_element.ensures all
    ∙ (ap (option_map (λ last. take c.loop-first.stays all ++ last))
    (c.moved_along.ensures
    ∙ moved-last (laid_out c.args.layout.now) (type_of_object c.args.layout.now c.loop-first.at) (type_of c.args.layout.now c.args.target) _ c.in-Inner.number _ c.in-Some.rest.now count
    e c.bare_kind-whole.ensures.bare (sym c.is_last_element.ensures ∙ c.if-is_last_element.true))
    ∙ (c.loop-first.invariant.2 ∙ exact))

pub loop-first-preserved : goal.loop-first-preserved
loop-first-preserved c =
    let all = map view_of_part c.args.steps.now in
    let count = to_z w128 (of_z w128 c.args.count) in
    let e : map view_of_part c.loop-first.left.now ≡ values.part c.in-Inner.number ∷ map view_of_part c.in-Some.rest.now = search rules in
    let one : c.loop-first.stays + 1 ≡ suc c.loop-first.stays = omega arith in
    let here = c.loop-first.invariant.1 ∙ e in (
      c.inner-at.ensures.known,
      ap (λ n. drop n all) one ∙ drop-next all c.loop-first.stays _ _ here,
      ap (λ before. option_map (λ path. before ++ path)
          (moved_in (laid_out c.args.layout.now) (type_of_object c.args.layout.now c.inner-at.result) (type_of c.args.layout.now c.args.target) (map view_of_part c.in-Some.rest.now) count))
          (ap (λ n. take n all) one ∙ take-next all c.loop-first.stays _ _ here)
          ∙ (moved-within (laid_out c.args.layout.now) (type_of_object c.args.layout.now c.loop-first.at) (type_of c.args.layout.now c.args.target) _ _ c.in-Inner.number
          (take c.loop-first.stays all) _ c.in-Some.rest.now count e c.bare_kind-whole.ensures.bare (sym c.is_last_element.ensures ∙ c.if-is_last_element.false) c.inner-at.ensures.inner
          ∙ c.loop-first.invariant.2),
    )

pub returns : goal.returns
returns c =
    let all = map view_of_part c.args.steps.now in
    let count = to_z w128 (of_z w128 c.args.count) in
    let exact = ap (moved_in (laid_out c.args.layout.now) (type_of_object c.args.layout.now c.args.kind) (type_of c.args.layout.now c.args.target) all) (to_z-of_z w128 c.args.count c.ranges.count) in
    let none : length c.loop-first.left.now ≡ 0 = search rules in
    let e = no-steps c.loop-first.left.now none in
    c.behind-2.ensures all
    ∙ (ap (option_map (λ last. take c.loop-first.stays all ++ last))
    (c.moved_alone.ensures
    ∙ ap (λ path. moved_in (laid_out c.args.layout.now) (type_of_object c.args.layout.now c.loop-first.at) (type_of c.args.layout.now c.args.target) path count) (sym e))
    ∙ (c.loop-first.invariant.2 ∙ exact))
