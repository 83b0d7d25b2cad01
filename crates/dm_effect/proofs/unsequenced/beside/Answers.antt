-- One more level, and the last one.
use Rattle.std.proofs.Common.{◌≡◌, ℕ, ◌-◌, List, [], ◌∷◌, ◌++◌, length, take, append-nil, ap, sym, ◌∙◌, rules}
use Rattle.std.specs.Prelude.{reverse}
use Rattle.dm_tree.specs.Paths.{Path}
use Rattle.dm_tree.specs.Views.{view}
use Rattle.dm_effect.specs.Operands.{others_by}
use Rattle.dm_effect.specs.Sequencing.{beside, others_of}
use Rattle.dm_effect.proofs.BesideLemmas.{onto, onto-nothing, level-below, level-last, no-level, front-is, way-on}
use Rattle.dm_effect.proofs.unsequenced.beside.Goals as goal

pub loop-number-init : goal.loop-number-init
loop-number-init c = (
  [],
  c.items-left.ensures,
  λ types.
      let ways : List Path = beside c.items-left.result.now (view types c.args.full.now) in
      ap (λ (found : List Path). onto [] ways ++ reverse found) c.new-found.ensures.items
      ∙ (append-nil (onto [] ways) ∙ (onto-nothing ways ∙ ap (λ (way : Path). beside way (view types c.args.full.now)) c.items-left.ensures)),
)

pub returns-in-None : goal.returns-in-None
returns-in-None c types =
    let front : Path = c.loop-number.invariant.0 in
    let left : Path = c.loop-number.left.now in
    let at : Path = c.args.at.now in
    let n : ℕ = c.in-Some.number.now in
    let found : List Path = c.loop-number.found.items in
    let is : c.split_at.result.0.now ≡ front =
    c.split_at.ensures.front
    ∙ (ap (λ (count : ℕ). take (count - length left) c.items.result.now) c.len.ensures
    ∙ (ap (λ (all : Path). take (length at - length left) all) c.items.ensures ∙ front-is front left at c.loop-number.invariant.1)) in
    let now : c.push_others.new.found.items ≡ found ++ reverse (onto front (others_of n (view types c.loop-number.tree.now))) =
    c.in_ok-push_others.ensures
    ∙ (ap (λ (way : Path). found ++ reverse (onto way (others_by n c.last_operand.result))) is
    ∙ ap (λ (ways : List Path). found ++ reverse (onto front ways)) (sym (c.last_operand.ensures types n))) in
    c.reversed.ensures
    ∙ (ap reverse now
    ∙ (level-last front left c.in-Some.rest.now n (view types c.loop-number.tree.now) found c.in-Some.ensures.cases.0 (sym (c.in-None.ensures types)) ∙ c.loop-number.invariant.2 types))

pub loop-number-preserved : goal.loop-number-preserved
loop-number-preserved c =
    let front : Path = c.loop-number.invariant.0 in
    let left : Path = c.loop-number.left.now in
    let at : Path = c.args.at.now in
    let n : ℕ = c.in-Some.number.now in
    let found : List Path = c.loop-number.found.items in
    let is : c.split_at.result.0.now ≡ front =
    c.split_at.ensures.front
    ∙ (ap (λ (count : ℕ). take (count - length left) c.items.result.now) c.len.ensures
    ∙ (ap (λ (all : Path). take (length at - length left) all) c.items.ensures ∙ front-is front left at c.loop-number.invariant.1)) in (
      front ++ n ∷ [],
      way-on front left c.in-Some.rest.now at n c.loop-number.invariant.1 c.in-Some.ensures.cases.0,
      λ types.
          let now : c.push_others.new.found.items ≡ found ++ reverse (onto front (others_of n (view types c.loop-number.tree.now))) =
          c.in_ok-push_others.ensures
          ∙ (ap (λ (way : Path). found ++ reverse (onto way (others_by n c.last_operand.result))) is
          ∙ ap (λ (ways : List Path). found ++ reverse (onto front ways)) (sym (c.last_operand.ensures types n))) in
          ap (λ (ways : List Path). onto (front ++ n ∷ []) (beside c.in-Some.rest.now (view types c.in-Some-part.next.now)) ++ reverse ways) now
          ∙ (level-below front left c.in-Some.rest.now n (view types c.loop-number.tree.now) (view types c.in-Some-part.next.now) found c.in-Some.ensures.cases.0 (sym (c.in-Some-part.ensures types))
          ∙ c.loop-number.invariant.2 types),
    )

pub returns : goal.returns
returns c types =
    c.reversed-2.ensures
    ∙ (no-level c.loop-number.invariant.0 c.loop-number.left.now (view types c.loop-number.tree.now) c.loop-number.found.items (search rules) ∙ c.loop-number.invariant.2 types)
