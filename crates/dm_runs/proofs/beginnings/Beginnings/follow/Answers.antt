use Rattle.std.proofs.Common.{◌≡◌, ℕ, ◌<◌, ◌+◌, List, [], ◌∷◌, length, take, drop, fold, slice_get, get_or, Some, sym, ap, ◌∙◌, subst, arith, length-append}
use Rattle.std.proofs.lemmas.List.{length-drop, length-map, take_all}
use Rattle.dm_token.specs.declared.expansion.Mark.{Mark}
use Rattle.dm_token.specs.declared.expansion.Mark.TheVariants.{Expansion}
use Rattle.dm_runs.specs.Beginnings.{beginnings_of, once_more}
use Rattle.dm_runs.specs.Trees.{IsLonger}
use Rattle.dm_runs.proofs.BeginningLemmas.{count-is, item-at, item-is, next-longer, walked, numbers-step, slice_get-once_more, length-beginnings}
use Rattle.dm_runs.proofs.GrowthLemmas.{walked-on}
use Rattle.dm_runs.proofs.beginnings.Beginnings.follow.Goals as goal

pub add-requires-clause-longer : goal.add-requires-clause-longer
add-requires-clause-longer c =
    let trail = c.args.trail.now in
    let i = c.loop-beginning.beginning-index in
    let shared = c.in_ok-shared.shared in
    let found = c.loop-beginning.self.trails.items in
    let items = c.in_ok-lineage.lineage.items in
    let count = count-is _ items trail shared c.in_ok-lineage.ensures in
    let inside : i < length items = omega (arith, c.loop-beginning-test.true, c.deref-beginning-items.ensures.len) in
    let item : c.beginning-item.result ≡ get_or items i c.beginning-item.result = c.beginning-item.is ∙ ap (λ xs. get_or xs i c.beginning-item.result) c.deref-beginning-items.ensures.value in
    let is = item-is _ items trail shared i c.beginning-item.result c.in_ok-lineage.ensures inside item in
    subst (IsLonger found c.loop-beginning.above) (sym is)
    (next-longer found c.loop-beginning.above trail (shared + i) (omega (arith, count, inside)) c.loop-beginning.invariant.above (Expansion 0 0))

pub loop-beginning-preserved : goal.loop-beginning-preserved
loop-beginning-preserved c =
    let trail = c.args.trail.now in
    let i = c.loop-beginning.beginning-index in
    let shared = c.in_ok-shared.shared in
    let found = c.loop-beginning.self.trails.items in
    let numbers = c.loop-beginning.numbers.items in
    let items = c.in_ok-lineage.lineage.items in
    let before = c.args.self.now.trails.items in
    let behind = drop shared (beginnings_of trail) in
    let inv = c.loop-beginning.invariant in
    let count = count-is _ items trail shared c.in_ok-lineage.ensures in
    let inside : i < length items = omega (arith, c.loop-beginning-test.true, c.deref-beginning-items.ensures.len) in
    let item : c.beginning-item.result ≡ get_or items i c.beginning-item.result = c.beginning-item.is ∙ ap (λ xs. get_or xs i c.beginning-item.result) c.deref-beginning-items.ensures.value in
    let one = c.beginning-item.result.now in
    let here = item-at _ items behind i c.beginning-item.result c.in_ok-lineage.ensures inside item in
    let is = item-is _ items trail shared i c.beginning-item.result c.in_ok-lineage.ensures inside item in
    let added = c.in_ok-above.ensures in
    let pushed = c.in_ok-push.ensures.items in
    let next : shared + i + 1 ≡ shared + (i + 1) = omega arith in
    let known = added.number ∙ ap Some is in
    record {
      linked = added.linked;
      trails = added.trails ∙ ap (λ ts. once_more ts one) inv.trails
          ∙ walked before behind i one (omega (arith, count, length-drop shared (beginnings_of trail), length-beginnings trail, inside)) here;
      above = known ∙ ap (λ n. Some (take n trail)) next;
      counted = omega (arith, ap length pushed, length-append numbers (c.in_ok-above.above ∷ []), inv.counted);
      numbers = λ j below.
          ap (λ (ns : List ℕ). slice_get c.add.new.self.trails.items (get_or ns j 0)) pushed
          ∙ numbers-step found c.add.new.self.trails.items trail (shared + i) numbers c.in_ok-above.above inv.counted
          (λ k t e. ap (λ (ts : List (List Mark)). slice_get ts k) added.trails ∙ slice_get-once_more found one k t e)
          inv.numbers known j (omega (arith, below));
    }

pub returns-clause-trails : goal.returns-clause-trails
returns-clause-trails c =
    let trail = c.args.trail.now in
    let shared = c.in_ok-shared.shared in
    let before = c.args.self.now.trails.items in
    let behind = drop shared (beginnings_of trail) in
    let count = ap length c.in_ok-lineage.ensures in
    let are = c.in_ok-shared.ensures.numbers before c.requires.linked.root c.requires.path in
    c.loop-beginning.invariant.trails
    ∙ ap (fold once_more before) (take_all c.loop-beginning.beginning-index behind
    (omega (arith, c.loop-beginning-test.false, c.deref-beginning-items.ensures.len, sym (length-map c.in_ok-lineage.lineage.items (λ one. one.now)) ∙ count)))
    ∙ walked-on before trail shared _ are

pub returns-clause-numbers : goal.returns-clause-numbers
returns-clause-numbers c =
    let inv = c.loop-beginning.invariant in
    let count = count-is _ c.in_ok-lineage.lineage.items c.args.trail.now c.in_ok-shared.shared c.in_ok-lineage.ensures in
    record {
      counted = omega (arith, inv.counted, count, c.in_ok-shared.ensures.within, c.loop-beginning-test.false, c.loop-beginning.auto.beginning-index-end, c.deref-beginning-items.ensures.len);
      known = λ i below. inv.numbers i (omega (arith, inv.counted, below));
    }
