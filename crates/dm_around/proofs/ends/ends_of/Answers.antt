-- One more end is known.
use Rattle.std.proofs.Common.{◌≡◌, ◌<◌, ◌+◌, ◌-◌, ℕ, List, length, ap, sym, ◌∙◌, arith, rules}
use Rattle.dm_tree.specs.Trees.{Tree, is_statement}
use Rattle.dm_tree.specs.Views.{view_of_unit}
use Rattle.dm_sites.proofs.NodeLemmas.{label-view, parts-view}
use Rattle.dm_sites.specs.Seen.{seen}
use Rattle.dm_around.specs.Places.{jumps}
use Rattle.dm_around.proofs.WalkLemmas.{expression-label}
use Rattle.dm_around.proofs.ParentLemmas.{all_of}
use Rattle.dm_around.proofs.EndLemmas.{EndsFrom, jumps-whole, one-end}
use Rattle.dm_around.proofs.ends.ends_of.Goals as goal

pub loop-number-preserved-in-Some : goal.loop-number-preserved-in-Some
loop-number-preserved-in-Some c =
    let known = c.loop-number.invariant in
    let low = known.0 in
    let some : 0 < c.loop-number.number = search rules in
    let k = c.loop-number.number - 1 in
    let long : k < length c.loop-number.ends.items = search rules in (
      omega (arith, low),
      known.1,
      λ types plain.
          let there = sym (c.in-Some.ensures types) in
          let site = seen types (all_of types c.args.sites.now) c.in-Some.site.now in
          let same : c.loop-number.number ≡ k + 1 = omega (arith, some) in
          let counted = c.count_parts.ensures types (ap is_statement (sym (label-view types c.in-Some.site.now.tree.now)) ∙ expression-label site.tree (plain k site there))
          ∙ ap (λ (them : List Tree). length them) (sym (parts-view types c.in-Some.site.now.tree.now)) in
          let behind : EndsFrom (k + 1) (all_of types c.args.sites.now) c.loop-number.ends.items = λ n one le is. known.2 types plain n one (omega (arith, le, same)) is in
          one-end (all_of types c.args.sites.now) c.loop-number.ends.items k c.end_behind-end.result site long there behind
          (c.end_behind-end.ensures ∙ (ap (λ (them : List ℕ). jumps them c.count_parts.result (k + 1)) c.as_slice.ensures.value ∙ (ap (λ (n : ℕ). jumps c.loop-number.ends.items n (k + 1)) counted ∙ jumps-whole (view_of_unit types c.args.sites.now) k site c.loop-number.ends.items plain there behind))),
    )
