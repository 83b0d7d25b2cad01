-- One tree after another.
use Rattle.std.proofs.Common.{◌≡◌, Bool, not, List, map, length, ap, sym, ◌∙◌, arith}
use Rattle.std.proofs.lemmas.List.{nil_from_length}
use Rattle.dm_tree.specs.declared.tree.Core.{Core}
use Rattle.dm_tree.specs.Views.{view, view_of_unit}
use Rattle.dm_around.specs.Noises.{noisy_among, is_noisy, counted}
use Rattle.dm_around.proofs.noise.noisy_among.Goals as goal

pub loop-tree-preserved-then-not-is_quiet : goal.loop-tree-preserved-then-not-is_quiet
loop-tree-preserved-then-not-is_quiet c =
    let known = c.loop-tree.invariant in
    let few = known.0 in
    let long = ap (λ (them : List Core). length them) c.in-Some.ensures.cases.0 in (
      omega (arith, few, long),
      λ types.
          let unit = view_of_unit types c.args.quiet.now in
          let all = known.1 types in
          let first = ap (λ (them : List Core). noisy_among unit (map (view types) them)) c.in-Some.ensures.cases.0 in
          let own : counted (is_noisy unit (view types c.in-Some.tree.now)) ≡ 1 = ap (λ (quiet : Bool). counted (not quiet)) (sym (c.is_quiet.ensures types) ∙ c.if-not-is_quiet.true) in
          omega (arith, all, first, own),
    )

pub loop-tree-preserved : goal.loop-tree-preserved
loop-tree-preserved c =
    let known = c.loop-tree.invariant in
    let few = known.0 in
    let long = ap (λ (them : List Core). length them) c.in-Some.ensures.cases.0 in (
      omega (arith, few, long),
      λ types.
          let unit = view_of_unit types c.args.quiet.now in
          let all = known.1 types in
          let first = ap (λ (them : List Core). noisy_among unit (map (view types) them)) c.in-Some.ensures.cases.0 in
          let own : counted (is_noisy unit (view types c.in-Some.tree.now)) ≡ 0 = ap (λ (quiet : Bool). counted (not quiet)) (sym (c.is_quiet.ensures types) ∙ c.if-not-is_quiet.false) in
          omega (arith, all, first, own),
    )

pub returns-clause-same : goal.returns-clause-same
returns-clause-same c types =
    let none = nil_from_length c.loop-tree.left.now c.in_default.ensures.cases in
    let all = c.loop-tree.invariant.1 types in
    let nothing = ap (λ (them : List Core). noisy_among (view_of_unit types c.args.quiet.now) (map (view types) them)) none in
    omega (arith, all, nothing)
