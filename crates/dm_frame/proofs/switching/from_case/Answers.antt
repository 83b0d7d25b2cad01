-- The items so far don't pass.
use Rattle.std.proofs.Common.{◌≡◌, ◌∷◌, ℤ, to_z, of_z, rules, sym, ◌∙◌}
use mir.Syntax.{w128}
use Rattle.dm_meaning.specs.Statements.{has_case}
use Rattle.dm_program.specs.Sources.{meant}
use Rattle.dm_frame.proofs.FitLemmas.{tree-first}
use Rattle.dm_frame.proofs.SwitchLemmas.{passed-first}
use Rattle.dm_frame.proofs.switching.from_case.Goals as goal

pub has_case-requires : goal.has_case-requires
has_case-requires c =
    let e : c.loop-item.left.now ≡ c.in-Some.item.now ∷ c.in-Some.rest.now = search rules in
    (tree-first c.args.program.now.table c.loop-item.left.now c.in-Some.item.now c.in-Some.rest.now e c.loop-item.invariant.0).0

pub loop-item-preserved : goal.loop-item-preserved
loop-item-preserved c =
    let table = c.args.program.now.table in
    let value : ℤ = to_z w128 (of_z w128 c.args.value) in
    let test = has_case (meant c.args.program.now) value in
    let e : c.loop-item.left.now ≡ c.in-Some.item.now ∷ c.in-Some.rest.now = search rules in (
      (tree-first table c.loop-item.left.now c.in-Some.item.now c.in-Some.rest.now e c.loop-item.invariant.0).1,
      sym (passed-first table test c.loop-item.left.now c.in-Some.item.now c.in-Some.rest.now e (sym c.has_case.ensures ∙ c.if-has_case.false)) ∙ c.loop-item.invariant.1,
    )
