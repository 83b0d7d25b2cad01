-- One after another.
use Rattle.std.proofs.Common.{sym, ◌∙◌}
use Rattle.dm_tree.specs.Views.{view_of_unit}
use Rattle.dm_beside.specs.Places.{is_one_expression}
use Rattle.dm_beside.proofs.PlaceLemmas.{all-first, all-next, all-last}
use Rattle.dm_beside.proofs.places.is_subtree.Goals as goal

pub returns-then-not-is_one_expression-2 : goal.returns-then-not-is_one_expression-2
returns-then-not-is_one_expression-2 c types =
    all-first (is_one_expression (view_of_unit types c.args.sites.now)) c.args.run.now.span c.loop-occurrence.left.now c.in-Some.rest.now c.args.run.now.occurrences c.in-Some.occurrence.now c.is_one_expression-in-Some.result
    (sym (c.is_one_expression.ensures types) ∙ c.if-not-is_one_expression.false) c.in-Some.ensures.cases.0 (c.loop-occurrence.invariant types) (c.is_one_expression-in-Some.ensures types) c.if-not-is_one_expression-2.true

pub loop-occurrence-preserved : goal.loop-occurrence-preserved
loop-occurrence-preserved c types =
    all-next (is_one_expression (view_of_unit types c.args.sites.now)) c.loop-occurrence.left.now c.in-Some.rest.now c.args.run.now.occurrences c.in-Some.occurrence.now c.is_one_expression-in-Some.result
    c.in-Some.ensures.cases.0 (c.loop-occurrence.invariant types) (c.is_one_expression-in-Some.ensures types) c.if-not-is_one_expression-2.false

pub returns : goal.returns
returns c types =
    all-last (is_one_expression (view_of_unit types c.args.sites.now)) c.args.run.now.span c.loop-occurrence.left.now c.args.run.now.occurrences (sym (c.is_one_expression.ensures types) ∙ c.if-not-is_one_expression.false) c.in_default.ensures.cases (c.loop-occurrence.invariant types)
