-- The part stands in the first declarator that is left, or among the others.
use Rattle.std.proofs.Common.{map, ◌++◌, ◌∙◌, rules}
use Rattle.dm_tree.specs.Views.{expressions_of_locals, view_of_local}
use Rattle.dm_effect.proofs.PartLemmas.{locals-with, locals-without, locals-none}
use Rattle.dm_effect.proofs.parts.in_locals.Goals as goal

pub returns-in-Found : goal.returns-in-Found
returns-in-Found c types rest =
    c.loop-local.invariant types rest
    ∙ (locals-with types c.loop-local.others.now c.in-Some.local.now c.in-Some.rest.now rest c.loop-local.left c.in-Some-initial.initial c.in-Some.ensures.cases.0 c.in-Some-initial.is
    ∙ c.in-Found.ensures types (expressions_of_locals (map (view_of_local types) c.in-Some.rest.now) ++ rest))

pub loop-local-preserved-in-Left : goal.loop-local-preserved-in-Left
loop-local-preserved-in-Left c types rest =
    c.loop-local.invariant types rest
    ∙ (locals-with types c.loop-local.others.now c.in-Some.local.now c.in-Some.rest.now rest c.loop-local.left c.in-Some-initial.initial c.in-Some.ensures.cases.0 c.in-Some-initial.is
    ∙ c.in-Left.ensures types (expressions_of_locals (map (view_of_local types) c.in-Some.rest.now) ++ rest))

pub loop-local-preserved : goal.loop-local-preserved
loop-local-preserved c types rest =
    c.loop-local.invariant types rest
    ∙ locals-without types c.loop-local.others.now c.in-Some.local.now c.in-Some.rest.now rest c.loop-local.left c.in-Some.ensures.cases.0 (search rules)

pub returns : goal.returns
returns c types rest = c.loop-local.invariant types rest ∙ locals-none types c.loop-local.others.now rest c.loop-local.left (search rules)
