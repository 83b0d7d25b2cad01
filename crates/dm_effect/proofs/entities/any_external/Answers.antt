-- The answer is yes at the first external declaration that is left, or at one of the others.
use Rattle.std.proofs.Common.{Bool, List, map, refl, rules, sym, ◌∙◌}
use Rattle.std.specs.List.{list_any}
use Rattle.dm_type.specs.Tables.{Table}
use Rattle.dm_tree.specs.declared.unit.CoreExternal.{CoreExternal}
use Rattle.dm_tree.specs.Views.{view_of_external}
use Rattle.dm_effect.specs.declared.question.Question.{Question}
use Rattle.dm_effect.specs.Externals.{is_found}
use Rattle.dm_effect.proofs.WalkLemmas.{any-yes, any-no, any-none}
use Rattle.dm_effect.proofs.entities.any_external.Goals as goal

abbrev asked : Question → Table → List CoreExternal → Bool
asked question types all = list_any (is_found types question) (map (view_of_external types) all)

abbrev asked_one : Question → Table → CoreExternal → Bool
asked_one question types one = is_found types question (view_of_external types one)

pub returns-then-in_external : goal.returns-then-in_external
returns-then-in_external c types =
    any-yes (asked c.args.question types) (asked_one c.args.question types) refl (λ x xs. refl) c.args.externals.now c.loop-external.left.now (c.loop-external.invariant types) c.in-Some.external.now c.in-Some.rest.now
    c.in-Some.ensures.cases.0 (sym (c.in_external.ensures types) ∙ c.if-in_external.true)

pub loop-external-preserved : goal.loop-external-preserved
loop-external-preserved c types =
    any-no (asked c.args.question types) (asked_one c.args.question types) refl (λ x xs. refl) c.args.externals.now c.loop-external.left.now (c.loop-external.invariant types) c.in-Some.external.now c.in-Some.rest.now
    c.in-Some.ensures.cases.0 (sym (c.in_external.ensures types) ∙ c.if-in_external.false)

pub returns : goal.returns
returns c types =
    any-none (asked c.args.question types) (asked_one c.args.question types) refl (λ x xs. refl) c.args.externals.now c.loop-external.left.now (c.loop-external.invariant types) (search rules)
