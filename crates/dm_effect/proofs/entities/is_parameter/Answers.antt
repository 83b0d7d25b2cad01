-- The first external declaration that is left has the parameter, or one of the others.
use Rattle.std.proofs.Common.{ℕ, Bool, List, map, refl, rules, sym, ◌∙◌}
use Rattle.std.specs.List.{list_any}
use Rattle.dm_type.specs.Tables.{Table}
use Rattle.dm_tree.specs.declared.unit.CoreExternal.{CoreExternal}
use Rattle.dm_tree.specs.Units.{External}
use Rattle.dm_tree.specs.Views.{view_of_external}
use Rattle.dm_effect.specs.Safe.{has_parameter}
use Rattle.dm_effect.proofs.WalkLemmas.{any-yes, any-no, any-none}
use Rattle.dm_effect.proofs.entities.is_parameter.Goals as goal

abbrev asked : ℕ → Table → List CoreExternal → Bool
asked d types all = list_any (λ (external : External). has_parameter d external.form) (map (view_of_external types) all)

abbrev asked_one : ℕ → Table → CoreExternal → Bool
asked_one d types one = has_parameter d (view_of_external types one).form

pub returns-then-has_parameter : goal.returns-then-has_parameter
returns-then-has_parameter c types =
    any-yes (asked c.args.object types) (asked_one c.args.object types) refl (λ x xs. refl) c.args.unit.now.externals c.loop-external.left.now (c.loop-external.invariant types) c.in-Some.external.now c.in-Some.rest.now
    c.in-Some.ensures.cases.0 (sym (c.has_parameter.ensures types) ∙ c.if-has_parameter.true)

pub loop-external-preserved : goal.loop-external-preserved
loop-external-preserved c types =
    any-no (asked c.args.object types) (asked_one c.args.object types) refl (λ x xs. refl) c.args.unit.now.externals c.loop-external.left.now (c.loop-external.invariant types) c.in-Some.external.now c.in-Some.rest.now
    c.in-Some.ensures.cases.0 (sym (c.has_parameter.ensures types) ∙ c.if-has_parameter.false)

pub returns : goal.returns
returns c types =
    any-none (asked c.args.object types) (asked_one c.args.object types) refl (λ x xs. refl) c.args.unit.now.externals c.loop-external.left.now (c.loop-external.invariant types) (search rules)
