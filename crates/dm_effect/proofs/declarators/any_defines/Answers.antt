-- The first declarator that is left does, or one of the others.
use Rattle.std.proofs.Common.{ℕ, Bool, List, map, refl, rules, sym, ◌∙◌}
use Rattle.std.specs.List.{list_any}
use Rattle.dm_type.specs.Tables.{Table}
use Rattle.dm_tree.specs.declared.tree.Local.{Local}
use Rattle.dm_tree.specs.Views.{view_of_local}
use Rattle.dm_effect.specs.Questions.{as_local}
use Rattle.dm_effect.specs.Safe.{defines_here}
use Rattle.dm_effect.proofs.WalkLemmas.{any-yes, any-no, any-none}
use Rattle.dm_effect.proofs.declarators.any_defines.Goals as goal

abbrev asked : ℕ → Table → List Local → Bool
asked d types all = list_any (defines_here d) (map as_local (map (view_of_local types) all))

abbrev asked_one : ℕ → Table → Local → Bool
asked_one d types local = defines_here d (as_local (view_of_local types local))

pub returns-then-local_defines : goal.returns-then-local_defines
returns-then-local_defines c types =
    any-yes (asked c.args.object types) (asked_one c.args.object types) refl (λ x xs. refl) c.args.locals.now c.loop-local.left.now (c.loop-local.invariant types) c.in-Some.local.now c.in-Some.rest.now
    c.in-Some.ensures.cases.0 (sym (c.local_defines.ensures types) ∙ c.if-local_defines.true)

pub loop-local-preserved : goal.loop-local-preserved
loop-local-preserved c types =
    any-no (asked c.args.object types) (asked_one c.args.object types) refl (λ x xs. refl) c.args.locals.now c.loop-local.left.now (c.loop-local.invariant types) c.in-Some.local.now c.in-Some.rest.now
    c.in-Some.ensures.cases.0 (sym (c.local_defines.ensures types) ∙ c.if-local_defines.false)

pub returns : goal.returns
returns c types =
    any-none (asked c.args.object types) (asked_one c.args.object types) refl (λ x xs. refl) c.args.locals.now c.loop-local.left.now (c.loop-local.invariant types) (search rules)
