-- The first declarator that is left does, or one of the others.
use Rattle.std.proofs.Common.{ℕ, Bool, List, map, refl, rules, sym, ◌∙◌}
use Rattle.std.specs.List.{list_any}
use Rattle.dm_type.specs.Tables.{Table}
use Rattle.dm_tree.specs.declared.tree.Local.{Local}
use Rattle.dm_tree.specs.Views.{view_of_local}
use Rattle.dm_effect.specs.Questions.{as_local}
use Rattle.dm_effect.specs.Safe.{initialises_apart}
use Rattle.dm_effect.proofs.WalkLemmas.{any-yes, any-no, any-none}
use Rattle.dm_effect.proofs.declarators.any_initialises.Goals as goal

abbrev asked : ℕ → ℕ → Table → List Local → Bool
asked token d types all = list_any (initialises_apart token d) (map as_local (map (view_of_local types) all))

abbrev asked_one : ℕ → ℕ → Table → Local → Bool
asked_one token d types local = initialises_apart token d (as_local (view_of_local types local))

pub returns-then-local_initialises : goal.returns-then-local_initialises
returns-then-local_initialises c types =
    any-yes (asked c.args.token c.args.object types) (asked_one c.args.token c.args.object types) refl (λ x xs. refl) c.args.locals.now c.loop-local.left.now (c.loop-local.invariant types) c.in-Some.local.now c.in-Some.rest.now
    c.in-Some.ensures.cases.0 (sym (c.local_initialises.ensures types) ∙ c.if-local_initialises.true)

pub loop-local-preserved : goal.loop-local-preserved
loop-local-preserved c types =
    any-no (asked c.args.token c.args.object types) (asked_one c.args.token c.args.object types) refl (λ x xs. refl) c.args.locals.now c.loop-local.left.now (c.loop-local.invariant types) c.in-Some.local.now c.in-Some.rest.now
    c.in-Some.ensures.cases.0 (sym (c.local_initialises.ensures types) ∙ c.if-local_initialises.false)

pub returns : goal.returns
returns c types =
    any-none (asked c.args.token c.args.object types) (asked_one c.args.token c.args.object types) refl (λ x xs. refl) c.args.locals.now c.loop-local.left.now (c.loop-local.invariant types) (search rules)
