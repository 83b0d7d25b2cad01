-- The part stands in the first initialiser that is left, or among the others.
use Rattle.std.proofs.Common.{map, ◌++◌, ap, ◌∙◌, rules, arith}
use denote.Param.Weighed.{most}
use Rattle.dm_tree.specs.declared.tree.Initial.{size-Initial}
use Rattle.dm_tree.specs.Views.{expressions_of_items}
use Rattle.dm_meaning.specs.Wholes.{view_of_initial}
use Rattle.dm_effect.proofs.PartLemmas.{initials-first, initials-none}
use Rattle.dm_effect.proofs.parts.+initial.Goals as goal

pub in_initials-returns-in-Found : goal.in_initials-returns-in-Found
in_initials-returns-in-Found t c types rest =
    c.loop-initial.invariant.1 types rest
    ∙ (initials-first types c.loop-initial.others.now c.in-Some.initial.now c.in-Some.rest.now rest c.loop-initial.left c.in-Some.ensures.cases.0
    ∙ c.in-Found.ensures types (expressions_of_items (map (view_of_initial types) c.in-Some.rest.now) ++ rest))

pub in_initials-loop-initial-preserved : goal.in_initials-loop-initial-preserved
in_initials-loop-initial-preserved t c =
    let deep = ap (most size-Initial) c.in-Some.ensures.cases.0 in
    let below = c.loop-initial.invariant.0 in (
      omega (arith, deep, below),
      λ types rest.
          c.loop-initial.invariant.1 types rest
          ∙ (initials-first types c.loop-initial.others.now c.in-Some.initial.now c.in-Some.rest.now rest c.loop-initial.left c.in-Some.ensures.cases.0
          ∙ c.in-Left.ensures types (expressions_of_items (map (view_of_initial types) c.in-Some.rest.now) ++ rest)),
    )

pub in_initials-returns : goal.in_initials-returns
in_initials-returns t c types rest = c.loop-initial.invariant.1 types rest ∙ initials-none types c.loop-initial.others.now rest c.loop-initial.left (search rules)
