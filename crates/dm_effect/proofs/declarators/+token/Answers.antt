-- The token is in the first initialiser that is left, or in one of the others.
use Rattle.std.proofs.Common.{◌≡◌, ℕ, Bool, true, false, ◌||◌, List, ◌∷◌, map, ap, refl, sym, ◌∙◌, rules, arith}
use Rattle.std.specs.List.{list_any}
use Rattle.std.proofs.lemmas.List.Folds.{list_any-append}
use denote.Param.Weighed.{most}
use Rattle.dm_type.specs.Tables.{Table}
use Rattle.dm_tree.specs.declared.tree.Core.{Core}
use Rattle.dm_tree.specs.declared.tree.Initial.{Initial, size-Initial}
use Rattle.dm_tree.specs.Views.{expressions_of_items, view}
use Rattle.dm_meaning.specs.Wholes.{view_of_initial}
use Rattle.dm_effect.specs.Safe.{holds}
use Rattle.dm_effect.proofs.DeclaratorLemmas.{value-expressions, parts-expressions}
use Rattle.dm_effect.proofs.WalkLemmas.{any-yes, any-no, any-none}
use Rattle.dm_effect.proofs.declarators.+token.Goals as goal

abbrev asked : ℕ → Table → List Initial → Bool
asked token types all = list_any (holds token) (expressions_of_items (map (view_of_initial types) all))

abbrev asked_one : ℕ → Table → Initial → Bool
asked_one token types initial = list_any (holds token) (view_of_initial types initial).expressions

more : (token : ℕ) (types : Table) (x : Initial) (xs : List Initial) → asked token types (x ∷ xs) ≡ (asked_one token types x || asked token types xs)
more token types x xs = list_any-append (holds token) (view_of_initial types x).expressions (expressions_of_items (map (view_of_initial types) xs))

alone : (b : Bool) → (b || false) ≡ b
alone true = refl
alone false = refl

pub in_initial-returns-in-Value : goal.in_initial-returns-in-Value
in_initial-returns-in-Value t c types =
    c.holds.ensures types
    ∙ (ap (λ (core : Core). holds c.args.token (view types core)) c.get.ensures
    ∙ (sym (alone (holds c.args.token (view types c.in-Value.tree)))
    ∙ sym (ap (list_any (holds c.args.token)) (value-expressions types c.args.initial.now c.in-Value.tree c.in-Value.is))))

pub in_initial-returns-in-Parts : goal.in_initial-returns-in-Parts
in_initial-returns-in-Parts t c types =
    c.in_initials.ensures types
    ∙ (ap (asked c.args.token types) c.items.ensures
    ∙ sym (ap (list_any (holds c.args.token)) (parts-expressions types c.args.initial.now c.in-Parts.list c.in-Parts.is)))

pub in_initials-returns-then-in_initial : goal.in_initials-returns-then-in_initial
in_initials-returns-then-in_initial t c types =
    any-yes (asked c.args.token types) (asked_one c.args.token types) refl (more c.args.token types) c.args.initials.now c.loop-initial.left.now (c.loop-initial.invariant.1 types) c.in-Some.initial.now c.in-Some.rest.now
    c.in-Some.ensures.cases.0 (sym (c.in_initial.ensures types) ∙ c.if-in_initial.true)

pub in_initials-loop-initial-preserved : goal.in_initials-loop-initial-preserved
in_initials-loop-initial-preserved t c =
    let deep = ap (most size-Initial) c.in-Some.ensures.cases.0 in
    let below = c.loop-initial.invariant.0 in (
      omega (arith, deep, below),
      λ types.
          any-no (asked c.args.token types) (asked_one c.args.token types) refl (more c.args.token types) c.args.initials.now c.loop-initial.left.now (c.loop-initial.invariant.1 types) c.in-Some.initial.now
          c.in-Some.rest.now c.in-Some.ensures.cases.0 (sym (c.in_initial.ensures types) ∙ c.if-in_initial.false),
    )

pub in_initials-returns : goal.in_initials-returns
in_initials-returns t c types =
    any-none (asked c.args.token types) (asked_one c.args.token types) refl (more c.args.token types) c.args.initials.now c.loop-initial.left.now (c.loop-initial.invariant.1 types) (search rules)
