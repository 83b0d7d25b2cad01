-- The answer at some node of what is left.
use Rattle.std.proofs.Common.{◌≡◌, Bool, true, false, ◌||◌, List, [], ◌∷◌, map, Option, Bor, ap, refl, sym, ◌∙◌, rules, arith}
use Rattle.std.specs.List.{list_any}
use Rattle.std.specs.Option.{option_copied, option_map}
use Rattle.std.proofs.lemmas.List.Folds.{list_any-append}
use denote.Param.Weighed.{most}
use Rattle.dm_type.specs.Tables.{Table}
use Rattle.dm_tree.specs.declared.tree.Core.{Core, out-Core, size-Core}
use Rattle.dm_tree.specs.declared.tree.Core as q
use Rattle.dm_tree.specs.declared.tree.Initial.{Initial, size-Initial}
use Rattle.dm_tree.specs.declared.tree.Local.{Local, size-Local}
use Rattle.dm_tree.specs.Paths.{all_in, all_in_trees}
use Rattle.dm_tree.specs.Trees.{trees}
use Rattle.dm_tree.specs.Views.{if_there, expressions_of_items, expressions_of_locals, opened_form, view, view_of_local}
use Rattle.dm_meaning.specs.Wholes.{view_of_initial}
use Rattle.dm_effect.specs.declared.parts.Parts.{Parts}
use Rattle.dm_effect.specs.declared.question.Question.{Question}
use Rattle.dm_effect.specs.Parts.{parts_in}
use Rattle.dm_effect.specs.Questions.{answer, is_asked}
use Rattle.dm_effect.proofs.DeclaratorLemmas.{value-expressions, parts-expressions}
use Rattle.dm_effect.proofs.PartLemmas.{local-with, local-without}
use Rattle.dm_effect.proofs.WalkLemmas.{any-yes, any-no, any-none, stops, skips, second-stops, second-skips, nodes-append, node-asked, comma-asked, parts-asked}
use Rattle.dm_effect.proofs.walk.+walk.Goals as goal

-- ---- trees

alone : (b : Bool) → (b || false) ≡ b
alone true = refl
alone false = refl

abbrev in_trees : Table → Question → List Core → Bool
in_trees types question all = is_asked types question (map (view types) all)

abbrev in_tree : Table → Question → Core → Bool
in_tree types question core = list_any (answer types question) (all_in (view types core))

trees-more : (types : Table) (question : Question) (x : Core) (xs : List Core) → in_trees types question (x ∷ xs) ≡ (in_tree types question x || in_trees types question xs)
trees-more types question x xs = list_any-append (answer types question) (all_in (view types x)) (all_in_trees (trees (map (view types) xs)))

pub any_tree-returns-then-any_node : goal.any_tree-returns-then-any_node
any_tree-returns-then-any_node t c types =
    any-yes (in_trees types c.args.question) (in_tree types c.args.question) refl (trees-more types c.args.question) c.args.trees.now c.loop-tree.left.now (c.loop-tree.invariant.1 types) c.in-Some.tree.now c.in-Some.rest.now
    c.in-Some.ensures.cases.0 (sym (c.any_node.ensures types) ∙ c.if-any_node.true)

pub any_tree-loop-tree-preserved : goal.any_tree-loop-tree-preserved
any_tree-loop-tree-preserved t c =
    let deep = ap (most size-Core) c.in-Some.ensures.cases.0 in
    let below = c.loop-tree.invariant.0 in (
      omega (arith, deep, below),
      λ types.
          any-no (in_trees types c.args.question) (in_tree types c.args.question) refl (trees-more types c.args.question) c.args.trees.now c.loop-tree.left.now (c.loop-tree.invariant.1 types) c.in-Some.tree.now c.in-Some.rest.now
          c.in-Some.ensures.cases.0 (sym (c.any_node.ensures types) ∙ c.if-any_node.false),
    )

pub any_tree-returns : goal.any_tree-returns
any_tree-returns t c types =
    any-none (in_trees types c.args.question) (in_tree types c.args.question) refl (trees-more types c.args.question) c.args.trees.now c.loop-tree.left.now (c.loop-tree.invariant.1 types) (search rules)

pub any_optional-returns-in-Some : goal.any_optional-returns-in-Some
any_optional-returns-in-Some t c types =
    c.any_node.ensures types
    ∙ sym (ap (λ (tree : Option (Bor Core)). is_asked types c.args.question (if_there (option_map (view types) (option_copied tree)))) c.in-Some.is
    ∙ (trees-more types c.args.question c.in-Some.tree.now [] ∙ alone (in_tree types c.args.question c.in-Some.tree.now)))

-- ---- initialisers

abbrev in_initials : Table → Question → List Initial → Bool
in_initials types question all = is_asked types question (expressions_of_items (map (view_of_initial types) all))

abbrev in_one_initial : Table → Question → Initial → Bool
in_one_initial types question initial = is_asked types question (view_of_initial types initial).expressions

initials-more : (types : Table) (question : Question) (x : Initial) (xs : List Initial) → in_initials types question (x ∷ xs) ≡ (in_one_initial types question x || in_initials types question xs)
initials-more types question x xs = nodes-append (answer types question) (view_of_initial types x).expressions (expressions_of_items (map (view_of_initial types) xs))

pub any_initial-returns-then-in_initial : goal.any_initial-returns-then-in_initial
any_initial-returns-then-in_initial t c types =
    any-yes (in_initials types c.args.question) (in_one_initial types c.args.question) refl (initials-more types c.args.question) c.args.initials.now c.loop-initial.left.now (c.loop-initial.invariant.1 types)
    c.in-Some.initial.now c.in-Some.rest.now c.in-Some.ensures.cases.0 (sym (c.in_initial.ensures types) ∙ c.if-in_initial.true)

pub any_initial-loop-initial-preserved : goal.any_initial-loop-initial-preserved
any_initial-loop-initial-preserved t c =
    let deep = ap (most size-Initial) c.in-Some.ensures.cases.0 in
    let below = c.loop-initial.invariant.0 in (
      omega (arith, deep, below),
      λ types.
          any-no (in_initials types c.args.question) (in_one_initial types c.args.question) refl (initials-more types c.args.question) c.args.initials.now c.loop-initial.left.now (c.loop-initial.invariant.1 types)
          c.in-Some.initial.now c.in-Some.rest.now c.in-Some.ensures.cases.0 (sym (c.in_initial.ensures types) ∙ c.if-in_initial.false),
    )

pub any_initial-returns : goal.any_initial-returns
any_initial-returns t c types =
    any-none (in_initials types c.args.question) (in_one_initial types c.args.question) refl (initials-more types c.args.question) c.args.initials.now c.loop-initial.left.now (c.loop-initial.invariant.1 types) (search rules)

pub in_initial-returns-in-Value : goal.in_initial-returns-in-Value
in_initial-returns-in-Value t c types =
    c.any_node.ensures types
    ∙ (ap (in_tree types c.args.question) c.get.ensures
    ∙ sym (ap (is_asked types c.args.question) (value-expressions types c.args.initial.now c.in-Value.tree c.in-Value.is)
    ∙ (trees-more types c.args.question c.in-Value.tree [] ∙ alone (in_tree types c.args.question c.in-Value.tree))))

pub in_initial-returns-in-Parts : goal.in_initial-returns-in-Parts
in_initial-returns-in-Parts t c types =
    c.any_initial.ensures types
    ∙ (ap (in_initials types c.args.question) c.items.ensures
    ∙ sym (ap (is_asked types c.args.question) (parts-expressions types c.args.initial.now c.in-Parts.list c.in-Parts.is)))

-- ---- declarators

abbrev in_locals : Table → Question → List Local → Bool
in_locals types question all = is_asked types question (expressions_of_locals (map (view_of_local types) all))

abbrev in_one_local : Table → Question → Local → Bool
in_one_local types question local = is_asked types question (view_of_local types local).expressions

locals-more : (types : Table) (question : Question) (x : Local) (xs : List Local) → in_locals types question (x ∷ xs) ≡ (in_one_local types question x || in_locals types question xs)
locals-more types question x xs = nodes-append (answer types question) (view_of_local types x).expressions (expressions_of_locals (map (view_of_local types) xs))

pub any_local-returns-then-in_initial : goal.any_local-returns-then-in_initial
any_local-returns-then-in_initial t c types =
    any-yes (in_locals types c.args.question) (in_one_local types c.args.question) refl (locals-more types c.args.question) c.args.locals.now c.loop-local.left.now (c.loop-local.invariant.1 types) c.in-Some.local.now
    c.in-Some.rest.now c.in-Some.ensures.cases.0
    (ap (is_asked types c.args.question) (local-with types c.in-Some.local.now c.in-Some-initial.initial c.in-Some-initial.is) ∙ (sym (c.in_initial.ensures types) ∙ c.if-in_initial.true))

pub any_local-loop-local-preserved-else-in_initial : goal.any_local-loop-local-preserved-else-in_initial
any_local-loop-local-preserved-else-in_initial t c =
    let deep = ap (most size-Local) c.in-Some.ensures.cases.0 in
    let below = c.loop-local.invariant.0 in (
      omega (arith, deep, below),
      λ types.
          any-no (in_locals types c.args.question) (in_one_local types c.args.question) refl (locals-more types c.args.question) c.args.locals.now c.loop-local.left.now (c.loop-local.invariant.1 types) c.in-Some.local.now
          c.in-Some.rest.now c.in-Some.ensures.cases.0
          (ap (is_asked types c.args.question) (local-with types c.in-Some.local.now c.in-Some-initial.initial c.in-Some-initial.is) ∙ (sym (c.in_initial.ensures types) ∙ c.if-in_initial.false)),
    )

pub any_local-loop-local-preserved : goal.any_local-loop-local-preserved
any_local-loop-local-preserved t c =
    let deep = ap (most size-Local) c.in-Some.ensures.cases.0 in
    let below = c.loop-local.invariant.0 in (
      omega (arith, deep, below),
      λ types.
          any-no (in_locals types c.args.question) (in_one_local types c.args.question) refl (locals-more types c.args.question) c.args.locals.now c.loop-local.left.now (c.loop-local.invariant.1 types) c.in-Some.local.now
          c.in-Some.rest.now c.in-Some.ensures.cases.0 (ap (is_asked types c.args.question) (local-without types c.in-Some.local.now (search rules))),
    )

pub any_local-returns : goal.any_local-returns
any_local-returns t c types =
    any-none (in_locals types c.args.question) (in_one_local types c.args.question) refl (locals-more types c.args.question) c.args.locals.now c.loop-local.left.now (c.loop-local.invariant.1 types) (search rules)

-- ---- a tree and its parts

abbrev in_parts : Table → Question → Core → Bool
in_parts types question core = is_asked types question (opened_form types (out-Core core).form).parts

pub any_node-returns-then-answers : goal.any_node-returns-then-answers
any_node-returns-then-answers t c types =
    let at = c.loop-at.at.now in
    sym (sym (c.loop-at.invariant.1 types)
    ∙ (node-asked (answer types c.args.question) types at
    ∙ stops (answer types c.args.question (view types at)) (in_parts types c.args.question at) (sym (c.answers.ensures types) ∙ c.if-answers.true)))

pub any_node-returns-then-any_node : goal.any_node-returns-then-any_node
any_node-returns-then-any_node t c types =
    let at = c.loop-at.at.now in
    let right : in_tree types c.args.question c.in-Comma.right ≡ true = sym (ap (in_tree types c.args.question) c.get.ensures) ∙ (sym (c.any_node.ensures types) ∙ c.if-any_node.true) in
    sym (sym (c.loop-at.invariant.1 types)
    ∙ (comma-asked (answer types c.args.question) types at c.in-Comma.left c.in-Comma.right c.in-Comma.is
    ∙ (skips (answer types c.args.question (view types at)) _ (sym (c.answers.ensures types) ∙ c.if-answers.false)
    ∙ second-stops (in_tree types c.args.question c.in-Comma.left) (in_tree types c.args.question c.in-Comma.right) right)))

pub any_node-loop-at-preserved : goal.any_node-loop-at-preserved
any_node-loop-at-preserved t c = (
  search (rules, q.the_lemmas),
  λ types.
      let at = c.loop-at.at.now in
      let right : in_tree types c.args.question c.in-Comma.right ≡ false = sym (ap (in_tree types c.args.question) c.get.ensures) ∙ (sym (c.any_node.ensures types) ∙ c.if-any_node.false) in
      ap (in_tree types c.args.question) c.get-at.ensures
      ∙ (sym (comma-asked (answer types c.args.question) types at c.in-Comma.left c.in-Comma.right c.in-Comma.is
      ∙ (skips (answer types c.args.question (view types at)) _ (sym (c.answers.ensures types) ∙ c.if-answers.false)
      ∙ second-skips (in_tree types c.args.question c.in-Comma.left) (in_tree types c.args.question c.in-Comma.right) right))
      ∙ c.loop-at.invariant.1 types),
)

pub any_node-returns-then-answers-2 : goal.any_node-returns-then-answers-2
any_node-returns-then-answers-2 t c types =
    let at = c.loop-at.at.now in
    sym (sym (c.loop-at.invariant.1 types)
    ∙ (node-asked (answer types c.args.question) types at
    ∙ stops (answer types c.args.question (view types at)) (in_parts types c.args.question at) (sym (c.answers-2.ensures types) ∙ c.if-answers-2.true)))

pub any_node-returns : goal.any_node-returns
any_node-returns t c types =
    let at = c.loop-at.at.now in
    c.any_part.ensures types
    ∙ (ap (is_asked types c.args.question) (c.parts_of.ensures.same types)
    ∙ sym (sym (c.loop-at.invariant.1 types)
    ∙ (node-asked (answer types c.args.question) types at
    ∙ skips (answer types c.args.question (view types at)) (in_parts types c.args.question at) (sym (c.answers-2.ensures types) ∙ c.if-answers-2.false))))

-- ---- parts

abbrev in_optional : Table → Question → Option (Bor Core) → Bool
in_optional types question tree = is_asked types question (if_there (option_map (view types) (option_copied tree)))

all-asked : (types : Table) (question : Question) (parts : Parts) → is_asked types question (parts_in types parts)
    ≡ (in_optional types question parts.first || (in_optional types question parts.second || (in_optional types question parts.third || (in_optional types question parts.fourth
    || (in_trees types question parts.items.now || in_locals types question parts.locals.now)))))
all-asked types question parts =
    parts-asked (answer types question) (if_there (option_map (view types) (option_copied parts.first))) (if_there (option_map (view types) (option_copied parts.second)))
    (if_there (option_map (view types) (option_copied parts.third))) (if_there (option_map (view types) (option_copied parts.fourth))) (map (view types) parts.items.now)
    (expressions_of_locals (map (view_of_local types) parts.locals.now))

pub any_part-returns-then-any_optional : goal.any_part-returns-then-any_optional
any_part-returns-then-any_optional t c types =
    sym (all-asked types c.args.question c.args.parts ∙ stops (in_optional types c.args.question c.args.parts.first) _ (sym (c.any_optional.ensures types) ∙ c.if-any_optional.true))

pub any_part-returns-then-any_optional-2 : goal.any_part-returns-then-any_optional-2
any_part-returns-then-any_optional-2 t c types =
    sym (all-asked types c.args.question c.args.parts
    ∙ (skips (in_optional types c.args.question c.args.parts.first) _ (sym (c.any_optional.ensures types) ∙ c.if-any_optional.false)
    ∙ stops (in_optional types c.args.question c.args.parts.second) _ (sym (c.any_optional-2.ensures types) ∙ c.if-any_optional-2.true)))

pub any_part-returns-then-any_optional-3 : goal.any_part-returns-then-any_optional-3
any_part-returns-then-any_optional-3 t c types =
    sym (all-asked types c.args.question c.args.parts
    ∙ (skips (in_optional types c.args.question c.args.parts.first) _ (sym (c.any_optional.ensures types) ∙ c.if-any_optional.false)
    ∙ (skips (in_optional types c.args.question c.args.parts.second) _ (sym (c.any_optional-2.ensures types) ∙ c.if-any_optional-2.false)
    ∙ stops (in_optional types c.args.question c.args.parts.third) _ (sym (c.any_optional-3.ensures types) ∙ c.if-any_optional-3.true))))

pub any_part-returns-then-any_optional-4 : goal.any_part-returns-then-any_optional-4
any_part-returns-then-any_optional-4 t c types =
    sym (all-asked types c.args.question c.args.parts
    ∙ (skips (in_optional types c.args.question c.args.parts.first) _ (sym (c.any_optional.ensures types) ∙ c.if-any_optional.false)
    ∙ (skips (in_optional types c.args.question c.args.parts.second) _ (sym (c.any_optional-2.ensures types) ∙ c.if-any_optional-2.false)
    ∙ (skips (in_optional types c.args.question c.args.parts.third) _ (sym (c.any_optional-3.ensures types) ∙ c.if-any_optional-3.false)
    ∙ stops (in_optional types c.args.question c.args.parts.fourth) _ (sym (c.any_optional-4.ensures types) ∙ c.if-any_optional-4.true)))))

pub any_part-returns-then-any_tree : goal.any_part-returns-then-any_tree
any_part-returns-then-any_tree t c types =
    sym (all-asked types c.args.question c.args.parts
    ∙ (skips (in_optional types c.args.question c.args.parts.first) _ (sym (c.any_optional.ensures types) ∙ c.if-any_optional.false)
    ∙ (skips (in_optional types c.args.question c.args.parts.second) _ (sym (c.any_optional-2.ensures types) ∙ c.if-any_optional-2.false)
    ∙ (skips (in_optional types c.args.question c.args.parts.third) _ (sym (c.any_optional-3.ensures types) ∙ c.if-any_optional-3.false)
    ∙ (skips (in_optional types c.args.question c.args.parts.fourth) _ (sym (c.any_optional-4.ensures types) ∙ c.if-any_optional-4.false)
    ∙ stops (in_trees types c.args.question c.args.parts.items.now) _ (sym (c.any_tree.ensures types) ∙ c.if-any_tree.true))))))

pub any_part-returns : goal.any_part-returns
any_part-returns t c types =
    c.any_local.ensures types
    ∙ sym (all-asked types c.args.question c.args.parts
    ∙ (skips (in_optional types c.args.question c.args.parts.first) _ (sym (c.any_optional.ensures types) ∙ c.if-any_optional.false)
    ∙ (skips (in_optional types c.args.question c.args.parts.second) _ (sym (c.any_optional-2.ensures types) ∙ c.if-any_optional-2.false)
    ∙ (skips (in_optional types c.args.question c.args.parts.third) _ (sym (c.any_optional-3.ensures types) ∙ c.if-any_optional-3.false)
    ∙ (skips (in_optional types c.args.question c.args.parts.fourth) _ (sym (c.any_optional-4.ensures types) ∙ c.if-any_optional-4.false)
    ∙ skips (in_trees types c.args.question c.args.parts.items.now) _ (sym (c.any_tree.ensures types) ∙ c.if-any_tree.false))))))
