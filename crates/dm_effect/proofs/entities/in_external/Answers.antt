-- At its declarators, in its constants, or in its other trees.
use Rattle.std.proofs.Common.{◌≡◌, Bool, true, false, List, map, ap, sym, ◌∙◌}
use Rattle.std.specs.List.{list_any}
use Rattle.dm_type.specs.Tables.{Table}
use Rattle.dm_tree.specs.declared.tree.Core.{Core}
use Rattle.dm_tree.specs.declared.tree.Local.{Local}
use Rattle.dm_tree.specs.declared.unit.CoreExternal.{CoreExternal}
use Rattle.dm_tree.specs.declared.unit.CoreExternalForm.{CoreExternalForm}
use Rattle.dm_tree.specs.Views.{expressions_of_locals, view, view_of_external, view_of_form, view_of_local}
use Rattle.dm_effect.specs.declared.question.Question.{Question}
use Rattle.dm_effect.specs.Entities.{nodes_of_external, trees_in_form}
use Rattle.dm_effect.specs.Externals.{at_declarators, is_found}
use Rattle.dm_effect.specs.Questions.{answer, is_asked}
use Rattle.dm_effect.proofs.ExternalLemmas.{nodes-found, body-found}
use Rattle.dm_effect.proofs.WalkLemmas.{stops, skips}
use Rattle.dm_effect.proofs.entities.in_external.Goals as goal

abbrev own : Table → Question → CoreExternal → Bool
own types question one = at_declarators question (view_of_form types one.form)

abbrev nodes : Table → Question → CoreExternal → Bool
nodes types question one = list_any (answer types question) (nodes_of_external (view_of_external types one))

abbrev constants : Table → Question → List Core → Bool
constants types question all = is_asked types question (map (view types) all)

abbrev others : Table → Question → CoreExternalForm → Bool
others types question form = is_asked types question (trees_in_form (view_of_form types form))

pub returns-then-in_declarators : goal.returns-then-in_declarators
returns-then-in_declarators c types =
    let one = c.args.external.now in
    sym (stops (own types c.args.question one) (nodes types c.args.question one) (sym (c.in_declarators.ensures types) ∙ c.if-in_declarators.true))

pub returns-then-any_tree : goal.returns-then-any_tree
returns-then-any_tree c types =
    let one = c.args.external.now in
    let there : constants types c.args.question one.constants ≡ true = ap (constants types c.args.question) (sym c.items.ensures) ∙ (sym (c.any_tree.ensures types) ∙ c.if-any_tree.true) in
    sym (skips (own types c.args.question one) (nodes types c.args.question one) (sym (c.in_declarators.ensures types) ∙ c.if-in_declarators.false)
    ∙ (nodes-found types c.args.question (view_of_external types one) ∙ stops (constants types c.args.question one.constants) (others types c.args.question one.form) there))

behind : (types : Table) (question : Question) (one : CoreExternal) → own types question one ≡ false → constants types question one.constants ≡ false
    → is_found types question (view_of_external types one) ≡ others types question one.form
behind types question one absent none =
    skips (own types question one) (nodes types question one) absent
    ∙ (nodes-found types question (view_of_external types one) ∙ skips (constants types question one.constants) (others types question one.form) none)

pub returns-in-Declaration : goal.returns-in-Declaration
returns-in-Declaration c types =
    let one = c.args.external.now in
    let none : constants types c.args.question one.constants ≡ false = ap (constants types c.args.question) (sym c.items.ensures) ∙ (sym (c.any_tree.ensures types) ∙ c.if-any_tree.false) in
    c.any_local.ensures types
    ∙ (ap (λ (all : List Local). is_asked types c.args.question (expressions_of_locals (map (view_of_local types) all))) c.items-in-Declaration.ensures
    ∙ sym (behind types c.args.question one (sym (c.in_declarators.ensures types) ∙ c.if-in_declarators.false) none ∙ ap (others types c.args.question) c.in-Declaration.is))

pub returns-in-Function : goal.returns-in-Function
returns-in-Function c types =
    let one = c.args.external.now in
    let none : constants types c.args.question one.constants ≡ false = ap (constants types c.args.question) (sym c.items.ensures) ∙ (sym (c.any_tree.ensures types) ∙ c.if-any_tree.false) in
    c.any_node.ensures types
    ∙ sym (behind types c.args.question one (sym (c.in_declarators.ensures types) ∙ c.if-in_declarators.false) none
    ∙ (ap (others types c.args.question) c.in-Function.is ∙ body-found types c.args.question c.in-Function.body))
