-- A modifiable lvalue of a type that counts.
use Rattle.std.specs.Prelude.{◌||◌}
use Rattle.std.proofs.Common.{sym, ◌∙◌}
use Rattle.std.proofs.lemmas.Bool.{and_right}
use Rattle.dm_tree.specs.Scenes.{is_integer}
use Rattle.dm_tree.specs.Trees.{kind_of}
use Rattle.dm_typing.specs.Rules.{is_modifiable, points_to_complete}
use Rattle.dm_typing.specs.Views.{view_over, known_over}
use Rattle.dm_eunary.proofs.UnaryLemmas.{countable-later, and-true}
use Rattle.dm_eunary.proofs.counting.may_be_counted.Goals as goal

pub returns-then-not-is_countable : goal.returns-then-not-is_countable
returns-then-not-is_countable c = λ later begins.
    let known = known_over later c.args.known.now in
    let tree = view_over later c.args.operand.now in
    sym (and_right (is_modifiable known tree) (is_integer (kind_of tree) || points_to_complete known (kind_of tree))
    (sym (countable-later c.args.known.now later c.args.operand.now begins c.requires) ∙ (sym c.is_countable.ensures ∙ c.if-not-is_countable.true)))

pub returns : goal.returns
returns c = λ later begins.
    let known = known_over later c.args.known.now in
    let tree = view_over later c.args.operand.now in
    c.in_ok-may.ensures later begins
    ∙ and-true (is_modifiable known tree) (is_integer (kind_of tree) || points_to_complete known (kind_of tree))
    (sym (countable-later c.args.known.now later c.args.operand.now begins c.requires) ∙ (sym c.is_countable.ensures ∙ c.if-not-is_countable.false))
