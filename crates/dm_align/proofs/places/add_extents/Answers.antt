-- The extents of the tree, if it has any.
use Rattle.std.proofs.Common.{◌&&◌, ◌||◌, Bool, sym, ap, ◌∙◌}
use Rattle.std.proofs.Math.Bool.{or-false}
use Rattle.dm_tree.specs.Views.{view}
use Rattle.dm_agree.specs.Standing.{stands}
use Rattle.dm_align.specs.Places.{has}
use Rattle.dm_align.proofs.PlaceLemmas.{not-standing, standing-by, and-none}
use Rattle.dm_align.proofs.places.add_extents.Goals as goal

pub returns-then-not-is_value-clause-all : goal.returns-then-not-is_value-clause-all
returns-then-not-is_value-clause-all c types span wanted =
    let before = has c.args.places.now.all span in
    sym (ap (λ (test : Bool). before || test) (not-standing types c.args.tree.now span (c.is_value.ensures types ∙ c.if-not-is_value.true)) ∙ or-false before)

pub returns-then-not-is_value-clause-unevaluated : goal.returns-then-not-is_value-clause-unevaluated
returns-then-not-is_value-clause-unevaluated c types span wanted =
    let before = has c.args.places.now.unevaluated span in
    let none = not-standing types c.args.tree.now span (c.is_value.ensures types ∙ c.if-not-is_value.true) in
    sym (ap (λ (test : Bool). before || test) (and-none c.args.unevaluated (stands span (view types c.args.tree.now)) none) ∙ or-false before)

pub returns-in_ok-add_narrowing-2-clause-all : goal.returns-in_ok-add_narrowing-2-clause-all
returns-in_ok-add_narrowing-2-clause-all c types span wanted =
    c.in_ok-add_narrowing.ensures span wanted
    ∙ ap (λ (test : Bool). has c.args.places.now.all span || test) (standing-by types c.args.tree.now span c.pairs-pairs.result (c.is_value.ensures types ∙ c.if-not-is_value.false) (c.pairs-pairs.ensures types))

pub returns-in_ok-add_narrowing-2-clause-unevaluated : goal.returns-in_ok-add_narrowing-2-clause-unevaluated
returns-in_ok-add_narrowing-2-clause-unevaluated c types span wanted =
    let standing = standing-by types c.args.tree.now span c.pairs-pairs.result (c.is_value.ensures types ∙ c.if-not-is_value.false) (c.pairs-pairs.ensures types) in
    c.in_ok-add_narrowing-2.ensures span wanted
    ∙ (ap (λ (test : Bool). has c.args.places.now.unevaluated span || test) standing
    ∙ ap (λ (u : Bool). has c.args.places.now.unevaluated span || (u && stands span (view types c.args.tree.now))) (sym c.if-unevaluated.true))

pub returns-else-unevaluated-clause-all : goal.returns-else-unevaluated-clause-all
returns-else-unevaluated-clause-all c types span wanted =
    c.in_ok-add_narrowing.ensures span wanted
    ∙ ap (λ (test : Bool). has c.args.places.now.all span || test) (standing-by types c.args.tree.now span c.pairs-pairs.result (c.is_value.ensures types ∙ c.if-not-is_value.false) (c.pairs-pairs.ensures types))
