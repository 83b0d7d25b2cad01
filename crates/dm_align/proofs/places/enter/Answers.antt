-- The tree itself, and its parts, which wait.
use Rattle.std.proofs.Common.{◌++◌, Bool, map, refl, ap, ◌∙◌}
use Rattle.dm_type.specs.Tables.{no_type}
use Rattle.dm_tree.specs.Trees.{label_of}
use Rattle.dm_tree.specs.Views.{view}
use Rattle.dm_align.specs.Places.{waiting_of}
use Rattle.dm_align.specs.Units.{is_sizeof}
use Rattle.dm_align.proofs.PlaceLemmas.{entered, entered-unevaluated, nodes-entered}
use Rattle.dm_align.proofs.places.enter.Goals as goal

pub returns-clause-all : goal.returns-clause-all
returns-clause-all c types span wanted =
    let added = c.in_ok-push_below.ensures in
    entered types c.args.one.tree.now added.0 (added.1 types) span _ _ c.is_unevaluated_inside-unevaluated.result c.args.waiting.now.items c.push_below.new.waiting.items
    (c.in_ok-add_extents.ensures.all types span wanted) added.2

pub returns-clause-unevaluated : goal.returns-clause-unevaluated
returns-clause-unevaluated c types span wanted =
    let added = c.in_ok-push_below.ensures in
    let z = is_sizeof (label_of (view types c.args.one.tree.now)) in
    let before = c.args.waiting.now.items in
    let is = added.2 ∙ ap (λ (test : Bool). before ++ map (waiting_of test) added.0) (c.is_unevaluated_inside-unevaluated.ensures types) in
    entered-unevaluated types c.args.one.tree.now added.0 (added.1 types) span _ _ c.args.one.unevaluated z before c.push_below.new.waiting.items
    (c.in_ok-add_extents.ensures.unevaluated types span wanted) refl is

pub returns-clause-fewer : goal.returns-clause-fewer
returns-clause-fewer c =
    let added = c.in_ok-push_below.ensures in
    nodes-entered c.args.one.tree.now added.0 c.is_unevaluated_inside-unevaluated.result c.args.waiting.now.items c.push_below.new.waiting.items (added.1 no_type) added.2
