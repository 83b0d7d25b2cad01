-- It stands in one.
use Rattle.std.proofs.Common.{◌&&◌, Bool, sym, ap, ◌∙◌}
use Rattle.dm_tree.specs.Trees.{label_of}
use Rattle.dm_tree.specs.Views.{entries_of, view}
use Rattle.dm_effect.specs.Scoped.{is_automatic}
use Rattle.dm_plain.specs.Walks.{is_local}
use Rattle.dm_plain.proofs.plain.is_local_inside.Goals as goal

pub returns-then-one : goal.returns-then-one
returns-then-one c types =
    c.names_local.ensures types
    ∙ ap (λ (test : Bool). test && is_local (is_automatic (entries_of types c.args.unit.now.declared)) (label_of (view types c.args.one.tree.now))) (sym c.if-one.true)
