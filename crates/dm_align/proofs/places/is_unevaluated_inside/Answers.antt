-- It stands in one, or is one.
use Rattle.std.proofs.Common.{◌||◌, Bool, sym, ap, ◌∙◌}
use Rattle.dm_tree.specs.Trees.{label_of}
use Rattle.dm_tree.specs.Views.{view}
use Rattle.dm_align.specs.Units.{is_sizeof}
use Rattle.dm_align.proofs.places.is_unevaluated_inside.Goals as goal

pub returns : goal.returns
returns c types = c.is_sizeof.ensures types ∙ ap (λ (test : Bool). test || is_sizeof (label_of (view types c.args.one.tree.now))) (sym c.if-one.false)
