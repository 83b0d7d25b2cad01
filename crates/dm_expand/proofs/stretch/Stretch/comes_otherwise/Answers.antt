use Rattle.std.proofs.Common.{List, refl, ap, ◌∙◌, sym}
use Rattle.dm_expand.specs.Items.{Item}
use Rattle.dm_expand.specs.Trails.{come_otherwise}
use Rattle.dm_expand.specs.Shares.{stretch_of}
use Rattle.dm_expand.proofs.ShareLemmas.{otherwise-shorter}
use Rattle.dm_expand.proofs.stretch.Stretch.comes_otherwise.Goals as goal

pub returns-then-begins-clause-otherwise : goal.returns-then-begins-clause-otherwise
returns-then-begins-clause-otherwise c =
    let tokens : List Item = stretch_of c.self.inside.shared.value.items.items c.self.inside.first c.self.inside.after in
    sym (ap (come_otherwise c.args.way.now) (sym c.self.view_is) ∙ otherwise-shorter c.args.way.now c.self.inside.came tokens (c.if-begins.ensures.0 refl) c.self.invariant.came_so)
