-- By the places of the unit that are looked for.
use Rattle.std.proofs.Common.{Bool, List, subst, sym}
use Rattle.dm_tree.specs.Views.{view_of_unit}
use Rattle.dm_align.specs.Places.{AreWanted}
use Rattle.dm_align.proofs.places.are_placed.Goals as goal

pub returns : goal.returns
returns c types =
    c.have_all.ensures (view_of_unit types c.args.unit.now) c.deref.result.now (c.in_ok-places.ensures types)
    (subst (λ (starts : List Bool). AreWanted starts c.args.runs.now) (sym c.deref.ensures.value) c.in_ok-starts.ensures)
