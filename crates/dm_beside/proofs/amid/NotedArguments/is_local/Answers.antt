-- The table of objects is that of the unit.
use Rattle.std.proofs.Common.{length, slice_get, IsTrue, ap, sym, subst, ◌∙◌}
use Rattle.std.specs.List.{list_all}
use Rattle.dm_tree.specs.declared.unit.CoreUnit.{CoreUnit}
use Rattle.dm_tree.specs.TypeNumbers.{entry_has_known}
use Rattle.dm_effect.specs.Stable.{is_scalar_local}
use Rattle.dm_beside.specs.Amid.{unit_at}
use Rattle.dm_beside.proofs.amid.NotedArguments.is_local.Goals as goal

pub is_scalar_local-requires : goal.is_scalar_local-requires
is_scalar_local-requires c =
    let it = c.args.self.now in
    subst (λ (one : CoreUnit). IsTrue (list_all (entry_has_known (length it.types.now.shapes)) one.declared)) (sym (c.unit.ensures ∙ it.noted)) it.entries

pub returns : goal.returns
returns c =
    let it = c.args.self.now in
    c.is_scalar_local.ensures ∙ ap (λ (one : CoreUnit). is_scalar_local (slice_get (unit_at it.types.now one).declared c.args.object)) (c.unit.ensures ∙ it.noted)
