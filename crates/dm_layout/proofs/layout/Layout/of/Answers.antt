-- When all structs have been looked at, all have their members.
use Rattle.std.proofs.Common.{◌≤◌, length, rules, subst, sym}
use Rattle.dm_layout.specs.Fields.{AreFields}
use Rattle.dm_layout.proofs.FieldLemmas.{all-laid}
use Rattle.dm_layout.proofs.layout.Layout.of.Goals as goal

pub invariant_of-result : goal.invariant_of-result
invariant_of-result c =
    let all = c.loop-number.all.items in
    let enough : length c.args.types.now.structs ≤ c.loop-number.number = search rules in
    subst (AreFields c.args.types.now) (sym c.from_vec.ensures)
    (all-laid c.args.types.now all c.loop-number.number c.loop-number.invariant.0 enough c.loop-number.invariant.1 c.loop-number.invariant.2)
