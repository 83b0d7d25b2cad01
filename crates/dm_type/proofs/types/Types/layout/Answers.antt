-- A type takes as much as one of it.
use Rattle.std.proofs.Common.{subst, arith}
use Rattle.dm_type.specs.Tables.{type_of}
use Rattle.dm_type.specs.Sound.{IsSound}
use Rattle.dm_type.proofs.LayoutLemmas.{times-once}
use Rattle.dm_type.proofs.types.Types.layout.Goals as goal

pub loop-inner-init : goal.loop-inner-init
loop-inner-init c =
    ((1, omega arith, omega arith, times-once c.args.self.now (type_of c.args.self.now c.args.id) (subst IsSound c.self.view_is c.self.invariant.0)), c.requires)
