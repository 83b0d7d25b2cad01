-- The only one is another one if this one is quiet.
use Rattle.std.proofs.Common.{◌∙◌}
use Rattle.dm_tree.specs.Views.{view, view_of_unit}
use Rattle.dm_effect.specs.Quiet.{is_quiet}
use Rattle.dm_around.proofs.NoiseLemmas.{one-operand}
use Rattle.dm_around.proofs.noise.is_beside.Goals as goal

pub returns-in-1 : goal.returns-in-1
returns-in-1 c types =
    c.is_quiet.ensures types
    ∙ one-operand (is_quiet (view_of_unit types c.args.quiet.now) (view types c.args.operand.now)) c.args.above.beside c.args.above.operands c.if-above.false c.in-1.is
