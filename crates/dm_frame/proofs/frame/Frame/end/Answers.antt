-- Only the oldest objects stay alive.
use Rattle.std.proofs.Common.{refl}
use Rattle.dm_frame.proofs.JumpLemmas.{jumped}
use Rattle.dm_frame.proofs.frame.Frame.end.Goals as goal

pub returns-clause-left : goal.returns-clause-left
returns-clause-left c = λ table within fits known.
    jumped table c.args.alive c.args.self.now.objects c.args.self.now.function c.end_objects.new.objects c.args.blocks.now c.end_objects.new.blocks c.args.self.now.tasks within fits
    c.end_objects.ensures.objects (c.end_objects.ensures.blocks table) (c.end_objects.ensures.known table known) _ refl
