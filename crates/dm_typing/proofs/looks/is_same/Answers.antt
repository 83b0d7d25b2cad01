-- Equal types have one number.
use Rattle.std.proofs.Common.{◌∙◌}
use Rattle.dm_typing.proofs.ValueLemmas.{same-number}
use Rattle.dm_typing.proofs.looks.is_same.Goals as goal

pub returns : goal.returns
returns c = c.eq.ensures ∙ same-number c.args.types.now c.args.a c.args.b c.shape.ensures.distinct c.requires.left c.requires.right
