use Rattle.std.proofs.Common.{◌∙◌, sym}
use Rattle.dm_ctok.specs.Integers.{constant_of, integer_of}
use Rattle.dm_ctok.proofs.KindLemmas.{no_kind}
use Rattle.dm_ctok.proofs.token.integer.Goals as goal

pub returns-in_err-constant : goal.returns-in_err-constant
unfolding integer_of
returns-in_err-constant c = c.from_residual.ensures ∙ sym (no_kind (constant_of c.args.spelling.now) c.in_err-constant.ensures)
