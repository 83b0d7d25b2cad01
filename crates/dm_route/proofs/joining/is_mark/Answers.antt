use Rattle.std.proofs.Common.{◌∙◌, sym}
use Rattle.dm_token.proofs.MarkLemmas.{same_mark}
use Rattle.dm_route.proofs.joining.is_mark.Goals as goal

pub returns : goal.returns
returns c = λ holds. same_mark c.args.left c.args.right (sym c.eq.ensures ∙ holds)
