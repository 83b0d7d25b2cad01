use Rattle.std.proofs.Common.{◌∙◌, sym}
use Rattle.dm_token.proofs.MarkLemmas.{equal-same}
use Rattle.dm_route.proofs.walks.are_same.Goals as goal

pub returns : goal.returns
returns c = λ holds. equal-same c.args.left.now c.args.right.now (sym c.eq.ensures ∙ holds)
