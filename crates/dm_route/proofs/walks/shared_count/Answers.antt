use Rattle.std.proofs.Common.{[], refl, sym, ◌∙◌}
use Rattle.dm_route.proofs.WalkLemmas.{common-nothing}
use Rattle.dm_route.proofs.walks.shared_count.Goals as goal

pub returns-then-length-eq0 : goal.returns-then-length-eq0
returns-then-length-eq0 c = ([], common-nothing c.args.left.now c.args.right.now (sym c.length.ensures ∙ c.if-length-eq0.true), refl)

pub returns : goal.returns
returns c = (c.common.result.now, c.common.ensures, c.length-2.ensures)
