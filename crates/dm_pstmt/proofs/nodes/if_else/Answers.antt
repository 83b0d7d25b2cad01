use Rattle.std.proofs.Common.{◌<◌, refl, sym, ap, ◌∙◌, subst}
use Rattle.dm_pexpr.specs.Counted.{most_counted}
use Rattle.dm_syn.specs.Heights.{above}
use Rattle.dm_pstmt.proofs.NodeLemmas.{if-else-made}
use Rattle.dm_pstmt.proofs.Wholes.{ok-along}
use Rattle.dm_pstmt.proofs.nodes.if_else.Goals as goal

pub returns : goal.returns
returns c source before names behind last read seen wanted condition body given =
    ok-along _ _ c.node.result
    (λ made is. if-else-made source before names behind last c.args.condition read c.args.body seen c.args.other c.in-Some.other wanted c.in-Some.is condition body given c.args.first c.above-height.result c.args.body.tree c.in-Some.other.tree made
    refl refl (λ small large. c.above-height.ensures small (subst (λ n. n < most_counted) (sym c.max.ensures) large) ∙ ap (above c.args.condition.height) c.max.ensures) is) c.node.ensures
