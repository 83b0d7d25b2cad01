use Rattle.std.proofs.Common.{◌<◌, sym, ap, ◌∙◌, subst}
use Rattle.dm_pexpr.specs.Counted.{most_counted}
use Rattle.dm_syn.specs.Heights.{above}
use Rattle.dm_pexpr.proofs.NodeLemmas.{choose-made}
use Rattle.dm_pexpr.proofs.reader.Reader.choose.Goals as goal

pub returns : goal.returns
returns c before names between read seen wanted first second given =
    choose-made _ before names between _ c.args.first c.args.second read seen c.args.third c.in-Some.third wanted c.in-Some.is first second given c.above-height.result c.in_ok-first.first c.in_ok-second.second c.in_ok-third.third c.node.result
    c.in_ok-first.ensures c.in_ok-second.ensures c.in_ok-third.ensures (λ small large. c.above-height.ensures small (subst (λ n. n < most_counted) (sym c.max.ensures) large) ∙ ap (above c.args.first.height) c.max.ensures) c.node.ensures
