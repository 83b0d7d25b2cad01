use Rattle.std.proofs.Common.{◌<◌, sym, ap, ◌∙◌, subst}
use Rattle.dm_pexpr.specs.Counted.{most_counted}
use Rattle.dm_syn.specs.Heights.{above}
use Rattle.dm_pstmt.proofs.ExternalNodes.{definition-made}
use Rattle.dm_pstmt.proofs.nodes.external_definition.Goals as goal

pub returns : goal.returns
returns c source before names between behind inside last read seen wanted p q scoped given =
    definition-made source before names between behind inside last c.args.specifiers read c.args.declarator seen c.args.body c.in_ok-body.body wanted c.in_ok-body.was p q scoped given
    c.args.first c.above-height.result c.into_inner.result c.checked.result c.into_inner.ensures
    (λ small large. c.above-height.ensures small (subst (λ n. n < most_counted) (sym c.max.ensures) large) ∙ ap (above c.args.specifiers.height) c.max.ensures) c.checked.ensures
