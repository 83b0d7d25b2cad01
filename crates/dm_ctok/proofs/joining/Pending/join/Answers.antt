use Rattle.std.proofs.Common.{◌≡◌, ◌∙◌}
use Rattle.dm_ctok.specs.Joins.{common, joined}
use Rattle.dm_ctok.specs.Tokens.{literal_of}
use Rattle.dm_ctok.proofs.JoinLemmas.{common-is}
use Rattle.dm_ctok.proofs.joining.Pending.join.Goals as goal

pub returns-clause-ok : goal.returns-clause-ok
unfolding joined
returns-clause-ok c =
    let values = c.in_ok-append_literal.ensures.ok in
    let trail : c.in_ok-copy.field-0 ≡ common c.args.self.trail c.args.token.now.trail = c.in_ok-copy.ensures ∙ common-is _ _ _ c.common.ensures in
    let bytes = values.2 in
    (literal_of c.args.token.now values.0, values.1, cc)
