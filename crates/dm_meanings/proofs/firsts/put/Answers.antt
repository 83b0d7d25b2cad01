-- They are there, and nothing else has changed.
use Rattle.std.proofs.Common.{◌<◌, cond, ◌==◌, length, Option, Some, ap, ◌∙◌, rules}
use Rattle.dm_token.specs.declared.place.Span.{Span}
use Rattle.dm_meanings.proofs.FirstLemmas.{set-at}
use Rattle.dm_meanings.proofs.firsts.put.Goals as goal

pub returns : goal.returns
returns c n =
    let long : c.args.at < length c.grow.new.spans.items = search rules in
    set-at c.grow.new.spans.items c.args.at n c.args.span long ∙ ap (λ (found : Option Span). cond (c.args.at == n) (Some c.args.span) found) (c.in_ok-grow.ensures.same n)
