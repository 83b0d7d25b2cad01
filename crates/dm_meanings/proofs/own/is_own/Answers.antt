-- The token has its place behind the first.
use Rattle.std.proofs.Common.{◌-◌, ap, ◌∙◌, arith}
use Rattle.dm_meanings.specs.Captures.{is_own}
use Rattle.dm_meanings.proofs.own.is_own.Goals as goal

pub returns : goal.returns
returns c =
    let first = c.args.run.now.span.first in
    c.requires.own.own (c.args.at - first) (omega (arith, c.requires.own.long, c.requires.behind, c.requires.before)) ∙ ap (is_own c.args.run.now) (omega (arith, c.requires.behind))
