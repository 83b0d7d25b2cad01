use Rattle.std.proofs.Common.{ℕ, [], refl, take, drop, set}
use Rattle.dm_macro.specs.Bodies.{parameters_of}
use Rattle.dm_expand.specs.Works.{parts_from}
use Rattle.dm_expand.proofs.NeedsLemmas.{all-served, unnamed-served}
use Rattle.dm_expand.proofs.needs.take_argument.Goals as goal

pub returns-then-whole-clause-served : goal.returns-then-whole-clause-served
returns-then-whole-clause-served c =
    let definition = c.args.definition.now in
    let parameter : ℕ = c.args.whole.parameter in
    let behind : ℕ = c.args.whole.behind in
    (set c.args.site.now.arguments parameter [], c.in_ok-taken.ensures.left, unnamed-served c.args.site.now (parameters_of definition) parameter (take behind definition.body) (drop behind definition.body) (c.requires c.if-whole.true))

pub returns-clause-served : goal.returns-clause-served
returns-clause-served c = (c.args.site.now.arguments, refl, all-served c.args.site.now (parts_from c.args.definition.now c.args.whole.behind))
