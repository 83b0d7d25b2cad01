use Rattle.std.proofs.Common.{ap, ◌∙◌, arith}
use Rattle.dm_parentheses.specs.Parentheses.{index_from}
use Rattle.dm_parentheses.proofs.TableLemmas.{distance-is, distance-inside, tokens-length}
use Rattle.dm_parentheses.proofs.ends.Ends.end_inside.Goals as goal

pub returns-in_err-distance-clause-is : goal.returns-in_err-distance-clause-is
returns-in_err-distance-clause-is c =
    c.from_residual.ensures
    ∙ ap (index_from c.args.from) (c.in_err-distance.ensures ∙ distance-is c.self.inside.tokens.items c.args.self.now c.args.from c.self.view_is c.self.invariant)

pub overflow_add-result : goal.overflow_add-result
overflow_add-result c =
    let is = distance-is c.self.inside.tokens.items c.args.self.now c.args.from c.self.view_is c.self.invariant in
    omega (arith, distance-inside c.args.self.now c.args.from c.in_ok-distance.distance (c.in_ok-distance.ensures ∙ is), tokens-length c.self.inside.tokens.items c.args.self.now c.self.view_is, c.self.inside.tokens.small, c.self.inside.tokens.ok)

pub returns-clause-is : goal.returns-clause-is
returns-clause-is c =
    ap (index_from c.args.from) (c.in_ok-distance.ensures ∙ distance-is c.self.inside.tokens.items c.args.self.now c.args.from c.self.view_is c.self.invariant)

pub returns-clause-inside : goal.returns-clause-inside
returns-clause-inside c =
    let is = distance-is c.self.inside.tokens.items c.args.self.now c.args.from c.self.view_is c.self.invariant in
    let inside = distance-inside c.args.self.now c.args.from c.in_ok-distance.distance (c.in_ok-distance.ensures ∙ is) in (
      omega arith,
      inside,
      omega (arith, tokens-length c.self.inside.tokens.items c.args.self.now c.self.view_is, c.self.inside.tokens.small, c.self.inside.tokens.ok),
    )
