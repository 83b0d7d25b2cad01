use Rattle.std.proofs.Common.{sym, ap, subst, ◌∙◌, Ok, of_z}
use Rattle.std.specs.Int.{w128}
use Rattle.dm_int.specs.Kinds as kinds
use Rattle.dm_int.specs.Ranges.{value-in_range}
use Rattle.dm_int.specs.Results.{in_range-int_rem}
use Rattle.dm_int.proofs.Wide.{wide_rem, remainder_is}
use Rattle.dm_int.proofs.remainder.Goals as goal

pub returns-then-b-neminus1-clause-answer : goal.returns-then-b-neminus1-clause-answer
returns-then-b-neminus1-clause-answer c =
    let f = c.if-b-neminus1.true in
    ap (λ z. Ok z) (wide_rem c.args.a c.args.b (value-in_range c.args.kind c.args.a c.requires.left) (value-in_range c.args.kind c.args.b c.requires.right))
    ∙ sym (remainder_is c.args.kind c.args.a c.args.b c.requires.left c.requires.right (λ e. c.if-b-eq0.false (ap (of_z w128) e)) (λ e. c.if-b-neminus1.true (ap (of_z w128) e)))

pub returns-then-b-neminus1-clause-in_range : goal.returns-then-b-neminus1-clause-in_range
returns-then-b-neminus1-clause-in_range c =
    subst (λ r. kinds.InRange c.args.kind r) (sym (wide_rem c.args.a c.args.b (value-in_range c.args.kind c.args.a c.requires.left) (value-in_range c.args.kind c.args.b c.requires.right)))
    (in_range-int_rem c.args.kind c.args.a c.args.b c.requires.left)
