use Rattle.std.proofs.Common.{◌-◌, arith}
use Rattle.dm_pexpr.specs.Parsing.{all_turns}
use Rattle.dm_pexpr.specs.Parts.{source_of}
use Rattle.dm_pexpr.proofs.DeclaratorNodeLemmas.{one-const, no-const}
use Rattle.dm_pexpr.proofs.reader.Reader.behind_consts.Goals as goal

pub loop-next-preserved : goal.loop-next-preserved
loop-next-preserved c = (
  omega (arith, c.loop-next.invariant.0, c.in-Some.ensures.1),
  one-const _ _ c.args.at c.loop-next.after c.in-Some.next c.loop-next.invariant.0 c.loop-next.invariant.1 c.in-Some.ensures,
  λ h. c.in-Some.ensures.2,
)

pub returns-clause-behind : goal.returns-clause-behind
returns-clause-behind c =
    let none = no-const (source_of c.args.self.now) c.args.scope.now (all_turns (source_of c.args.self.now) - (c.loop-next.after - c.args.at)) c.loop-next.after c.in_default.ensures in
    omega (arith, c.loop-next.invariant.1, none)
