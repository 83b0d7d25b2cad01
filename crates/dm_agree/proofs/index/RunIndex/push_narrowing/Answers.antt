-- One pair less.
use Rattle.std.proofs.Common.{◌++◌, flat_map, arith}
use Rattle.dm_agree.specs.Runs.{runs_in}
use Rattle.dm_agree.specs.Standing.{narrowing, runs_with}
use Rattle.dm_agree.proofs.StandingLemmas.{narrowed, narrowest}
use Rattle.dm_agree.proofs.index.RunIndex.push_narrowing.Goals as goal

pub loop-left-preserved : goal.loop-left-preserved
loop-left-preserved c =
    let W = runs_with c.args.self.now in
    let some = c.loop-left-test.true in
    narrowed W c.args.inner c.loop-left.left (runs_in c.loop-left.found.items) (runs_in c.push_widened.new.found.items) (runs_in c.args.found.now.items ++ flat_map W (narrowing c.args.inner c.args.pairs))
    (omega (arith, some)) c.loop-left.invariant c.in_ok-push_widened.ensures

pub returns : goal.returns
returns c =
    let W = runs_with c.args.self.now in
    let none = c.loop-left-test.false in
    narrowest W c.args.inner c.loop-left.left (runs_in c.loop-left.found.items) (runs_in c.push_widened-2.new.found.items) (runs_in c.args.found.now.items ++ flat_map W (narrowing c.args.inner c.args.pairs))
    (omega (arith, none)) c.loop-left.invariant c.in_ok-push_widened-2.ensures
