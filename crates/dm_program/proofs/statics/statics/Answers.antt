-- One external declaration after the other.
use Rattle.std.proofs.Common.{◌≡◌, length, rules}
use Rattle.dm_program.proofs.StaticsLemmas.{gathered-more, gathered-all}
use Rattle.dm_program.proofs.statics.statics.Goals as goal

pub loop-external-preserved : goal.loop-external-preserved
loop-external-preserved c =
    gathered-more c.args.unit.now c.loop-external.left.now c.in-Some.external.now c.in-Some.rest.now c.loop-external.gathering c.external.new.self c.in-Some.ensures.cases.0 c.in_ok-external.ensures
    c.loop-external.invariant

pub returns : goal.returns
returns c = λ table typed.
    let none : length c.loop-external.left.now ≡ 0 = search rules in
    gathered-all (record { table = table; unit = c.args.unit.now }) c.loop-external.left.now c.loop-external.gathering none typed c.loop-external.invariant
