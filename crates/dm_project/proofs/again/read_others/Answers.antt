-- The units that are left come behind those that were read.
use Rattle.std.proofs.Common.{◌+◌, ◌<◌, None, Some, drop, sym, ◌∙◌, subst, arith}
use Rattle.dm_token.specs.declared.stop.Stop.TheVariants.{Memory}
use Rattle.dm_readings.specs.Again.{reader_count}
use Rattle.dm_readings.proofs.LeaveLemmas.{known-trans, wanted-handed}
use Rattle.dm_project.proofs.UnitLemmas.{cut}
use Rattle.dm_project.proofs.AgainLemmas.{others-go, count-go}
use Rattle.dm_project.proofs.again.read_others.Goals as goal

pub loop-at-preserved : goal.loop-at-preserved
loop-at-preserved g c =
    let inv = c.loop-at.invariant in
    let units = c.args.units.now in
    let kept = c.args.kept.now in
    let at = c.loop-at.at in
    let unit = c.index-units-at.result in
    let reading = c.index-kept-at.result in
    let first = cut units at unit c.loop-at-test.true c.index-units-at.is in
    let one = cut kept at reading (subst (λ n. at < n) (sym c.requires.paired) c.loop-at-test.true) c.index-kept-at.is in
    record {
      counted = count-go c.args.file kept (drop at kept) (drop (at + 1) kept) reading one c.loop-at.readings c.read_other.new.readings (c.args.readings.now + reader_count c.args.file (drop c.args.start kept)) inv.counted c.in_ok-read_other.ensures.counted;
      rises = omega (arith, inv.rises, c.in_ok-read_other.ensures.counted);
      leaves = known-trans None inv.leaves c.in_ok-read_other.ensures.leaves;
      leads = λ files have last others.
          inv.leads files have last
          (others-go files c.args.file unit (drop (at + 1) units) reading (drop (at + 1) kept) (drop at units) (drop at kept) first one 0 c.loop-at.loader c.read_other.new.loader last
          (c.in_ok-read_other.ensures.read files (inv.leaves.files_stay ∙ have)) others);
    }

pub returns-in_err-read_other-clause-leaves : goal.returns-in_err-read_other-clause-leaves
returns-in_err-read_other-clause-leaves g c =
    wanted-handed c.from_residual.result _ c.from_residual.ensures.1 (known-trans (Some Memory) c.loop-at.invariant.leaves c.in_err-read_other.ensures.leaves)
