-- The units that are left come behind those that were read.
use Rattle.std.proofs.Common.{◌≡◌, ◌+◌, ◌∷◌, ◌++◌, [], All, length, drop, ap, sym, ◌∙◌, subst, Ok, Err, Some, None, arith}
use Rattle.std.proofs.lemmas.List.{length-append}
use Rattle.std.proofs.lemmas.List.Elements.{All-push}
use Rattle.dm_token.specs.declared.stop.Stop.TheVariants.{Memory}
use Rattle.dm_reading.specs.Layered.{IsLayered}
use Rattle.dm_readings.specs.Units.{IsTyped, ending, stopped, behind, token_count, ReadsNext, ReadsUnits}
use Rattle.dm_readings.proofs.LeaveLemmas.{leaves-handed, leaves-trans}
use Rattle.dm_project.proofs.UnitLemmas.{all_behind, one-more, all-given, stopped-behind, cut, token_count-push, units-go, units-stop, units-end, next-memory, ended-with}
use Rattle.dm_project.proofs.units.read_all.Goals as goal

pub returns-in_err-push-in-Ok-clause-units : goal.returns-in_err-push-in-Ok-clause-units
returns-in_err-push-in-Ok-clause-units g c = λ files have.
    let inv = c.loop-unit.invariant in
    let unit = c.unit-item.result in
    let here = cut c.args.units.now c.loop-unit.unit-index unit c.loop-unit-test.true c.unit-item.is in
    let new = c.read_next.new.loader in
    let reads = inv.leads files have (stopped Memory new) (units-stop files c.args.units.now c.loop-unit.unit-index unit c.loop-unit.spent c.loop-unit.loader Memory new here (next-memory files unit c.loop-unit.spent c.loop-unit.loader new)) in (
      length c.loop-unit.given + 1,
      omega (arith, c.in-Ok.ensures.counted, inv.counted, inv.given),
      subst (ReadsUnits files c.args.units.now 0 c.args.loader.now)
          (stopped-behind c.loop-unit.given Memory new ∙ ended-with c.from_residual.result Memory (length c.loop-unit.given + 1) new c.from_residual.ensures.1) reads,
    )

pub returns-in_err-push-in-Ok-clause-leaves : goal.returns-in_err-push-in-Ok-clause-leaves
returns-in_err-push-in-Ok-clause-leaves g c =
    leaves-handed c.from_residual.result c.from_residual.ensures.1
    (leaves-trans (g.F.Folder.files c.args.folder.now) (g.F.Folder.files c.loop-unit.folder) (g.F.Folder.files c.read_next.new.folder) (g.F.Folder.room c.args.folder.now) (g.F.Folder.room c.loop-unit.folder) (g.F.Folder.room c.read_next.new.folder)
    (g.F.Folder.faults c.args.folder.now) (g.F.Folder.faults c.loop-unit.folder) (g.F.Folder.faults c.read_next.new.folder) c.args.loader.now c.loop-unit.loader c.read_next.new.loader None
    c.loop-unit.invariant.leaves c.in-Ok.ensures.leaves)

pub returns-in-Err-clause-units : goal.returns-in-Err-clause-units
returns-in-Err-clause-units g c = λ files have.
    let inv = c.loop-unit.invariant in
    let unit = c.unit-item.result in
    let here = cut c.args.units.now c.loop-unit.unit-index unit c.loop-unit-test.true c.unit-item.is in
    let new = c.read_next.new.loader in
    let next : ReadsNext files unit c.loop-unit.spent c.loop-unit.loader (Err c.in-Err.stop) new = c.in-Err.ensures.next files (inv.leaves.files_stay ∙ have) in
    let reads = inv.leads files have (stopped c.in-Err.stop new) (units-stop files c.args.units.now c.loop-unit.unit-index unit c.loop-unit.spent c.loop-unit.loader c.in-Err.stop new here next) in (
      length c.loop-unit.given + 1,
      omega (arith, c.in-Err.ensures.counted, inv.counted, inv.given),
      subst (ReadsUnits files c.args.units.now 0 c.args.loader.now) (stopped-behind c.loop-unit.given c.in-Err.stop new) reads,
    )

pub returns-in-Err-clause-leaves : goal.returns-in-Err-clause-leaves
returns-in-Err-clause-leaves g c =
    leaves-trans (g.F.Folder.files c.args.folder.now) (g.F.Folder.files c.loop-unit.folder) (g.F.Folder.files c.read_next.new.folder) (g.F.Folder.room c.args.folder.now) (g.F.Folder.room c.loop-unit.folder) (g.F.Folder.room c.read_next.new.folder)
    (g.F.Folder.faults c.args.folder.now) (g.F.Folder.faults c.loop-unit.folder) (g.F.Folder.faults c.read_next.new.folder) c.args.loader.now c.loop-unit.loader c.read_next.new.loader (Some c.in-Err.stop)
    c.loop-unit.invariant.leaves c.in-Err.ensures.leaves

pub loop-unit-preserved : goal.loop-unit-preserved
loop-unit-preserved g c =
    let inv = c.loop-unit.invariant in
    let unit = c.unit-item.result in
    let reading = c.in-Ok.reading in
    let here = cut c.args.units.now c.loop-unit.unit-index unit c.loop-unit-test.true c.unit-item.is in
    let pushed = c.in_ok-push-in-Ok.ensures.ok in
    let one = token_count-push c.loop-unit.given reading in
    let counted : c.loop-unit.spent + c.len-spent.result ≡ token_count (c.loop-unit.given ++ reading ∷ []) = omega (arith, inv.spent, c.len-spent.ensures, one) in
    record {
      spent = counted ∙ ap token_count (sym pushed);
      within = omega (arith, c.in-Ok.ensures.within, c.len-spent.ensures);
      given = ap length pushed ∙ length-append c.loop-unit.given (reading ∷ []) ∙ ap (λ n. n + 1) inv.given;
      counted = omega (arith, c.in-Ok.ensures.counted, inv.counted);
      layers = subst (All IsLayered) (sym pushed) (All-push IsLayered c.loop-unit.given reading inv.layers c.in-Ok.ensures.layers);
      typed = subst (All IsTyped) (sym pushed) (All-push IsTyped c.loop-unit.given reading inv.typed c.in-Ok.ensures.well_typed);
      leaves =
          leaves-trans (g.F.Folder.files c.args.folder.now) (g.F.Folder.files c.loop-unit.folder) (g.F.Folder.files c.read_next.new.folder) (g.F.Folder.room c.args.folder.now) (g.F.Folder.room c.loop-unit.folder) (g.F.Folder.room c.read_next.new.folder)
          (g.F.Folder.faults c.args.folder.now) (g.F.Folder.faults c.loop-unit.folder) (g.F.Folder.faults c.read_next.new.folder) c.args.loader.now c.loop-unit.loader c.read_next.new.loader None
          inv.leaves c.in-Ok.ensures.leaves;
      leads = λ files have rest others.
          let next : ReadsNext files unit c.loop-unit.spent c.loop-unit.loader (Ok reading) c.read_next.new.loader = c.in-Ok.ensures.next files (inv.leaves.files_stay ∙ have) in
          let spent = subst (λ n. ReadsUnits files (drop (c.loop-unit.unit-index + 1) c.args.units.now) (c.loop-unit.spent + n) c.read_next.new.loader rest) c.len-spent.ensures others in
          subst (ReadsUnits files c.args.units.now 0 c.args.loader.now) (sym (one-more c.loop-unit.given reading rest) ∙ ap (λ given. all_behind given rest) (sym pushed))
          (inv.leads files have (behind reading rest)
          (units-go files c.args.units.now c.loop-unit.unit-index unit c.loop-unit.spent c.loop-unit.loader reading c.read_next.new.loader rest here next spent));
    }

pub returns-clause-units : goal.returns-clause-units
returns-clause-units g c = λ files have.
    let inv = c.loop-unit.invariant in (
      length c.loop-unit.given,
      omega (arith, inv.counted, inv.given),
      subst (ReadsUnits files c.args.units.now 0 c.args.loader.now) (all-given c.loop-unit.given c.loop-unit.loader)
          (inv.leads files have (ending (Ok []) 0 c.loop-unit.loader) (units-end files c.args.units.now c.loop-unit.unit-index c.loop-unit.spent c.loop-unit.loader c.loop-unit-test.false)),
    )
