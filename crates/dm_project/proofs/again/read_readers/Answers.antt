-- The units that are left come behind those that were read again.
use Rattle.std.proofs.Common.{◌+◌, ◌<◌, ◌≤◌, [], None, Some, Ok, Err, IfSome, All, Option, Result, length, drop, sym, ap, ◌∙◌, subst, arith}
use Rattle.std.proofs.lemmas.List.Elements.{All-push}
use Rattle.dm_token.specs.declared.stop.Stop.{Stop}
use Rattle.dm_token.specs.declared.stop.Stop.TheVariants.{Memory}
use Rattle.dm_reading.specs.declared.reading.Reading.{Reading}
use Rattle.dm_reading.specs.Layered.{IsLayered}
use Rattle.dm_readings.specs.Again.{ReadsAgain, reader_count}
use Rattle.dm_readings.specs.Units.{IsTyped, most_project_tokens}
use Rattle.dm_readings.proofs.LeaveLemmas.{known-trans, known-behind, known-handed, known-memory, known-wanted}
use Rattle.dm_project.proofs.UnitLemmas.{cut}
use Rattle.dm_project.proofs.AgainLemmas.{News, before-none, again-on, again-stop, again-end, count-go, count-end, tokens-go, tokens-end, readers-go, readers-end, memory-handed, none-handed}
use Rattle.dm_project.proofs.again.read_readers.Goals as goal

pub loop-at-preserved : goal.loop-at-preserved
loop-at-preserved g c =
    let inv = c.loop-at.invariant in
    let units = c.args.units.now in
    let kept = c.args.kept.now in
    let at = c.loop-at.at in
    let news = c.loop-at.news in
    let new = c.in-Ok.new in
    let unit = c.index-units-at.result in
    let reading = c.index-kept-at.result in
    let first = cut units at unit c.loop-at-test.true c.index-units-at.is in
    let one = cut kept at reading (subst (λ n. at < n) (sym c.requires.paired) c.loop-at-test.true) c.index-kept-at.is in
    let pushed = c.in_ok-push-in-Ok.ensures.ok in
    let size = c.len-spent.ensures ∙ ap (λ (r : Reading). length r.pp.tokens) c.newest.ensures in
    record {
      spent = tokens-go c.args.file kept (drop at kept) (drop (at + 1) kept) reading one c.loop-at.spent c.len-spent.result news _ new size pushed inv.spent;
      within = omega (arith, size, c.in-Ok.ensures.within);
      readers = readers-go c.args.file kept (drop at kept) (drop (at + 1) kept) reading one news _ new pushed inv.readers c.in-Ok.ensures.reader;
      counted = count-go c.args.file kept (drop at kept) (drop (at + 1) kept) reading one c.loop-at.readings c.read_next_again.new.readings (c.args.readings.now + reader_count c.args.file kept) inv.counted c.in-Ok.ensures.counted;
      rises = omega (arith, inv.rises, c.in-Ok.ensures.counted);
      layers = subst (All (λ (new : Option Reading). IfSome new IsLayered)) (sym pushed) (All-push (λ (new : Option Reading). IfSome new IsLayered) news new inv.layers c.in-Ok.ensures.layers);
      typed = subst (All (λ (new : Option Reading). IfSome new IsTyped)) (sym pushed) (All-push (λ (new : Option Reading). IfSome new IsTyped) news new inv.typed c.in-Ok.ensures.well_typed);
      leaves = known-trans None inv.leaves c.in-Ok.ensures.leaves;
      leads = λ files have.
          again-on files c.args.file unit (drop (at + 1) units) reading (drop (at + 1) kept) (drop at units) (drop at kept) first one c.loop-at.spent c.loop-at.loader units kept c.args.loader.now news _ new
          c.read_next_again.new.loader c.len-spent.result (inv.leads files have) (c.in-Ok.ensures.next files (inv.leaves.files_stay ∙ have)) size pushed;
    }

pub returns-clause-again : goal.returns-clause-again
returns-clause-again g c = λ files have not.
    let inv = c.loop-at.invariant in
    let kept = c.args.kept.now in
    subst (λ (result : Result News Stop). ReadsAgain files c.args.file c.args.units.now kept 0 c.args.loader.now result c.loop-at.loader) (before-none c.loop-at.news)
    (inv.leads files have (Ok []) c.loop-at.loader (again-end files c.args.file c.args.units.now (drop c.loop-at.at kept) c.loop-at.at c.loop-at.spent c.loop-at.loader c.loop-at-test.false))

pub returns-clause-counted : goal.returns-clause-counted
returns-clause-counted g c = λ not.
    let inv = c.loop-at.invariant in
    let none = count-end c.args.file c.loop-at.at c.args.kept.now (subst (λ n. n ≤ c.loop-at.at) (sym c.requires.paired) c.loop-at-test.false) in
    omega (arith, inv.counted, none)

pub returns-clause-readers : goal.returns-clause-readers
returns-clause-readers g c =
    readers-end c.args.file c.loop-at.at c.args.kept.now c.loop-at.news (subst (λ n. n ≤ c.loop-at.at) (sym c.requires.paired) c.loop-at-test.false) c.loop-at.invariant.readers

pub returns-clause-within : goal.returns-clause-within
returns-clause-within g c =
    let inv = c.loop-at.invariant in
    subst (λ n. n ≤ most_project_tokens)
    (tokens-end c.loop-at.spent c.loop-at.at c.args.kept.now c.loop-at.news (subst (λ n. n ≤ c.loop-at.at) (sym c.requires.paired) c.loop-at-test.false) (inv.spent []))
    inv.within

-- memory is wanted for the list
pub returns-in_err-push-in-Ok-clause-leaves : goal.returns-in_err-push-in-Ok-clause-leaves
returns-in_err-push-in-Ok-clause-leaves g c =
    known-handed c.from_residual.result Memory c.from_residual.ensures.1 (known-wanted None (known-trans None c.loop-at.invariant.leaves c.in-Ok.ensures.leaves))

-- memory is wanted by the unit
pub returns-in_err-want_of_memory-in-Err-clause-leaves : goal.returns-in_err-want_of_memory-in-Err-clause-leaves
returns-in_err-want_of_memory-in-Err-clause-leaves g c =
    known-handed c.from_residual-in_err-want_of_memory-in-Err.result Memory c.from_residual-in_err-want_of_memory-in-Err.ensures.1 (known-wanted (Some c.in-Err.stop) (known-trans (Some c.in-Err.stop) c.loop-at.invariant.leaves c.in-Err.ensures.leaves))

-- memory is wanted behind a stop
pub returns-in_err-read_others-in-Err : goal.returns-in_err-read_others-in-Err
returns-in_err-read_others-in-Err g c =
    let inv = c.loop-at.invariant in
    let kept = c.args.kept.now in
    let at = c.loop-at.at in
    let reading = c.index-kept-at.result in
    let one = cut kept at reading (subst (λ n. at < n) (sym c.requires.paired) c.loop-at-test.true) c.index-kept-at.is in
    let start = c.args.readings.now + reader_count c.args.file kept in
    let went = count-go c.args.file kept (drop at kept) (drop (at + 1) kept) reading one c.loop-at.readings c.read_next_again.new.readings start inv.counted c.in-Err.ensures.counted in
    let result = c.from_residual-in_err-read_others-in-Err.result in
    let handed = c.from_residual-in_err-read_others-in-Err.ensures.1 in
    let first = known-trans (Some c.in-Err.stop) inv.leaves c.in-Err.ensures.leaves in
    record {
      again = λ files have not. memory-handed result handed not;
      counted = λ not. memory-handed result handed not;
      at_most = (omega (arith, inv.rises, c.in-Err.ensures.counted, c.read_others.ensures.at_most.0), omega (arith, went, c.read_others.ensures.at_most.1));
      readers = none-handed _ result Memory handed;
      within = none-handed _ result Memory handed;
      layers = none-handed _ result Memory handed;
      well_typed = none-handed _ result Memory handed;
      leaves = known-handed result Memory handed (known-memory (Some c.in-Err.stop) (Some Memory) first c.in_err-read_others-in-Err.ensures.leaves);
    }

-- behind a stop the others are read
pub returns-in-Err : goal.returns-in-Err
returns-in-Err g c =
    let inv = c.loop-at.invariant in
    let units = c.args.units.now in
    let kept = c.args.kept.now in
    let at = c.loop-at.at in
    let stop = c.in-Err.stop in
    let unit = c.index-units-at.result in
    let reading = c.index-kept-at.result in
    let first = cut units at unit c.loop-at-test.true c.index-units-at.is in
    let one = cut kept at reading (subst (λ n. at < n) (sym c.requires.paired) c.loop-at-test.true) c.index-kept-at.is in
    let start = c.args.readings.now + reader_count c.args.file kept in
    let went = count-go c.args.file kept (drop at kept) (drop (at + 1) kept) reading one c.loop-at.readings c.read_next_again.new.readings start inv.counted c.in-Err.ensures.counted in
    let others = c.in_ok-read_others-in-Err.ensures in
    record {
      again = λ files have not.
          inv.leads files have (Err stop) c.read_others.new.loader
          (again-stop files c.args.file unit (drop (at + 1) units) reading (drop (at + 1) kept) (drop at units) (drop at kept) first one c.loop-at.spent c.loop-at.loader stop c.read_next_again.new.loader c.read_others.new.loader
          (c.in-Err.ensures.next files (inv.leaves.files_stay ∙ have)) (others.others files (c.in-Err.ensures.leaves.files_stay ∙ inv.leaves.files_stay ∙ have)));
      counted = λ not. others.counted ∙ went;
      at_most = (omega (arith, inv.rises, c.in-Err.ensures.counted, others.counted), omega (arith, went, others.counted));
      readers = tt;
      within = tt;
      layers = tt;
      well_typed = tt;
      leaves = known-behind (Some stop) (known-trans (Some stop) inv.leaves c.in-Err.ensures.leaves) others.leaves;
    }
