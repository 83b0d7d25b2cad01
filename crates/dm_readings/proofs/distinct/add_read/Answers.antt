use Rattle.std.proofs.Common.{◌+◌, ◌∷◌, map, fold, drop, ap, sym, ◌∙◌}
use Rattle.std.proofs.lemmas.List.{at_drop_more, at_drop_all}
use Rattle.dm_token.specs.declared.unit.Read.{Read}
use Rattle.dm_readings.specs.Definitions.{once_more, in_files}
use Rattle.dm_readings.proofs.SiteLemmas.{read-more}
use Rattle.dm_readings.proofs.distinct.add_read.Goals as goal

pub loop-one-preserved : goal.loop-one-preserved
loop-one-preserved c =
    let read = c.args.read.now in
    let at = c.loop-one.one-index in
    let one = c.one-item.result in
    let rest = drop (at + 1) read in
    let found = map (λ one. one.now) c.loop-one.found.items in
    record {
      sites = c.in_ok-add.ensures.sites;
      all = ap (λ ds. fold once_more ds (in_files rest)) c.in_ok-add.ensures.found ∙ sym (read-more one rest found)
          ∙ ap (λ (other : Read). fold once_more found (in_files (other ∷ rest))) c.one-item.is
          ∙ sym (at_drop_more (λ rs. fold once_more found (in_files rs)) read at one c.loop-one-test.true) ∙ c.loop-one.invariant.all;
    }

pub returns-clause-found : goal.returns-clause-found
returns-clause-found c =
    sym (at_drop_all (λ rs. fold once_more (map (λ one. one.now) c.loop-one.found.items) (in_files rs)) c.args.read.now c.loop-one.one-index c.loop-one-test.false) ∙ c.loop-one.invariant.all
