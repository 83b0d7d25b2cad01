use Rattle.std.proofs.Common.{◌+◌, ◌∷◌, List, map, fold, drop, ap, sym, ◌∙◌}
use Rattle.std.specs.List.{flat_map}
use Rattle.std.proofs.lemmas.List.{at_drop_more, at_drop_all}
use Rattle.dm_token.specs.declared.expansion.Definition.{Definition}
use Rattle.dm_token.specs.declared.unit.Read.{Read}
use Rattle.dm_reading.specs.declared.reading.Reading.{Reading}
use Rattle.dm_readings.specs.Definitions.{once_more, in_files}
use Rattle.dm_readings.proofs.SiteLemmas.{unit-more}
use Rattle.dm_readings.proofs.distinct.definitions.Goals as goal

abbrev all_behind : List Definition → List Reading → List Definition
all_behind found readings = fold once_more found (flat_map (λ (reading : Reading). in_files reading.pp.read) readings)

pub loop-reading-preserved : goal.loop-reading-preserved
loop-reading-preserved c =
    let readings = c.args.readings.now in
    let at = c.loop-reading.reading-index in
    let one = c.reading-item.result in
    let rest = drop (at + 1) readings in
    let found = map (λ one. one.now) c.loop-reading.found.items in
    record {
      sites = c.in_ok-add_read.ensures.sites;
      all = ap (λ ds. all_behind ds rest) c.in_ok-add_read.ensures.found ∙ ap (λ (read : List Read). all_behind (fold once_more found (in_files read)) rest) c.items.ensures
          ∙ sym (unit-more one rest found)
          ∙ ap (λ (other : Reading). all_behind found (other ∷ rest)) c.reading-item.is
          ∙ sym (at_drop_more (all_behind found) readings at one c.loop-reading-test.true) ∙ c.loop-reading.invariant.all;
    }

pub returns : goal.returns
returns c =
    sym (at_drop_all (all_behind (map (λ one. one.now) c.loop-reading.found.items)) c.args.readings.now c.loop-reading.reading-index c.loop-reading-test.false) ∙ c.loop-reading.invariant.all
