use Rattle.std.proofs.Common.{ap, ◌∙◌, map, arith, ◌∷◌, [], length, length-append}
use Rattle.indexmap.proofs.ReorderLemmas.{map-reverse}
use Rattle.dm_runs.proofs.BeginningLemmas.{lineage-step, lineage-end, map-push}
use Rattle.dm_runs.proofs.beginnings.lineage.Goals as goal

pub loop-rest-preserved : goal.loop-rest-preserved
loop-rest-preserved c =
    let inv = c.loop-rest.invariant in
    let mark = c.in-Some.ensures.0 in
    record {
      within = omega (arith, c.loop-rest-test.true, ap length c.in-Some.ensures.1, length-append c.in-Some.outer.now (mark ∷ []));
      found = lineage-step _ c.in-Some.outer.now mark c.loop-rest.rest.now _ _ c.in-Some.ensures.1
          (ap (map (λ one. one.now)) c.in_ok-push.ensures.items ∙ map-push (λ one. one.now) c.loop-rest.found.items c.loop-rest.rest) inv.found;
    }

pub returns : goal.returns
returns c =
    let inv = c.loop-rest.invariant in
    ap (map (λ one. one.now)) c.reverse.ensures.items ∙ map-reverse (λ one. one.now) c.loop-rest.found.items
    ∙ lineage-end _ c.loop-rest.rest.now _ c.args.shared inv.found (omega (arith, c.loop-rest-test.false, inv.within))
