-- One more stands behind the others of its definition.
use Rattle.std.proofs.Common.{◌++◌, ◌∷◌, [], cond, get_or, ap, ◌∙◌}
use Rattle.std.proofs.lemmas.List.{take_all}
use Rattle.dm_token.specs.declared.unit.Read.{Read}
use Rattle.dm_runs.specs.Runs.{is_at}
use Rattle.dm_runs.specs.Spans.{positions}
use Rattle.dm_rules.proofs.ListLemmas.{more-positions}
use Rattle.dm_rules.proofs.listing.readings.Goals as goal

pub loop-number-preserved : goal.loop-number-preserved
loop-number-preserved c = λ file hash.
    let test = λ (one : Read). is_at file hash one.definition in
    let i = c.loop-number.number in
    c.in_ok-found.ensures file hash
    ∙ ap (λ found. found ++ cond (test (get_or c.args.read.now i c.index-read-number.result)) (i ∷ []) []) (c.loop-number.invariant file hash)
    ∙ more-positions test c.args.read.now i c.index-read-number.result c.loop-number-test.true

pub returns : goal.returns
returns c = λ file hash.
    c.loop-number.invariant file hash
    ∙ ap (positions (λ (one : Read). is_at file hash one.definition) 0) (take_all c.loop-number.number c.args.read.now c.loop-number-test.false)
