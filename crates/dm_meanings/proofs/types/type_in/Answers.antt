-- Of the runs those with other types are noted.
use Rattle.std.proofs.Common.{not, take, ap, subst, ◌∙◌, ◌++◌, ◌∷◌, [], cond}
use Rattle.std.specs.Prelude.{filter}
use Rattle.std.proofs.lemmas.List.{take_all}
use Rattle.dm_runs.specs.declared.run.Run.{Run}
use Rattle.dm_rules.specs.Instances.{AreOf}
use Rattle.dm_meanings.specs.Types.{has_types}
use Rattle.dm_rules.specs.Uses.{first_with}
use Rattle.dm_rules.proofs.ListLemmas.{more-filtered}
use Rattle.dm_meanings.proofs.types.type_in.Goals as goal

pub loop-run-preserved : goal.loop-run-preserved
loop-run-preserved c first is =
    let test = λ (run : Run). not (has_types c.args.definition.now first c.args.unit.now.index.now.reading.now run) in
    let runs = c.runs_of-runs.result.now in
    let i = c.loop-run.run-index in
    subst (λ some. AreOf some c.add_if.new.self)
    (ap (λ keeps. filter test (take i runs) ++ cond (not keeps) (c.run-item.result ∷ []) []) (c.in_ok-keeps.ensures first is)
    ∙ ap (λ run. filter test (take i runs) ++ cond (test run) (run ∷ []) []) c.run-item.is
    ∙ more-filtered test runs i c.run-item.result c.loop-run-test.true)
    (c.in_ok-add_if.ensures (filter test (take i runs)) (c.loop-run.invariant first is))

pub returns : goal.returns
returns c first is =
    let test = λ (run : Run). not (has_types c.args.definition.now first c.args.unit.now.index.now.reading.now run) in
    let runs = c.runs_of-runs.result.now in
    c.first_with.ensures (filter test (take c.loop-run.run-index runs)) (c.loop-run.invariant first is)
    ∙ ap (λ runs. first_with c.args.definition.now (filter test runs) c.args.unit.now.index.now.reading.now) (take_all c.loop-run.run-index runs c.loop-run-test.false ∙ c.runs_of-runs.ensures)
