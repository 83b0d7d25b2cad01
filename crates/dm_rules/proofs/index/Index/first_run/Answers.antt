-- The first expansion is the first one that passes.
use Rattle.std.proofs.Common.{List, sym, ap, ◌∙◌, find}
use Rattle.std.specs.Prelude.{option_and_then}
use Rattle.std.specs.Option.{option_copied}
use Rattle.dm_token.specs.declared.expansion.Expansion.{Expansion}
use Rattle.dm_runs.specs.declared.run.Run.{Run}
use Rattle.dm_rules.specs.Uses.{is_expansion, is_run_of, runs_in}
use Rattle.dm_rules.proofs.ListLemmas.{first-run}
use Rattle.dm_rules.proofs.index.Index.first_run.Goals as goal

pub returns-in-None : goal.returns-in-None
returns-in-None c =
    let reading = c.args.self.now.reading.now in
    let runs = runs_in c.args.definition.now reading in
    let run = λ (one : Expansion). find (is_run_of one) runs in
    ap (λ found. option_and_then run (option_copied found)) (sym c.in-None.is) ∙ ap (option_and_then run) c.first_expansion.ensures
    ∙ sym (first-run runs (is_expansion c.args.definition.now reading.pp.read) reading.pp.expansions)

pub returns-in-Some : goal.returns-in-Some
returns-in-Some c =
    let reading = c.args.self.now.reading.now in
    let runs = runs_in c.args.definition.now reading in
    let run = λ (one : Expansion). find (is_run_of one) runs in
    c.run_of.ensures ∙ ap (λ (runs : List Run). find (is_run_of c.in-Some.one.now) runs) c.runs_of.ensures
    ∙ ap (λ found. option_and_then run (option_copied found)) (sym c.in-Some.is) ∙ ap (option_and_then run) c.first_expansion.ensures
    ∙ sym (first-run runs (is_expansion c.args.definition.now reading.pp.read) reading.pp.expansions)
