-- None is found.
use Rattle.std.proofs.Common.{rules, ◌≡◌, ◌↔◌, IsTrue, List, [], length, subst}
use Rattle.dm_runs.specs.declared.run.Run.{Run}
use Rattle.dm_agree.proofs.AgreeLemmas.{none-found}
use Rattle.dm_agree.proofs.StepLemmas.{through}
use Rattle.dm_agree.proofs.agree.no_run_stands_below.Goals as goal

pub returns : goal.returns
returns c types =
    let says : IsTrue c.is_empty.result ↔ (length c.in_ok-runs.runs.items ≡ 0) = search rules in
    through says (subst (λ (runs : List Run). (length c.in_ok-runs.runs.items ≡ 0) ↔ (runs ≡ [])) (c.in_ok-runs.ensures types) (none-found c.in_ok-runs.runs.items))
