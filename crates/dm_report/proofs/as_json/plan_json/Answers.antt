use Rattle.std.proofs.Common.{◌≤◌, Some, ap, ◌∙◌, subst, sym}
use Rattle.serde_json.specs.Data.{Data, depth}
use Rattle.serde_json.specs.Read.{max_depth}
use Rattle.serde_json.specs.Written.{has_float, compact_text}
use Rattle.dm_report.proofs.ValueLemmas.{has_float-plan, depth-plan}
use Rattle.dm_report.proofs.as_json.plan_json.Goals as goal

pub returns-clause-text : goal.returns-clause-text
returns-clause-text c =
    let same = c.in_ok-report.ensures in
    c.in_ok-to_string.ensures.text (ap has_float same ∙ has_float-plan c.args.plan.now) ∙ ap compact_text same

pub returns-clause-reads_back : goal.returns-clause-reads_back
returns-clause-reads_back c =
    let same = c.in_ok-report.ensures in
    c.in_ok-to_string.ensures.reads_back (subst (λ (value : Data). depth value ≤ max_depth) (sym same) (depth-plan c.args.plan.now))
    ∙ ap (λ (value : Data). Some value) same
