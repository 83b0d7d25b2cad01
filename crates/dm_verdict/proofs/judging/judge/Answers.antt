-- The index is that of the old reading.
use Rattle.std.proofs.Common.{None, refl, sym, ap, ◌∙◌, subst}
use Rattle.dm_reading.specs.declared.reading.Reading.{Reading}
use Rattle.dm_judge.specs.Rules.{broken_first}
use Rattle.dm_refined.specs.Allowed.{rules_in}
use Rattle.dm_verdict.specs.Verdicts.{IsVerdictBy}
use Rattle.dm_verdict.proofs.VerdictLemmas.{refines-if-allowed, verdict-by}
use Rattle.dm_verdict.proofs.judging.judge.Goals as goal

pub returns-in-Some-clause-verdict : goal.returns-in-Some-clause-verdict
returns-in-Some-clause-verdict c =
    verdict-by c.args.old.now c.args.new.now c.args.change.now _ _
    (sym c.in-Some.is ∙ c.in_ok-found.ensures ∙ ap (λ (old : Reading). broken_first (rules_in c.args.change.now.definition old)) c.in_ok-old.ensures) refl

pub returns-in-Some-clause-refines : goal.returns-in-Some-clause-refines
returns-in-Some-clause-refines c =
    refines-if-allowed c.args.old.now c.args.new.now c.args.change.now _ (c.allowed_changes_refine.ensures c.args.old.now c.args.new.now c.args.change.now)
    (returns-in-Some-clause-verdict c)

pub returns-clause-verdict : goal.returns-clause-verdict
returns-clause-verdict c =
    verdict-by c.args.old.now c.args.new.now c.args.change.now None c.in_ok-verdict.verdict
    (sym c.in_default.is ∙ c.in_ok-found.ensures ∙ ap (λ (old : Reading). broken_first (rules_in c.args.change.now.definition old)) c.in_ok-old.ensures)
    (subst (λ (old : Reading). IsVerdictBy old c.args.new.now c.args.change.now None c.in_ok-verdict.verdict) c.in_ok-old.ensures c.in_ok-verdict.ensures)

pub returns-clause-refines : goal.returns-clause-refines
returns-clause-refines c =
    refines-if-allowed c.args.old.now c.args.new.now c.args.change.now c.in_ok-verdict.verdict (c.allowed_changes_refine.ensures c.args.old.now c.args.new.now c.args.change.now)
    (returns-clause-verdict c)
