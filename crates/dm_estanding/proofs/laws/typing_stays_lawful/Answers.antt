use Rattle.std.proofs.Common.{subst}
use Rattle.dm_syn.specs.Spans.{expr_span}
use Rattle.dm_eexpr.proofs.KeepLemmas.{Keeps, KeepsIn, expr-keeps, specifiers-keep, steps-keep}
use Rattle.dm_estanding.proofs.LawfulLemmas.{knowing-lawful}
use Rattle.dm_estanding.proofs.laws.typing_stays_lawful.Goals as goal

pub returns-clause-expressions : goal.returns-clause-expressions
returns-clause-expressions c = λ setting used expr standing behind tree lawful below is.
    let keeps : Keeps standing.known behind = (subst (KeepsIn standing.known) is (expr-keeps setting used standing.known (expr_span expr) expr)).leads in
    knowing-lawful standing behind keeps.adds below lawful

pub returns-clause-specifiers : goal.returns-clause-specifiers
returns-clause-specifiers c = λ setting used stands alone specifiers standing behind type lawful below is.
    let keeps : Keeps standing.known behind = (subst (KeepsIn standing.known) is (specifiers-keep setting used stands alone standing.known specifiers)).leads in
    knowing-lawful standing behind keeps.adds below lawful

pub returns-clause-declarators : goal.returns-clause-declarators
returns-clause-declarators c = λ setting used declarator standing behind steps lawful below is.
    let keeps : Keeps standing.known behind = (subst (KeepsIn standing.known) is (steps-keep setting used standing.known declarator)).leads in
    knowing-lawful standing behind keeps.adds below lawful
