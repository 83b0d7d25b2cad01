-- What is said of an edit, by the rules that are broken.
use Rattle.std.proofs.Common.{◌≡◌, refl, ℕ, Option, Some, None, sym, ◌∙◌, subst}
use Rattle.dm_token.specs.declared.place.Place.{Place}
use Rattle.dm_edit.specs.declared.change.Change.{Change}
use Rattle.dm_reading.specs.declared.reading.Reading.{Reading}
use Rattle.dm_alignment.specs.Readings.{AreAlignedReadings}
use Rattle.dm_alignment.specs.declared.alignment.Alignment.{Alignment}
use Rattle.dm_alignment.specs.declared.alignment.Alignment.TheVariants.{Same, Differs}
use Rattle.dm_judge.specs.Rules.{broken_first}
use Rattle.dm_refined.specs.Allowed.{IsAllowed, RefinesWhereRead, rules_in}
use Rattle.dm_verdict.specs.declared.verdict.Verdict.{Verdict}
use Rattle.dm_verdict.specs.declared.verdict.Verdict.TheVariants.{Allowed, Broken}
use Rattle.dm_verdict.specs.Verdicts.{IsVerdict, IsVerdictBy, RefinesIfAllowed}

module _ (old new : Reading) (change : Change) where
  pub verdict-by : (found : Option (ℕ × Place)) (answer : Verdict) → found ≡ broken_first (rules_in change.definition old) → IsVerdictBy old new change found answer → IsVerdict old new change answer
  verdict-by found answer is says = subst (λ (one : Option (ℕ × Place)). IsVerdictBy old new change one answer) is says

not-broken : (rule : ℕ) (place : Place) → Broken rule place ≡ Allowed → ⊥
not-broken rule place e = cc

-- what is allowed breaks no rule, and leaves the readings aligned
allowed-by : (old new : Reading) (change : Change) (found : Option (ℕ × Place)) (answer : Verdict) → IsVerdictBy old new change found answer → answer ≡ Allowed
    → (found ≡ None) × AreAlignedReadings old new change
allowed-by old new change None Allowed says e = (refl, says)
allowed-by old new change None (Broken rule place) says e = absurd (not-broken rule place e)
allowed-by old new change (Some broken) answer says e = absurd (not-broken broken.0 broken.1 (sym says ∙ e))

pub refines-if-allowed : (old new : Reading) (change : Change) (answer : Verdict) → (IsAllowed old new change → RefinesWhereRead old new change) → IsVerdict old new change answer
    → RefinesIfAllowed old new change answer
refines-if-allowed old new change answer refine says e = refine (allowed-by old new change (broken_first (rules_in change.definition old)) answer says e)

pub not-both : (answer : Alignment) → answer ≡ Differs → answer ≡ Same → ⊥
not-both answer differs same = let both : Same ≡ Differs = sym same ∙ differs in cc
