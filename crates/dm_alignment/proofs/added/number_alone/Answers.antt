-- The names are those of the reading.
use Rattle.std.proofs.Common.{◌≡◌, ℕ, List, [], ◌∷◌, subst}
use Rattle.std.specs.Prelude.{IfSome, IfNone}
use Rattle.dm_names.specs.declared.identifier.Entered.{Entered}
use Rattle.dm_names.specs.Meanings as names
use Rattle.dm_meanings.specs.Captures.{source_in}
use Rattle.dm_meanings.specs.Types.{syntax_in}
use Rattle.dm_alignment.specs.Readings.{DeclaresAlone, entered_alone}
use Rattle.dm_alignment.proofs.NameLemmas.{same-entered}
use Rattle.dm_alignment.proofs.added.number_alone.Goals as goal

pub returns-clause-found : goal.returns-clause-found
unfolding DeclaresAlone
returns-clause-found c =
    let unit = c.args.unit.now in
    let reading = unit.reading.now in
    let told = same-entered unit.has_names c.entered.result.now (names.entered_by (source_in reading) (syntax_in reading) c.args.external) (λ are. c.entered.ensures reading.types reading.tokens reading.syntax reading.core are) in
    subst (λ (all : List Entered). IfSome c.number_of_only.result (λ number. all ≡ entered_alone c.args.name.now number ∷ [])) told c.number_of_only.ensures.found

pub returns-clause-none : goal.returns-clause-none
unfolding DeclaresAlone
returns-clause-none c =
    let unit = c.args.unit.now in
    let reading = unit.reading.now in
    let told = same-entered unit.has_names c.entered.result.now (names.entered_by (source_in reading) (syntax_in reading) c.args.external) (λ are. c.entered.ensures reading.types reading.tokens reading.syntax reading.core are) in
    subst (λ (all : List Entered). IfNone c.number_of_only.result ((number : ℕ) → ¬ (all ≡ entered_alone c.args.name.now number ∷ []))) told c.number_of_only.ensures.none
