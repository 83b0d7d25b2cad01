-- A definition that breaks no rule becomes something.
use Rattle.std.proofs.Common.{ℕ, List, Option, IsSome, refl, sym, ap, subst, ◌∙◌}
use Rattle.std.specs.Prelude.{IfNone, option_map}
use Rattle.dm_token.specs.declared.place.Place.{Place}
use Rattle.dm_reading.specs.declared.reading.Reading.{Reading}
use Rattle.dm_rules.specs.Indexes as indexes
use Rattle.dm_meanings.specs.declared.meanings.Meanings.{Meanings}
use Rattle.dm_meanings.specs.First.{readings_of}
use Rattle.dm_judge.specs.declared.proposal.Proposal.TheVariants as proposal
use Rattle.dm_judge.specs.declared.units.Units.{Units}
use Rattle.dm_judge.specs.Proposals.{change_of, proposal_by}
use Rattle.dm_judge.specs.Units as units
use Rattle.dm_judge.specs.Units.{AreReady}
use Rattle.dm_judge.proofs.ProposalLemmas.{change-when-kept}
use Rattle.dm_judge.proofs.SlotLemmas.{same-change}
use Rattle.dm_judge.proofs.proposing.propose_in.Goals as goal

pub unwrap-requires : goal.unwrap-requires
unwrap-requires c =
    let definition = c.args.definition.now in
    let new : Units = c.broken_rule.new.units in
    let there = change-when-kept definition (units.readings_of c.args.units.now) (sym c.in_ok-rule.ensures.broken ∙ c.in_default.is) in
    let ready : AreReady definition new = subst (λ (found : Option (ℕ × Place)). IfNone found (AreReady definition new)) c.in_default.is c.in_ok-rule.ensures.ready in
    subst IsSome
    (sym (c.in_ok-change.ensures ∙ ap (λ (all : List (Option Meanings)). change_of definition (readings_of all)) c.as_slice.ensures.value
    ∙ same-change definition (units.readings_of new) new.meanings.items ready
    ∙ ap (λ all. change_of definition (indexes.readings_of all)) c.in_ok-rule.ensures.indexes ∙ there.1))
    refl

pub returns-clause-proposed : goal.returns-clause-proposed
returns-clause-proposed c =
    let definition = c.args.definition.now in
    let readings : List Reading = units.readings_of c.args.units.now in
    let new : Units = c.broken_rule.new.units in
    let ready : AreReady definition new = subst (λ (found : Option (ℕ × Place)). IfNone found (AreReady definition new)) c.in_default.is c.in_ok-rule.ensures.ready in
    let change =
    c.in_ok-change.ensures ∙ ap (λ (all : List (Option Meanings)). change_of definition (readings_of all)) c.as_slice.ensures.value
    ∙ same-change definition (units.readings_of new) new.meanings.items ready
    ∙ ap (λ all. change_of definition (indexes.readings_of all)) c.in_ok-rule.ensures.indexes in
    ap (λ (broken : Option (ℕ × Place)). proposal_by broken (change_of definition readings)) (sym c.in_ok-rule.ensures.broken ∙ c.in_default.is)
    ∙ ap (option_map proposal.Change) (sym change ∙ c.unwrap.ensures)
