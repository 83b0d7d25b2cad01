-- Each operator does what it does with its operands.
use Rattle.std.proofs.Common.{map, subst}
use Rattle.dm_operate.specs.Operators.{Stands}
use Rattle.dm_value.specs.Places.{view_of_at}
use Rattle.dm_operate.proofs.perform.performed.Goals as goal

pub returns-in-Decay-clause-did : goal.returns-in-Decay-clause-did
returns-in-Decay-clause-did c = λ label stands names.
    c.on_decay.ensures label (map view_of_at c.args.locks.now) (subst (λ o. Stands c.args.layout.now o label) c.in-Decay.is stands) names

pub returns-in-Member-clause-did : goal.returns-in-Member-clause-did
returns-in-Member-clause-did c = λ label stands names.
    c.on_member.ensures label (map view_of_at c.args.locks.now) (subst (λ o. Stands c.args.layout.now o label) c.in-Member.is stands) names

pub returns-in-Value-clause-did : goal.returns-in-Value-clause-did
returns-in-Value-clause-did c = λ label stands names.
    c.on_value.ensures label (map view_of_at c.args.locks.now) (subst (λ o. Stands c.args.layout.now o label) c.in-Value.is stands) names

pub returns-in-Place-clause-did : goal.returns-in-Place-clause-did
returns-in-Place-clause-did c = λ label stands names.
    c.on_place.ensures.did label (subst (λ o. Stands c.args.layout.now o label) c.in-Place.is stands) names

pub returns-in-Binary-clause-did : goal.returns-in-Binary-clause-did
returns-in-Binary-clause-did c = λ label stands names.
    c.on_both.ensures label (map view_of_at c.args.locks.now) (subst (λ o. Stands c.args.layout.now o label) c.in-Binary.is stands) names

pub returns-in-Store-clause-did : goal.returns-in-Store-clause-did
returns-in-Store-clause-did c = λ label stands names.
    c.on_store.ensures.did label (subst (λ o. Stands c.args.layout.now o label) c.in-Store.is stands) names

pub returns-in-Update-clause-did : goal.returns-in-Update-clause-did
returns-in-Update-clause-did c = λ label stands names.
    c.on_update.ensures.did label (subst (λ o. Stands c.args.layout.now o label) c.in-Update.is stands) names
