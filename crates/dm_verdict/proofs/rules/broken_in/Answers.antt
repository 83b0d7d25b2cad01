-- The one unit is that of the index.
use Rattle.std.proofs.Common.{List, sym, ap, ◌∙◌}
use Rattle.dm_reading.specs.declared.reading.Reading.{Reading}
use Rattle.dm_rules.specs.declared.index.Index.{Index}
use Rattle.dm_rules.specs.Indexes.{readings_of}
use Rattle.dm_rules.specs.Rules.{broken_directive}
use Rattle.dm_judge.specs.Rules.{broken_first, rules_from_5}
use Rattle.dm_verdict.proofs.RuleLemmas.{directive-broken, later-broken, nothing-broken}
use Rattle.dm_verdict.proofs.rules.broken_in.Goals as goal

pub returns-in-Some : goal.returns-in-Some
returns-in-Some c =
    let definition = c.args.definition.now in
    directive-broken definition c.args.index.now.reading.now c.in-Some.place
    (sym c.in-Some.is ∙ c.broken_directive.ensures ∙ ap (λ (units : List Index). broken_directive definition (readings_of units)) c.from_ref.ensures.value)

pub returns-then-not-reads : goal.returns-then-not-reads
returns-then-not-reads c =
    let definition = c.args.definition.now in
    nothing-broken definition c.args.index.now.reading.now
    (sym c.in_default.is ∙ c.broken_directive.ensures ∙ ap (λ (units : List Index). broken_directive definition (readings_of units)) c.from_ref.ensures.value)
    (sym c.reads.ensures ∙ c.if-not-reads.true)

pub returns : goal.returns
returns c =
    let definition = c.args.definition.now in
    later-broken definition c.args.index.now.reading.now
    (sym c.in_default.is ∙ c.broken_directive.ensures ∙ ap (λ (units : List Index). broken_directive definition (readings_of units)) c.from_ref.ensures.value)
    (sym c.reads.ensures ∙ c.if-not-reads.false) c.in_ok-broken.broken
    (c.in_ok-broken.ensures.broken ∙ ap (λ (readings : List Reading). broken_first (rules_from_5 definition readings)) c.requires.alone)
