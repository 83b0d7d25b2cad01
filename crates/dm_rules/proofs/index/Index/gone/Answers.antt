-- The expansions at the positions are those of the definition.
use Rattle.std.proofs.Common.{sym, ap, ◌∙◌, get_or, slice_get, subst}
use Rattle.dm_rules.specs.Instances.{AreOf}
use Rattle.dm_rules.specs.Listing.{first_name, name_if}
use Rattle.dm_rules.specs.Rules.{gone_in, is_gone}
use Rattle.dm_rules.specs.Uses.{runs_in, is_expansion}
use Rattle.dm_rules.proofs.ListLemmas.{first-named, no-name, name-here, name-later}
use Rattle.dm_rules.proofs.index.Index.gone.Goals as goal

pub loop-number-init : goal.loop-number-init
loop-number-init c =
    let reading = c.args.self.now.reading.now in
    let gone = is_gone (runs_in c.args.definition.now reading) in
    ap (first_name gone reading.pp.expansions) c.expansions_of-numbers.ensures ∙ first-named gone (is_expansion c.args.definition.now reading.pp.read) reading.pp.expansions

pub loop-number-preserved : goal.loop-number-preserved
loop-number-preserved c =
    let reading = c.args.self.now.reading.now in
    let runs = runs_in c.args.definition.now reading in
    let numbers = c.expansions_of-numbers.result.now in
    let i = c.loop-number.number-index in
    name-later (is_gone runs) reading.pp.expansions numbers i (gone_in c.args.definition.now reading) c.loop-number.invariant c.loop-number-test.true
    (sym c.in_default.is ∙ c.name_if_gone.ensures runs (subst (λ some. AreOf some c.in_ok-instances.instances) c.runs_of.ensures c.in_ok-instances.ensures)
    ∙ ap (λ all. name_if (is_gone runs) (slice_get all (get_or numbers i 0))) c.items-expansions.ensures)

pub returns-in-Some : goal.returns-in-Some
returns-in-Some c =
    let reading = c.args.self.now.reading.now in
    let runs = runs_in c.args.definition.now reading in
    let numbers = c.expansions_of-numbers.result.now in
    let i = c.loop-number.number-index in
    name-here (is_gone runs) reading.pp.expansions numbers i (gone_in c.args.definition.now reading) c.loop-number.invariant c.loop-number-test.true c.in-Some.place
    (sym c.in-Some.is ∙ c.name_if_gone.ensures runs (subst (λ some. AreOf some c.in_ok-instances.instances) c.runs_of.ensures c.in_ok-instances.ensures)
    ∙ ap (λ all. name_if (is_gone runs) (slice_get all (get_or numbers i 0))) c.items-expansions.ensures)

pub returns : goal.returns
returns c =
    let reading = c.args.self.now.reading.now in
    sym (no-name (is_gone (runs_in c.args.definition.now reading)) reading.pp.expansions c.expansions_of-numbers.result.now c.loop-number.number-index (gone_in c.args.definition.now reading)
    c.loop-number.invariant c.loop-number-test.false)
