-- The expansions at the positions are those of the definition.
use Rattle.std.proofs.Common.{sym, ap, ◌∙◌, get_or, slice_get}
use Rattle.dm_rules.specs.Listing.{first_name, name_if}
use Rattle.dm_rules.specs.Uses.{first_with, has_run, is_expansion}
use Rattle.dm_rules.proofs.ListLemmas.{first-named, no-name, name-here, name-later}
use Rattle.dm_rules.proofs.index.Index.first_with.Goals as goal

pub loop-number-init : goal.loop-number-init
loop-number-init c = λ runs are.
    let reading = c.args.self.now.reading.now in
    ap (first_name (has_run runs) reading.pp.expansions) c.expansions_of-numbers.ensures
    ∙ first-named (has_run runs) (is_expansion c.args.definition.now reading.pp.read) reading.pp.expansions

pub loop-number-preserved : goal.loop-number-preserved
loop-number-preserved c = λ runs are.
    let reading = c.args.self.now.reading.now in
    name-later (has_run runs) reading.pp.expansions c.expansions_of-numbers.result.now c.loop-number.number-index (first_with c.args.definition.now runs reading)
    (c.loop-number.invariant runs are) c.loop-number-test.true
    (sym c.in_default.is ∙ c.name_with_run.ensures runs are ∙ ap (λ all. name_if (has_run runs) (slice_get all (get_or c.expansions_of-numbers.result.now c.loop-number.number-index 0))) c.items-expansions.ensures)

pub returns-in-Some : goal.returns-in-Some
returns-in-Some c = λ runs are.
    let reading = c.args.self.now.reading.now in
    name-here (has_run runs) reading.pp.expansions c.expansions_of-numbers.result.now c.loop-number.number-index (first_with c.args.definition.now runs reading)
    (c.loop-number.invariant runs are) c.loop-number-test.true c.in-Some.place
    (sym c.in-Some.is ∙ c.name_with_run.ensures runs are ∙ ap (λ all. name_if (has_run runs) (slice_get all (get_or c.expansions_of-numbers.result.now c.loop-number.number-index 0))) c.items-expansions.ensures)

pub returns : goal.returns
returns c = λ runs are.
    let reading = c.args.self.now.reading.now in
    sym (no-name (has_run runs) reading.pp.expansions c.expansions_of-numbers.result.now c.loop-number.number-index (first_with c.args.definition.now runs reading)
    (c.loop-number.invariant runs are) c.loop-number-test.false)
