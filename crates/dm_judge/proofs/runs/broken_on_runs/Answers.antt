-- Meanings and notes at a place are of one reading, and of units that aren't looked up nothing is asked.
use Rattle.std.proofs.Common.{List, Option, ◌<◌, ◌≤◌, length, get_or, sym, ap, subst, ◌∙◌, arith}
use Rattle.std.specs.Prelude.{IfSome}
use Rattle.dm_tree.specs.TypeNumbers.{IsTypedUnit}
use Rattle.dm_meanings.specs.declared.meanings.Meanings.{Meanings}
use Rattle.dm_meanings.specs.First as first
use Rattle.dm_meanings.specs.First.{place_at, reading_of}
use Rattle.dm_meanings.proofs.MetLemmas.{first-unit, later-unit, no-unit}
use Rattle.dm_judge.specs.declared.notes.Notes.{Notes}
use Rattle.dm_judge.specs.Rules as rules
use Rattle.dm_judge.specs.Units.{IsNoted, readings_of}
use Rattle.dm_judge.proofs.SlotLemmas.{noted-at, same-on-runs, typed-at, zipped-count}
use Rattle.dm_judge.proofs.runs.broken_on_runs.Goals as goal

pub index-notes-requires : goal.index-notes-requires
index-notes-requires c =
    let units = c.args.units.now in
    omega (
      arith,
      zipped-count IsNoted units.meanings.items units.notes.items c.requires.whole.noted,
      c.loop-number-test.true,
      ap length c.as_slice-meanings.ensures.value,
      units.notes.ok.0,
    )

pub failing_at-requires-clause-typed : goal.failing_at-requires-clause-typed
failing_at-requires-clause-typed c =
    let units = c.args.units.now.meanings.items in
    let number = c.loop-number.number in
    let unit = c.index-meanings-number.result in
    subst (λ (one : Option Meanings). IfSome one (λ (each : Meanings). IsTypedUnit (reading_of each).types (reading_of each).core))
    (sym (c.index-meanings-number.is ∙ ap (λ (all : List (Option Meanings)). get_or all number unit) c.as_slice-meanings.ensures.value))
    (typed-at number (readings_of c.args.units.now) units unit c.requires.whole.typed c.requires.whole.meant
    (subst (λ (all : List (Option Meanings)). number < length all) c.as_slice-meanings.ensures.value c.loop-number-test.true))

pub failing_at-requires-clause-noted : goal.failing_at-requires-clause-noted
failing_at-requires-clause-noted c =
    let units = c.args.units.now.meanings.items in
    let notes = c.args.units.now.notes.items in
    let number = c.loop-number.number in
    let unit = c.index-meanings-number.result in
    let its = c.index-notes.result.now in
    subst (λ (one : Option Meanings). IsNoted one its)
    (sym (c.index-meanings-number.is ∙ ap (λ (all : List (Option Meanings)). get_or all number unit) c.as_slice-meanings.ensures.value))
    (subst (λ (one : Option Notes). IsNoted (get_or units number unit) one)
    (sym c.index-notes.ensures)
    (noted-at number units notes unit its c.requires.whole.noted
    (subst (λ (all : List (Option Meanings)). number < length all) c.as_slice-meanings.ensures.value c.loop-number-test.true)))

pub returns-in-Some : goal.returns-in-Some
returns-in-Some c =
    let units = c.args.units.now.meanings.items in
    let number = c.loop-number.number in
    let unit = c.index-meanings-number.result in
    let place = rules.failing_in c.args.rule c.args.definition.now in
    first-unit place units number (rules.broken_on_runs c.args.rule c.args.definition.now (first.readings_of units)) c.loop-number.invariant unit
    (subst (λ (all : List (Option Meanings)). number < length all) c.as_slice-meanings.ensures.value c.loop-number-test.true)
    c.in-Some.place
    (sym c.in-Some.is ∙ c.in_ok-found.ensures
    ∙ ap (place_at place) (c.index-meanings-number.is ∙ ap (λ (all : List (Option Meanings)). get_or all number unit) c.as_slice-meanings.ensures.value))
    ∙ same-on-runs c.args.definition.now (readings_of c.args.units.now) units c.requires.ready c.args.rule

pub loop-number-preserved : goal.loop-number-preserved
loop-number-preserved c =
    let units = c.args.units.now.meanings.items in
    let number = c.loop-number.number in
    let unit = c.index-meanings-number.result in
    let place = rules.failing_in c.args.rule c.args.definition.now in
    later-unit place units number (rules.broken_on_runs c.args.rule c.args.definition.now (first.readings_of units)) c.loop-number.invariant unit
    (subst (λ (all : List (Option Meanings)). number < length all) c.as_slice-meanings.ensures.value c.loop-number-test.true)
    (sym c.in_default.is ∙ c.in_ok-found.ensures
    ∙ ap (place_at place) (c.index-meanings-number.is ∙ ap (λ (all : List (Option Meanings)). get_or all number unit) c.as_slice-meanings.ensures.value))

pub returns : goal.returns
returns c =
    let units = c.args.units.now.meanings.items in
    let number = c.loop-number.number in
    let place = rules.failing_in c.args.rule c.args.definition.now in
    sym (no-unit place units number (rules.broken_on_runs c.args.rule c.args.definition.now (first.readings_of units)) c.loop-number.invariant
    (subst (λ (all : List (Option Meanings)). length all ≤ number) c.as_slice-meanings.ensures.value c.loop-number-test.false))
    ∙ same-on-runs c.args.definition.now (readings_of c.args.units.now) units c.requires.ready c.args.rule
